-- One situation after the other.
use Rattle.part.proofs.Situations.{all_situations}
use Rattle.part.specs.Record.{words_at}
use Rattle.drive.specs.Faults.{situation_codes, proper}
use Rattle.catalogue.specs.Table.{rows, find_of, offset_of}
use Rattle.std.proofs.lemmas.Iterator.{YieldsList-from_range}
use Rattle.std.proofs.lemmas.Iterator.Search.{all_from_yields_List}
use Rattle.std.proofs.Common.{rules, tests}
use Prim.Native.Nat.{ℕ, ◌+◌, ◌*◌}
use mathlib.Core.Path.{refl, ◌∙◌}
use Rattle.part.proofs.form.situations_fit.Goals as goal

pub returns : goal.returns
unfolding offset_of find_of rows
returns c =
    let p = c.args.part.now in
    all_from_yields_List (λ (k : ℕ). proper (words_at situation_codes p (offset_of 947 + k * (situation_codes * 2)))) _ _ c.all.result c.all.ensures.ran (YieldsList-from_range 0 4 4 refl refl) (λ x b q k. search (rules, tests))
    ∙ all_situations p (offset_of 947)
