-- The space, and at most twenty digits.
use mathlib.Core.Path.{sym, ap, ◌∙◌}
use mathlib.Core.List.{List, ◌∷◌, ◌++◌}
use Prim.Native.Nat.{ℕ}
use native.Mathlib.Omega.{arith}
use lib.ListN.{drop}
use Rattle.journal.specs.Text.{decimal}
use Rattle.journal.specs.Line.{space}
use Rattle.journal.proofs.Pieces.{and_then, said, whole, twenty}
use Rattle.journal.proofs.writing.spaced_number.Goals as goal

pub returns : goal.returns
returns c =
    let w = said (and_then c.put_byte.ensures c.put_decimal_in.ensures) (ap (λ (l : List ℕ). space ∷ l) (twenty c.args.x)) in
    let none = c.new-text.ensures.none in
    record {
      memory_after = whole w none ∙ (λ j. (space ∷ decimal c.args.x) ++ drop (sym c.len.ensures.value j) (c.new-text.ensures.memory_value j));
      value = (omega (arith, w.longer, none, c.len.ensures.value), omega (arith, w.longer, w.limit, none, c.len.ensures.value));
    }
