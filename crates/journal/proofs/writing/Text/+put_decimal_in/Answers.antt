-- The digits before the last, and the last.
use mathlib.Core.Path.{sym, ap, ◌∙◌}
use mathlib.Core.List.{[], ◌∷◌, ◌++◌}
use Prim.Native.Nat.{ℕ, ◌-◌, ◌/◌}
use native.Mathlib.Omega.{arith}
use Rattle.journal.specs.Text.{decimal_in}
use Rattle.journal.proofs.Pieces.{and_then, said, within, decimal_more}
use Rattle.journal.proofs.writing.Text.+put_decimal_in.Goals as goal

pub returns : goal.returns
returns t c =
    let a = c.args in
    let last = ap (λ (d : ℕ). decimal_in (a.n - 1) (a.x / 10) ++ (d ∷ [])) (sym c.digit-2.ensures) in
    within (said (and_then c.put_decimal_in.ensures c.put_byte-2.ensures) (decimal_more a.n a.x (omega arith) (omega arith) ∙ last)) (omega arith)
