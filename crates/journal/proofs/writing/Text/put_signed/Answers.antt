-- With its sign where it is below 0.
use mathlib.Core.Path.{sym, ap, ◌∙◌}
use mathlib.Core.List.{◌∷◌}
use Prim.Native.Nat.{ℕ}
use native.Mathlib.Omega.{arith}
use mir.Syntax.{w32}
use mir.ValLaws.{to_z-of_z}
use Rattle.journal.specs.Text.{decimal, signed}
use Rattle.journal.proofs.Pieces.{and_then, said, within, signed_below, signed_above}
use Rattle.journal.proofs.writing.Text.put_signed.Goals.{then-v-lt0, else-v-lt0}
use Rattle.journal.proofs.writing.Text.put_signed.Goals as goal

pub returns : goal.returns
returns c =
    let same = ap signed (sym (to_z-of_z w32 c.args.v c.ranges.v)) in
    let size = sym c.unsigned_abs.ensures.value in
    elim c.if-v-lt0.branch [
      | then-v-lt0 w ↦ said (and_then w.put_byte.ensures (rw w.self-is at c.put_decimal.ensures)) (same ∙ (signed_below _ w.if-v-lt0.true ∙ ap (λ (n : ℕ). 0x2D ∷ decimal n) size))
      | else-v-lt0 w ↦ within (said (rw w.self-is at c.put_decimal.ensures) (same ∙ (signed_above _ w.if-v-lt0.false ∙ ap decimal size))) (omega arith)
    ]
