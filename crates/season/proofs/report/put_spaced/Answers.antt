-- One number more.
use mathlib.Core.Path.{refl}
use mathlib.Core.List.{◌∷◌}
use Prim.Native.Nat.{ℕ}
use native.Mathlib.Omega.{arith}
use Rattle.journal.specs.Text.{decimal}
use Rattle.journal.specs.Line.{space}
use Rattle.journal.proofs.Pieces.{and_then, said, within, fitted, one_more}
use Rattle.season.specs.Report.{spaced}
use Rattle.season.proofs.report.put_spaced.Goals as goal

pub loop-number-preserved : goal.loop-number-preserved
loop-number-preserved c =
    let l = c.loop-number in
    let number = fitted 21 c.put_spaced_number.ensures.text_after (omega arith) (omega arith) in
    within (said (and_then l.invariant number) (one_more (λ (n : ℕ). space ∷ decimal n) spaced refl (λ n ns. refl) c.args.numbers.now l.number-index (omega arith))) (omega arith)
