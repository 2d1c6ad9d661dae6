-- Steps 2 and 3 apart from the others, and a quiet cycle, which leaves the faults as they are. Assumes nothing.
use mathlib.Core.Path.{◌≡◌, refl, sym, ◌∙◌}
use mathlib.Core.Bool.{true, false, and-eq-true_iff}
use lib.Dec.{eqb}
use borrow.Author.Tests.{not-true}
use borrow.Table.Steps.{cases}
use Rattle.drive.specs.declared.Drive.{Drive}
use Rattle.drive.specs.declared.Input.{Input}
use Rattle.drive.specs.Faults.{is_empty_of}
use Rattle.drive.specs.Cycle.{word_of, acknowledges, after_ack, after_code, cycle_of}
use Rattle.drive.specs.Motion.{moved_of, quiet_of}
use Rattle.drive.specs.Laws.{acknowledges_in, CycleMoves, QuietExactly, QuietKeepsFaults}

pub cycle_moves : CycleMoves
unfolding cycle_of moved_of
cycle_moves d i = refl

pub quiet_exactly : QuietExactly
unfolding quiet_of acknowledges word_of
quiet_exactly d i = cases (eqb i.fault 0) (λ e. rw e) (λ e. rw e)

module _ (d : Drive) (i : Input) (quiet : quiet_of d.motion.word (is_empty_of d.faults) i ≡ true) where
  no_code : eqb i.fault 0 ≡ true
  no_code = ((and-eq-true_iff (eqb i.fault 0) _).0 (sym (quiet_exactly d i) ∙ quiet)).0

  no_acknowledge : acknowledges_in d i ≡ false
  no_acknowledge = not-true (acknowledges_in d i) ((and-eq-true_iff (eqb i.fault 0) _).0 (sym (quiet_exactly d i) ∙ quiet)).1

pub quiet_keeps_faults : QuietKeepsFaults
unfolding after_ack after_code
quiet_keeps_faults d i quiet = rw (no_acknowledge d i quiet, no_code d i quiet) at (cycle_moves d i)
