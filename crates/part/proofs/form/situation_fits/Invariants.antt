-- Each code before i is no 0 and does not stand again.
use Rattle.drive.specs.Faults.{proper}
use lib.ListN.{drop}
use mathlib.Core.Path.{◌≡◌}
use Rattle.part.proofs.form.situation_fits.Given as goal

abbrev pub invariant-loop-i : goal.invariant-loop-i
invariant-loop-i l = proper l.s ≡ proper (drop l.i l.s)
