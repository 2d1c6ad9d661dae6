-- The first j elements are gathered.
use mathlib.Core.Path.{◌≡◌}
use lib.ListN.{length, take}
use Rattle.drive.specs.Faults.{buffer_codes}
use Rattle.access.specs.Read.{elements_from}
use Rattle.access.proofs.read.gather.Given as goal

abbrev pub invariant-loop-j : goal.invariant-loop-j
invariant-loop-j l = (length l.values ≡ buffer_codes) × (take l.j l.values ≡ elements_from l.r l.i l.j l.part)
