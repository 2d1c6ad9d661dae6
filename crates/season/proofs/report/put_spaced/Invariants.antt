-- The numbers passed are put, each after a space.
use lib.ListN.{take}
use Prim.Native.Nat.{◌*◌}
use Rattle.journal.specs.Written.{Wrote}
use Rattle.season.specs.Report.{spaced}
use Rattle.season.proofs.report.put_spaced.Given as goal

abbrev pub invariant-loop-number : goal.invariant-loop-number
invariant-loop-number l = Wrote (21 * l.number-index) (spaced (take l.number-index l.numbers)) l.initial.text l.text
