-- The first slots hold them.
use mathlib.Core.Path.{◌≡◌}
use Rattle.versions.specs.Keep.{fill_slots}
use Rattle.versions.proofs.keep.fill.Given as goal

abbrev pub invariant-loop-at : goal.invariant-loop-at
invariant-loop-at l = l.v ≡ fill_slots l.at l.part l.initial.v
