-- The first e elements are taken.
use mathlib.Core.Path.{◌≡◌}
use Rattle.versions.specs.Keep.{take_elements}
use Rattle.versions.proofs.Columns.take.Given as goal

abbrev pub invariant-loop-e : goal.invariant-loop-e
invariant-loop-e l = l.v ≡ take_elements l.self l.slot.at l.part l.e l.initial.v
