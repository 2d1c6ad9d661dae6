-- The first e elements are given back.
use mathlib.Core.Path.{◌≡◌}
use Rattle.versions.specs.Keep.{give_elements}
use Rattle.versions.proofs.Columns.give.Given as goal

abbrev pub invariant-loop-e : goal.invariant-loop-e
invariant-loop-e l = l.part ≡ give_elements l.self l.slot.at l.v l.e l.initial.part
