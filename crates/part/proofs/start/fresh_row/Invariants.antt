-- The first i elements are fresh.
use Rattle.part.specs.Fresh.{fresh_elements}
use mathlib.Core.Path.{◌≡◌}
use Rattle.part.proofs.start.fresh_row.Given as goal

abbrev pub invariant-loop-i : goal.invariant-loop-i
invariant-loop-i l = l.part ≡ fresh_elements l.r l.i l.initial.part
