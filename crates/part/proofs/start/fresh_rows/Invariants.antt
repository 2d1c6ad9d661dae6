-- The rows before i are fresh.
use Rattle.part.specs.Fresh.{fresh_rows}
use Rattle.catalogue.specs.Table.{rows}
use lib.ListN.{drop}
use mathlib.Core.Path.{◌≡◌}
use Rattle.part.proofs.start.fresh_rows.Given as goal

abbrev pub invariant-loop-i : goal.invariant-loop-i
invariant-loop-i l = fresh_rows (drop l.i rows) l.part ≡ fresh_rows rows l.initial.part
