-- The first rows fit.
use mathlib.Core.Path.{◌≡◌}
use mathlib.Core.Bool.{true}
use lib.ListN.{take}
use Rattle.versions.specs.Fit.{columns_fit, every_columns}
use Rattle.versions.proofs.limits.fit.Given as goal

abbrev pub invariant-loop-c : goal.invariant-loop-c
invariant-loop-c l = every_columns (columns_fit l.s) (take l.c-index l.c-items) ≡ true
