-- Where nothing is seen yet, the situations before k have at most one code each.
use Rattle.drive.specs.Faults.{situation_codes, zeros}
use Rattle.catalogue.specs.Table.{offset_of}
use lib.Dec.{eqb}
use lib.ListN.{take, drop}
use mathlib.Core.Bool.{true}
use Prim.Native.Nat.{ℕ, ◌+◌, ◌*◌, ◌-◌, ◌<◌}
use mathlib.Core.Path.{◌≡◌}
use Rattle.part.proofs.form.are_single.Given as goal

abbrev pub invariant-loop-k : goal.invariant-loop-k
invariant-loop-k l = eqb l.seen 0 ≡ true → (k : ℕ) → k < l.k → zeros (take ((situation_codes - 1) * 2) (drop (offset_of 947 + k * (situation_codes * 2) + 2) l.part)) ≡ true
