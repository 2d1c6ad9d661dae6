-- Part after part, each made fresh after those that are.
use mathlib.Core.Path.{◌≡◌}
use Prim.Native.Nat.{◌*◌}
use lib.ListN.{take}
use Rattle.part.specs.Layout.{part_size}
use Rattle.station.specs.Parts.{fresh_parts}
use Rattle.station.proofs.fresh.Given as goal

abbrev pub invariant-loop-i : goal.invariant-loop-i
invariant-loop-i l = take (l.i * part_size) l.station ≡ fresh_parts l.i
