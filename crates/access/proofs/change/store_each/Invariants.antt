-- The loop's invariant: what is left to store from where it stands is what was to be stored at first.
use Prim.Native.Nat.{◌-◌}
use Rattle.access.proofs.Storing.{Storing}
use Rattle.access.proofs.change.store_each.Given as goal

abbrev pub invariant-loop-to : goal.invariant-loop-to
invariant-loop-to l = Storing l.r l.v.size l.v.count l.block l.v.at l.i l.initial.part l.part l.at l.to (l.to-end - l.to)
