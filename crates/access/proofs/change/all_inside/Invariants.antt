-- The loop's invariant: what is left to test from where it stands decides as all of them do.
use Prim.Native.Nat.{◌-◌}
use Rattle.access.proofs.Storing.{Testing}
use Rattle.access.proofs.change.all_inside.Given as goal

abbrev pub invariant-loop : goal.invariant-loop
invariant-loop l = Testing l.r l.v.size l.v.count l.block l.v.at l.at (l.end - l.counter)
