-- The loop's invariant: what is left to do from where it stands is what was to be done at first.
use mathlib.Core.Path.{◌≡◌}
use Prim.Native.Nat.{◌+◌, ◌-◌, ◌*◌}
use Rattle.access.proofs.Changing.{Changing}
use Rattle.access.proofs.change.change_all.Given as goal

abbrev pub invariant-loop : goal.invariant-loop
invariant-loop l =
    record {
      place : l.at ≡ 4 + l.counter * 6;
      changes : Changing l.block l.n l.initial.part l.part l.initial.reply l.reply l.at l.from (l.n - l.counter) l.stored;
    }
