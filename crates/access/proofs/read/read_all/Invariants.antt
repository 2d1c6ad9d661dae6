-- The loop's invariant: what is left to answer from where it stands is what was to be answered at first.
use mathlib.Core.Path.{◌≡◌}
use Prim.Native.Nat.{◌+◌, ◌*◌}
use Rattle.access.proofs.Reading.{Reading}
use Rattle.access.proofs.read.read_all.Given as goal

abbrev pub invariant-loop-after : goal.invariant-loop-after
invariant-loop-after l =
    record {
      place : l.at + l.after * 6 ≡ 4 + l.n * 6;
      answers : Reading l.part l.block l.n l.initial.reply l.reply l.at l.after;
    }
