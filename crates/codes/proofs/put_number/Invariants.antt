-- Byte by byte from the last: what is left to put, with what is put, is what was to be put at first.
use Rattle.codes.specs.Code.{word}
use Rattle.codes.specs.Number.{put}
use Prim.Native.Nat.{◌-◌, ◌≤◌}
use mathlib.Core.Path.{◌≡◌}
use Rattle.codes.proofs.put_number.Given as goal

abbrev pub invariant-loop-i : goal.invariant-loop-i
invariant-loop-i l = (l.at ≤ l.i) × (put l.out l.at ((word (l.i - l.at)).write l.rest) ≡ put l.initial.out l.at ((word l.w).write l.x))
