-- Byte by byte, each after those that are put.
use Rattle.codes.specs.Number.{put}
use lib.ListN.{length, take}
use mathlib.Core.Path.{◌≡◌}
use Rattle.codes.proofs.put_bytes.Given as goal

abbrev pub invariant-loop-i : goal.invariant-loop-i
invariant-loop-i l = (length l.out ≡ length l.initial.out) × (l.out ≡ put l.initial.out l.at (take l.i l.from))
