-- A format and a count stored, with the bytes and what fills them up after them.
use mathlib.Core.Path.{◌≡◌, ◌∙◌}
use mathlib.Core.List.{◌∷◌, ◌++◌, append-nil}
use Prim.Native.Nat.{◌+◌, ◌%◌}
use native.Mathlib.Omega.{arith}
use lib.ListN.{length, set, take, drop, replicate, length-drop}
use lib.Seq.{length-take-le}
use Rattle.codes.specs.Number.{put}
use Rattle.access.proofs.Copied.{copied_after, copied_filled}
use Rattle.access.proofs.Filled.{sofar}
use Rattle.access.proofs.read.put_copy.Goals as goal

pub returns-then-bytes-eq1 : goal.returns-then-bytes-eq1
returns-then-bytes-eq1 c =
    let a = c.args in
    let x = a.reply.now in
    let cs = take a.bytes (drop a.from a.part.now) in
    let long : length cs ≡ a.bytes = length-take-le a.bytes (drop a.from a.part.now) (omega (arith, length-drop a.from a.part.now)) in
    let same : set c.copy.new.out (x.next + 2 + a.bytes) 0 ≡ put x.bytes x.next (a.f ∷ a.n ∷ cs ++ replicate (a.bytes % 2) 0) =
    rw (c.if-bytes-eq1.true, c.copy.ensures) (rw long at (copied_filled x.bytes x.next a.f a.n cs (omega arith))) in
    λ i. sofar (same i) x.next x.error

pub returns-else-bytes-eq1 : goal.returns-else-bytes-eq1
returns-else-bytes-eq1 c =
    let a = c.args in
    let x = a.reply.now in
    let cs = take a.bytes (drop a.from a.part.now) in
    let long : length cs ≡ a.bytes = length-take-le a.bytes (drop a.from a.part.now) (omega (arith, length-drop a.from a.part.now)) in
    let even : a.bytes % 2 ≡ 0 = omega arith in
    let same : c.copy.new.out ≡ put x.bytes x.next (a.f ∷ a.n ∷ cs ++ replicate (a.bytes % 2) 0) =
    rw (even, append-nil cs) (c.copy.ensures ∙ copied_after x.bytes x.next a.f a.n cs (omega arith)) in
    λ i. sofar (same i) x.next x.error
