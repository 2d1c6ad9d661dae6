-- `40 00` takes two bytes.
use mathlib.Core.Path.{◌≡◌}
use mathlib.Core.List.{[], ◌∷◌}
use Prim.Native.Nat.{suc, ◌+◌}
use native.Mathlib.Numerals.{add-one}
use native.Mathlib.Omega.{arith}
use lib.ListN.{set}
use Rattle.codes.specs.Number.{put}
use Rattle.codes.proofs.Put.{sets_put}
use Rattle.blocks.specs.Page.{block_bytes}
use Rattle.access.specs.Address.{empty_block}
use Rattle.access.proofs.Filled.{sofar, or_none}
use Rattle.access.proofs.reply.Reply.put_empty.Goals as goal

pub returns : goal.returns
returns c =
    let x = c.args.self.now in
    let next : x.next + 1 ≡ suc x.next = add-one x.next in
    let bytes : set (set x.bytes x.next 0x40) (x.next + 1) 0 ≡ put x.bytes x.next (block_bytes empty_block) =
    rw next (sets_put x.bytes x.next (0x40 ∷ 0 ∷ []) (omega arith)) in
    λ i. sofar (bytes i) (x.next + 2) (or_none x.error i)
