-- An error block takes four bytes.
use mathlib.Core.Path.{◌≡◌, sym, ◌∙◌, ap}
use Prim.Native.Nat.{ℕ, ◌+◌}
use lib.ListN.{length}
use Rattle.codes.specs.Number.{put}
use Rattle.blocks.specs.Page.{block_bytes}
use Rattle.blocks.proofs.Parts.{error_bytes}
use Rattle.access.specs.Address.{error_block}
use Rattle.access.proofs.Filled.{sofar, or_one}
use Rattle.access.proofs.Room.{error_size}
use Rattle.access.proofs.reply.Reply.put_failed.Goals as goal

pub returns : goal.returns
returns c =
    let a = c.args in
    let x = a.self.now in
    let bytes : c.put_error.new.out ≡ put x.bytes x.next (block_bytes (error_block a.error)) =
    rw (← c.from.ensures) (c.put_error.ensures ∙ ap (put x.bytes x.next) (sym (error_bytes c.from.result))) in
    let next : x.next + 4 ≡ x.next + length (block_bytes (error_block a.error)) = ap (λ (k : ℕ). x.next + k) (sym (error_size a.error)) in
    λ i. sofar (bytes i) (next i) (or_one x.error i)
