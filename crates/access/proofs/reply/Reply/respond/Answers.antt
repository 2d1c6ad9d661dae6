-- The header over the first four bytes, and all of it waits: it is no more than a block.
use mathlib.Core.Path.{◌∙◌, ap}
use mathlib.Core.List.{List}
use Prim.Native.Nat.{ℕ}
use native.Mathlib.Omega.{arith}
use lib.ListN.{take, length-take}
use lib.Seq.{take_all}
use Rattle.blocks.specs.Block.{block_limit}
use Rattle.part.specs.Layout.{with_response}
use Rattle.access.proofs.Responding.{header_over}
use Rattle.access.proofs.reply.Reply.respond.Goals as goal

pub returns : goal.returns
returns c =
    let a = c.args in
    let x = a.self.now in
    let out = c.put_header.new.out in
    let long = length-take x.next x.bytes in
    c.put_response.ensures
    ∙ (ap (λ (l : List ℕ). with_response l a.part.now) (take_all block_limit out (omega (arith, c.put_header.auto.out, long)))
    ∙ ap (λ (l : List ℕ). with_response l a.part.now)
    (c.put_header.ensures ∙ header_over (take x.next x.bytes) (record { reference = a.h.reference; identifier = a.identifier; axis = a.h.axis; count = a.h.count }) (omega (arith, long))))
