-- A block that fits is put, copied or gathered; else the error 0x15.
use mathlib.Core.Path.{◌≡◌, refl, ◌∙◌, ap}
use mathlib.Core.List.{List}
use Prim.Native.Nat.{ℕ, ◌+◌, ◌*◌, ◌%◌}
use native.Mathlib.Omega.{arith}
use Rattle.codes.specs.Number.{put}
use Rattle.codes.proofs.Fixed.{Bytes}
use Rattle.blocks.specs.Block.{Block}
use Rattle.blocks.specs.Page.{block_bytes}
use Rattle.catalogue.specs.Element.{size_code}
use Rattle.access.specs.declared.reply.Reply.{Reply}
use Rattle.access.specs.Read.{elements_from}
use Rattle.access.specs.Walk.{with_block}
use Rattle.access.proofs.Filled.{sofar}
use Rattle.access.proofs.Gathered.{copied_block}
use Rattle.access.proofs.Room.{elements_unfit, elements_written}
use Rattle.access.proofs.read.put_elements.Goals as goal
use Rattle.access.proofs.read.put_elements.Goals.{then-part-from, else-part-from}

pub returns-then-reply-size-gt-BLOCK_LIMIT : goal.returns-then-reply-size-gt-BLOCK_LIMIT
returns-then-reply-size-gt-BLOCK_LIMIT c =
    let a = c.args in
    let x = a.reply.now in
    let z = c.element_size-each in
    c.put_failed.ensures
    ∙ ap (λ (b : Block). with_block b x) (elements_unfit a.r a.i a.n a.part.now z.result z.ensures x.next a.after _ refl c.if-reply-size-gt-BLOCK_LIMIT.true)

pub returns : goal.returns
returns c =
    let a = c.args in
    let x = a.reply.now in
    let p = a.part.now in
    let y : Bytes p = λ i. omega (arith, c.type_inv.part i) in
    let z = c.element_size-each in
    let size = 2 + a.n * z.result + a.n * z.result % 2 in
    let b : Block = record { format = size_code a.r.kind; values = elements_from a.r a.i a.n p } in
    let same : c.if-part-from.reply ≡ sofar (put x.bytes x.next (block_bytes b)) x.next x.error =
    elim c.if-part-from.branch [
      | then-part-from w ↦ w.reply-is ∙ w.put_gathered.ensures
      | else-part-from w ↦ w.reply-is ∙ (w.put_copy.ensures ∙ ap (λ (l : List ℕ). sofar (put x.bytes x.next l) x.next x.error) (copied_block a.r p a.i a.n w.size_code.result w.size_code.ensures z.result z.ensures y (omega (arith, w.if-part-from.false))))
    ] in
    ap (λ (q : Reply). sofar q.bytes (q.next + size) q.error) same
    ∙ elements_written a.r a.i a.n p z.result z.ensures x.next a.after size refl x.bytes _ x.error (omega arith) refl
