-- The blocks after the header, with 81 where one is an error.
use mathlib.Core.Path.{◌≡◌, refl, sym, ap}
use mathlib.Core.Bool.{cond}
use Rattle.access.specs.declared.reply.Reply.{Reply}
use Rattle.access.proofs.Requested.{count_few, walk_whole}
use Rattle.access.proofs.Responding.{past_header, read_room, read_leaves}
use Rattle.access.proofs.read.answer.Goals as goal
use Rattle.access.proofs.read.answer.Goals.{then-reply, else-reply}

pub read_all-requires : goal.read_all-requires
read_all-requires c =
    let a = c.args in
    let p = c.requires in
    (walk_whole a.block.now p.0 a.h p.1, count_few a.block.now p.0 a.h p.1, ap (λ (x : Reply). x.next) c.new-reply.ensures)

pub respond-requires : goal.respond-requires
respond-requires c =
    let a = c.args in
    let p = c.requires in
    read_room a.block.now p.0 a.h p.1 a.part.now c.new-reply.result c.new-reply.ensures c.read_all.new.reply c.read_all.ensures

pub returns : goal.returns
returns c =
    let a = c.args in
    let p = c.requires in
    let y = c.read_all.new.reply in
    let room = read_room a.block.now p.0 a.h p.1 a.part.now c.new-reply.result c.new-reply.ensures y c.read_all.ensures in
    let known : c.if-reply.identifier ≡ cond y.error 0x81 0x01 =
    elim c.if-reply.branch [ then-reply x ↦ rw (x.identifier-is, x.if-reply.true) | else-reply x ↦ rw (x.identifier-is, x.if-reply.false) ] in
    read_leaves a.block.now p.0 a.h p.1 a.part.now c.new-reply.result c.new-reply.ensures y c.read_all.ensures y.error refl _ (rw (sym known, sym (past_header y.bytes y.next room.0)) c.respond.ensures)
