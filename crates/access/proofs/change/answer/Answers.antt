-- On all bytes, or on none where the numbers are used up; then the header alone, or with 82 the blocks after it.
use mathlib.Core.Path.{sym, ◌∙◌, ap}
use mathlib.Core.List.{◌++◌}
use mathlib.Core.Logic.{inl, inr}
use lib.Dec.{lit≤}
use lib.ListN.{drop}
use Rattle.catalogue.specs.Table.{rows, parameter_bytes}
use Rattle.access.specs.declared.reply.Reply.{Reply}
use Rattle.access.proofs.Apart.{Lent}
use Rattle.access.proofs.Requested.{count_few, walk_whole, blocks_whole}
use Rattle.access.proofs.Responding.{past_header, Versioned, change_room, change_refused, change_failed, change_done}
use Rattle.access.proofs.change.answer.Goals as goal
use Rattle.access.proofs.change.answer.Goals.{then-used_up, else-used_up, then-stored-ne0+else-used_up-2, else-stored-ne0}

pub change_all-stored-requires : goal.change_all-stored-requires
change_all-stored-requires c =
    let s = c.args.block.now in
    let p = c.requires in
    (walk_whole s p.0 c.args.h p.1, blocks_whole s p.0 c.args.h p.1 p.2, count_few s p.0 c.args.h p.1, ap (λ (x : Reply). x.next) c.new-reply.ensures)

pub returns-then-used_up-2 : goal.returns-then-used_up-2
returns-then-used_up-2 c =
    let a = c.args in
    let lent : Lent c.is_used_up-used_up.result c.if-used_up.open a.part.now =
    elim c.if-used_up.branch [ then-used_up w ↦ inl (w.if-used_up.true, w.open-is) | else-used_up w ↦ inr (w.if-used_up.false, w.open-is) ] in
    let o = c.change_all-stored in
    change_refused a.block.now c.requires.0 a.h c.requires.1 a.part.now c.new-reply.result c.new-reply.ensures c.requires.2
    c.is_used_up-used_up.result c.if-used_up.open lent o.new.part o.new.reply o.result o.ensures c.is_used_up-used_up.ensures c.if-used_up-2.true c.if-stored-ne0.true

pub respond-requires : goal.respond-requires
respond-requires c =
    let a = c.args in
    let lent : Lent c.is_used_up-used_up.result c.if-used_up.open a.part.now =
    elim c.if-used_up.branch [ then-used_up w ↦ inl (w.if-used_up.true, w.open-is) | else-used_up w ↦ inr (w.if-used_up.false, w.open-is) ] in
    let o = c.change_all-stored in
    change_room a.block.now c.requires.0 a.h c.requires.1 a.part.now c.new-reply.result c.new-reply.ensures c.requires.2
    c.is_used_up-used_up.result c.if-used_up.open lent o.new.part o.new.reply o.result o.ensures

pub returns-then-reply : goal.returns-then-reply
unfolding parameter_bytes rows
returns-then-reply c =
    let a = c.args in
    let lent : Lent c.is_used_up-used_up.result c.if-used_up.open a.part.now =
    elim c.if-used_up.branch [ then-used_up w ↦ inl (w.if-used_up.true, w.open-is) | else-used_up w ↦ inr (w.if-used_up.false, w.open-is) ] in
    let o = c.change_all-stored in
    let versioned : Versioned c.is_used_up-used_up.result o.result (o.new.part ++ drop c.if-used_up.open a.part.now) c.if-stored-ne0.part =
    elim c.if-stored-ne0.branch [ then-stored-ne0+else-used_up-2 w ↦ inl (w.if-stored-ne0.true, w.if-used_up-2.false, w.part-is ∙ w.take_within.ensures) | else-stored-ne0 w ↦ inr (w.if-stored-ne0.false, w.part-is) ] in
    let room = change_room a.block.now c.requires.0 a.h c.requires.1 a.part.now c.new-reply.result c.new-reply.ensures c.requires.2
    c.is_used_up-used_up.result c.if-used_up.open lent o.new.part o.new.reply o.result o.ensures in
    change_failed a.block.now c.requires.0 a.h c.requires.1 a.part.now c.new-reply.result c.new-reply.ensures c.requires.2
    c.is_used_up-used_up.result c.if-used_up.open lent o.new.part o.new.reply o.result o.ensures c.is_used_up-used_up.ensures
    c.if-stored-ne0.part versioned c.if-reply.true _ (rw (sym (past_header o.new.reply.bytes o.new.reply.next room.0)) c.respond.ensures)

pub returns-else-reply : goal.returns-else-reply
unfolding parameter_bytes rows
returns-else-reply c =
    let a = c.args in
    let lent : Lent c.is_used_up-used_up.result c.if-used_up.open a.part.now =
    elim c.if-used_up.branch [ then-used_up w ↦ inl (w.if-used_up.true, w.open-is) | else-used_up w ↦ inr (w.if-used_up.false, w.open-is) ] in
    let o = c.change_all-stored in
    let versioned : Versioned c.is_used_up-used_up.result o.result (o.new.part ++ drop c.if-used_up.open a.part.now) c.if-stored-ne0.part =
    elim c.if-stored-ne0.branch [ then-stored-ne0+else-used_up-2 w ↦ inl (w.if-stored-ne0.true, w.if-used_up-2.false, w.part-is ∙ w.take_within.ensures) | else-stored-ne0 w ↦ inr (w.if-stored-ne0.false, w.part-is) ] in
    change_done a.block.now c.requires.0 a.h c.requires.1 a.part.now c.new-reply.result c.new-reply.ensures c.requires.2
    c.is_used_up-used_up.result c.if-used_up.open lent o.new.part o.new.reply o.result o.ensures c.is_used_up-used_up.ensures
    c.if-stored-ne0.part versioned c.if-reply.false _ (rw (sym (past_header o.new.reply.bytes 4 (lit≤ tt))) c.respond-else-reply.ensures)
