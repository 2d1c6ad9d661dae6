-- A frame refused by numbers 2 to 9, a write and a read that passed them.
use mathlib.Core.Path.{◌≡◌, ap, ◌∙◌}
use lib.Dec.{eqb}
use lib.ListN.{length}
use borrow.Author.Rules.{rules}
use Rattle.std.specs.Prelude.{Result, Err}
use Rattle.station.specs.declared.Framed.{Framed}
use Rattle.station.specs.declared.refusal.Refusal.{Refusal}
use Rattle.station.specs.Inner.{byte_of, told, denied, reply_told}
use Rattle.station.proofs.Answers.{some_number}
use Rattle.station.proofs.Judged.{refused_early, passes}
use Rattle.station.proofs.Frames.{formed, refused_frame_lem, written_frame, fetched_frame}
use Rattle.station.proofs.part_frame.frame_on.Goals as goal

pub returns-in_err-judge : goal.returns-in_err-judge
returns-in_err-judge c =
    let a = c.args in
    let refusal = c.in_err-judge.field-0.0 in
    let r : Result Framed Refusal = c.from_residual.result in
    let h : r ≡ Err refusal = search rules in
    let e = refused_early _ _ c.in_err-judge.ensures.number (some_number refusal) in
    let o = refused_frame_lem a.k a.f.now a.reply.now a.part.now _ e (some_number refusal) in
    record {
      value = ap (told (denied a.f.now)) h ∙ o.0;
      reply_after = ap (reply_told a.f.now a.reply.now) h ∙ o.1.0;
      part_after = o.1.1;
    }

pub write_on-requires : goal.write_on-requires
write_on-requires c =
    let a = c.args in
    let j = c.in_ok-judge.ensures in
    let t = passes a.k a.f.now (length a.reply.now) a.part.now j.number in
    (t.head, ap (λ b. eqb b 0x5F) (j.asked ∙ ap byte_of c.in-Write.is))

pub returns-in-Write : goal.returns-in-Write
returns-in-Write c =
    let a = c.args in
    let j = c.in_ok-judge.ensures in
    let t = passes a.k a.f.now (length a.reply.now) a.part.now j.number in
    let o = written_frame a.k a.f.now a.reply.now a.part.now t (ap (λ b. eqb b 0x5F) (j.asked ∙ ap byte_of c.in-Write.is)) in
    let w = c.write_on.ensures in
    record { value = w.value ∙ o.0; reply_after = w.reply_after ∙ o.1.0; part_after = w.part_after ∙ o.1.1 }

pub read_on-requires : goal.read_on-requires
read_on-requires c =
    let a = c.args in
    let t = passes a.k a.f.now (length a.reply.now) a.part.now c.in_ok-judge.ensures.number in
    let h = formed a.k a.part.now t.formed in
    (h.0, (h.1, t.room))

pub returns-in-Read : goal.returns-in-Read
returns-in-Read c =
    let a = c.args in
    let j = c.in_ok-judge.ensures in
    let t = passes a.k a.f.now (length a.reply.now) a.part.now j.number in
    let o = fetched_frame a.k a.f.now a.reply.now a.part.now t (ap (λ b. eqb b 0x5F) (j.asked ∙ ap byte_of c.in-Read.is)) in
    let w = c.read_on.ensures in
    record { value = w.value ∙ o.0; reply_after = w.reply_after ∙ o.1.0; part_after = w.part_after ∙ o.1.1 }
