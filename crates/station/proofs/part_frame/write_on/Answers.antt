-- The block is worked; a refusal of it is handed on, under its number.
use mathlib.Core.Path.{ap, ◌∙◌}
use Rattle.std.proofs.lemmas.Result.{err_from_is_err_and}
use Rattle.std.specs.Prelude.{Result}
use Rattle.station.specs.declared.Framed.{Framed}
use Rattle.station.specs.declared.refusal.Refusal.{Refusal}
use Rattle.station.specs.Refusal.{refusal_number}
use Rattle.station.specs.Inner.{told, denied, reply_told}
use Rattle.station.proofs.Answers.{some_number}
use Rattle.station.proofs.Frames.{rest_of, block_refused}
use Rattle.station.proofs.part_frame.write_on.Goals as goal

pub returns-in_err-stored : goal.returns-in_err-stored
returns-in_err-stored c =
    let a = c.args in
    let r : Result Framed Refusal = c.from_residual.result in
    let p = err_from_is_err_and r c.from_residual.ensures.1 in
    let w = rw (rest_of a.f.now) at c.in_err-stored.ensures in
    let o = block_refused a.k a.f.now a.reply.now a.part.now (refusal_number p.0) (p.2 ∙ w.0) (some_number p.0) in
    record {
      value = ap (told (denied a.f.now)) p.1 ∙ o.0;
      reply_after = ap (reply_told a.f.now a.reply.now) p.1 ∙ o.1;
      part_after = w.2;
    }
