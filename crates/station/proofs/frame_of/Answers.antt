-- Numbers 1 and 2 are settled here; else the part is lent and comes back.
use mathlib.Core.Path.{◌≡◌, ap, ap₂, ◌∙◌}
use borrow.Author.Rules.{rules}
use Rattle.std.specs.Prelude.{Result, Err}
use Rattle.station.specs.declared.Framed.{Framed}
use Rattle.station.specs.declared.refusal.Refusal.{Refusal}
use Rattle.station.specs.Calls.{kinds, frame, to_frame}
use Rattle.station.specs.Inner.{told, denied, reply_told}
use Rattle.station.proofs.Answers.{refuses, lent, does}
use Rattle.station.proofs.frame_of.Goals as goal

pub returns-in_err-place : goal.returns-in_err-place
returns-in_err-place c =
    let a = c.args in
    let refusal = c.in_err-place.field-0.0 in
    let r : Result Framed Refusal = c.from_residual.result in
    let h : r ≡ Err refusal = search rules in
    let e = refuses kinds (frame a.farm a.f.now a.reply.now) a.station.now refusal c.in_err-place.ensures.number in
    record {
      reply_after = ap (λ (x : Result Framed Refusal). to_frame (told (denied a.f.now) x) (reply_told a.f.now a.reply.now x)) h ∙ e.0;
      station_after = e.1;
    }

pub returns : goal.returns
returns c =
    let a = c.args in
    let s = a.station.now in
    let call = frame a.farm a.f.now a.reply.now in
    let at = c.in_ok-place.ensures.place in
    let e = rw (lent kinds call s _ at) at c.frame_on.ensures in
    let both = does kinds call s _ at _ c.frame_on.new.part (ap₂ to_frame e.value e.reply_after) e.part_after in
    record { reply_after = both.0; station_after = both.1 }
