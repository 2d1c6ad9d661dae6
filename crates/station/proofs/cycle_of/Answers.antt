-- Numbers 1 and 2 are settled here; else the part is lent and comes back.
use mathlib.Core.Path.{◌≡◌, ap, ◌∙◌}
use borrow.Author.Rules.{rules}
use Rattle.std.specs.Prelude.{Result, Err}
use Rattle.station.specs.declared.CycleDone.{CycleDone}
use Rattle.station.specs.declared.refusal.Refusal.{Refusal}
use Rattle.station.specs.Calls.{kinds, cycle, to_cycle}
use Rattle.station.specs.Cycle.{refused_cycle}
use Rattle.station.specs.Inner.{told}
use Rattle.station.proofs.Answers.{refuses, lent, does}
use Rattle.station.proofs.cycle_of.Goals as goal

pub returns-in_err-place : goal.returns-in_err-place
returns-in_err-place c =
    let a = c.args in
    let refusal = c.in_err-place.field-0.0 in
    let r : Result CycleDone Refusal = c.from_residual.result in
    let h : r ≡ Err refusal = search rules in
    let e = refuses kinds (cycle a.axis a.sent) a.station.now refusal c.in_err-place.ensures.number in
    record { value = ap (λ (x : Result CycleDone Refusal). to_cycle (told refused_cycle x)) h ∙ e.0; station_after = e.1 }

pub returns : goal.returns
returns c =
    let a = c.args in
    let s = a.station.now in
    let call = cycle a.axis a.sent in
    let at = c.in_ok-place.ensures.place in
    let e = rw (lent kinds call s _ at) at c.cycle_on.ensures in
    let both = does kinds call s _ at _ c.cycle_on.new.part (ap to_cycle e.value) e.part_after in
    record { value = both.0; station_after = both.1 }
