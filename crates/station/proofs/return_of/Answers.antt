-- Numbers 1 and 2 are settled here; else the part is lent and comes back.
use mathlib.Core.Path.{◌≡◌, ap, ◌∙◌}
use borrow.Author.Rules.{rules}
use Rattle.std.specs.Prelude.{Result, Err}
use Rattle.station.specs.declared.Returned.{Returned}
use Rattle.station.specs.declared.refusal.Refusal.{Refusal}
use Rattle.station.specs.Calls.{kinds, go_back, to_return}
use Rattle.station.specs.Versions.{refused_return}
use Rattle.station.specs.Inner.{told}
use Rattle.station.proofs.Answers.{refuses, lent, does}
use Rattle.station.proofs.return_of.Goals as goal

pub returns-in_err-place : goal.returns-in_err-place
returns-in_err-place c =
    let a = c.args in
    let refusal = c.in_err-place.field-0.0 in
    let r : Result Returned Refusal = c.from_residual.result in
    let h : r ≡ Err refusal = search rules in
    let e = refuses kinds (go_back a.farm a.version) a.station.now refusal c.in_err-place.ensures.number in
    record { value = ap (λ (x : Result Returned Refusal). to_return (told refused_return x)) h ∙ e.0; station_after = e.1 }

pub returns : goal.returns
returns c =
    let a = c.args in
    let s = a.station.now in
    let call = go_back a.farm a.version in
    let at = c.in_ok-place.ensures.place in
    let e = rw (lent kinds call s _ at) at c.go_back_on.ensures in
    let both = does kinds call s _ at _ c.go_back_on.new.part (ap to_return e.value) e.part_after in
    record { value = both.0; station_after = both.1 }
