-- Numbers 1 and 2 are settled here; else the part is lent.
use mathlib.Core.Path.{◌≡◌, refl, ap, ◌∙◌}
use borrow.Author.Rules.{rules}
use Rattle.std.specs.Prelude.{Result, Err}
use Rattle.station.specs.declared.Listed.{Listed}
use Rattle.station.specs.declared.refusal.Refusal.{Refusal}
use Rattle.station.specs.Parts.{part_of}
use Rattle.station.specs.Calls.{kinds, list, to_list}
use Rattle.station.specs.Versions.{refused_list}
use Rattle.station.specs.Inner.{told}
use Rattle.station.proofs.Answers.{refuses, lent, does}
use Rattle.station.proofs.list_of.Goals as goal

pub returns-in_err-place : goal.returns-in_err-place
returns-in_err-place c =
    let a = c.args in
    let refusal = c.in_err-place.field-0.0 in
    let r : Result Listed Refusal = c.from_residual.result in
    let h : r ≡ Err refusal = search rules in
    ap (λ (x : Result Listed Refusal). to_list (told refused_list x)) h ∙ (refuses kinds (list a.farm) a.station.now refusal c.in_err-place.ensures.number).0

pub returns : goal.returns
returns c =
    let a = c.args in
    let s = a.station.now in
    let call = list a.farm in
    let at = c.in_ok-place.ensures.place in
    let e = rw (lent kinds call s _ at) at c.list_on.ensures in
    (does kinds call s _ at _ (part_of a.farm s) (ap to_list e) refl).0
