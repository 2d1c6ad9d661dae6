-- What the record did, counted for its farm.
use mathlib.Core.Path.{sym, ap, ◌∙◌}
use mathlib.Core.List.{List}
use Prim.Native.Nat.{ℕ}
use Rattle.std.specs.Prelude.{Option, Some}
use Rattle.journal.specs.declared.Acted.{Acted}
use Rattle.season.specs.Season.{Season, added}
use Rattle.season.proofs.Adds.{of_acted, step_of_lem}
use Rattle.season.proofs.step.Goals as goal

pub returns-in-Some-Cycle : goal.returns-in-Some-Cycle
returns-in-Some-Cycle c =
    let a = c.args in
    let act = c.in-Some-Cycle.is ∙ ap Some c.in-Some-Cycle.field-0-is in
    let e = step_of_lem a.bytes.now a.station.now a.totals.now ∙ ap (λ (d : Option Acted). of_acted d a.totals.now) (sym c.act.ensures.value ∙ act) in
    let same = ap (λ (l : List ℕ). added c.in-Some-Cycle.axis l a.totals.now) c.of_cycle.ensures ∙ sym e in
    record { value = c.add.ensures.value ∙ ap (λ (t : Season). t.last) same; totals_after = c.add.ensures.totals_after ∙ ap (λ (t : Season). t.totals) same; station_after = c.act.ensures.station_after }

pub returns-in-Some-Frame : goal.returns-in-Some-Frame
returns-in-Some-Frame c =
    let a = c.args in
    let act = c.in-Some-Frame.is ∙ ap Some c.in-Some-Frame.field-0-is in
    let e = step_of_lem a.bytes.now a.station.now a.totals.now ∙ ap (λ (d : Option Acted). of_acted d a.totals.now) (sym c.act.ensures.value ∙ act) in
    let same = ap (λ (l : List ℕ). added c.in-Some-Frame.farm l a.totals.now) c.of_frame.ensures ∙ sym e in
    record { value = c.add-in-Some-Frame.ensures.value ∙ ap (λ (t : Season). t.last) same; totals_after = c.add-in-Some-Frame.ensures.totals_after ∙ ap (λ (t : Season). t.totals) same; station_after = c.act.ensures.station_after }

pub returns-in-Some-Return : goal.returns-in-Some-Return
returns-in-Some-Return c =
    let a = c.args in
    let act = c.in-Some-Return.is ∙ ap Some c.in-Some-Return.field-0-is in
    let e = step_of_lem a.bytes.now a.station.now a.totals.now ∙ ap (λ (d : Option Acted). of_acted d a.totals.now) (sym c.act.ensures.value ∙ act) in
    let same = ap (λ (l : List ℕ). added c.in-Some-Return.farm l a.totals.now) c.of_return.ensures ∙ sym e in
    record { value = c.add-in-Some-Return.ensures.value ∙ ap (λ (t : Season). t.last) same; totals_after = c.add-in-Some-Return.ensures.totals_after ∙ ap (λ (t : Season). t.totals) same; station_after = c.act.ensures.station_after }

pub returns-in-None : goal.returns-in-None
returns-in-None c =
    let a = c.args in
    let e = step_of_lem a.bytes.now a.station.now a.totals.now ∙ ap (λ (d : Option Acted). of_acted d a.totals.now) (sym c.act.ensures.value ∙ c.in-None.is) in
    record { value = ap (λ (t : Season). t.last) (sym e); totals_after = ap (λ (t : Season). t.totals) (sym e); station_after = c.act.ensures.station_after }
