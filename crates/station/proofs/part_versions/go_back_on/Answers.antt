-- A going back that is done.
use mathlib.Core.Path.{sym, ap, ◌∙◌}
use Rattle.catalogue.specs.Table.{rows, parameter_bytes}
use Rattle.part.specs.Layout.{with_version}
use Rattle.station.proofs.Returning.{versions_lent, went_back}
use Rattle.station.proofs.part_versions.go_back_on.Goals as goal

pub returns : goal.returns
unfolding parameter_bytes rows
returns c =
    let a = c.args in
    let p = a.part.now in
    let last = c.last_used-last in
    let kept = sym (rw (versions_lent p) at c.is_kept.ensures) ∙ c.if-not-is_kept.false in
    let o = went_back a.k a.version p (sym c.well_formed-2.ensures ∙ c.if-not-well_formed.false) kept last.result (rw (versions_lent p) at last.ensures) c.if-last.false in
    record { value = o.0; part_after = c.take_within.ensures ∙ (ap with_version c.restore_within.ensures ∙ o.1) }
