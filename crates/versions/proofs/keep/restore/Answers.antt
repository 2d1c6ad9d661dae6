-- Beside a slice of another size nothing changes.
use mathlib.Core.Path.{◌∙◌}
use Rattle.catalogue.specs.Table.{rows}
use Rattle.versions.specs.Layout.{last_at}
use Rattle.versions.proofs.Slots.{restored_alone, restored_is}
use Rattle.versions.proofs.keep.restore.Goals as goal

pub returns-in-Some : goal.returns-in-Some
unfolding last_at rows
returns-in-Some c =
    let a = c.args in
    let whole = c.in-Some.ensures.cases in
    c.give_rows.ensures ∙ rw (c.slot_of.ensures, whole.same) (restored_is a.part.now a.v.now whole.long a.n)

pub returns-in_default : goal.returns-in_default
unfolding last_at rows
returns-in_default c = let a = c.args in restored_alone a.part.now a.v.now c.in_default.ensures.cases a.n
