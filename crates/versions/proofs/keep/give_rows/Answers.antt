-- Row by row, each after the one before it.
use Rattle.catalogue.specs.Table.{rows}
use Rattle.versions.specs.declared.Columns.{Columns}
use Rattle.versions.specs.declared.Columns.{Columns}
use Rattle.versions.specs.Layout.{columns}
use Rattle.versions.specs.Keep.{give_elements}
use Rattle.versions.proofs.Slots.{columns_at, each_row}
use Rattle.versions.proofs.keep.give_rows.Goals as goal

pub returns : goal.returns
unfolding columns columns_at rows
returns c =
    let a = c.args in
    each_row (λ (k : Columns). give_elements k a.slot.at a.v.now k.row.count) a.part.now _ _ _ _ _ _ _
    c.give.ensures
    c.give-2.ensures
    c.give-3.ensures
    c.give-4.ensures
    c.give-5.ensures
    c.give-6.ensures
    c.give-7.ensures
