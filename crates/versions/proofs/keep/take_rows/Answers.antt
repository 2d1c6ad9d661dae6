-- Row by row, each after the one before it.
use Rattle.catalogue.specs.Table.{rows}
use Rattle.versions.specs.declared.Columns.{Columns}
use Rattle.versions.specs.declared.Columns.{Columns}
use Rattle.versions.specs.Layout.{columns}
use Rattle.versions.specs.Keep.{take_elements}
use Rattle.versions.proofs.Slots.{columns_at, each_row}
use Rattle.versions.proofs.keep.take_rows.Goals as goal

pub returns : goal.returns
unfolding columns columns_at rows
returns c =
    let a = c.args in
    each_row (λ (k : Columns). take_elements k a.slot.at a.part.now k.row.count) a.v.now _ _ _ _ _ _ _
    c.take.ensures
    c.take-2.ensures
    c.take-3.ensures
    c.take-4.ensures
    c.take-5.ensures
    c.take-6.ensures
    c.take-7.ensures
