-- The rows before i are fresh.
use Rattle.part.proofs.FreshLaws.{rows_next, rows_done}
use Rattle.part.specs.Fresh.{fresh_elements, fresh_rows}
use Rattle.catalogue.specs.Table.{rows, row_at}
use Rattle.catalogue.specs.declared.Row.{Row}
use lib.ListN.{drop}
use Prim.Native.Nat.{◌+◌}
use native.Mathlib.Omega.{arith}
use mathlib.Core.Path.{◌≡◌, sym, ◌∙◌, ap}
use Rattle.part.proofs.start.fresh_rows.Goals as goal

pub loop-i-preserved : goal.loop-i-preserved
unfolding rows
loop-i-preserved c =
    let l = c.loop-i in
    let e : c.fresh_row.new.part ≡ fresh_elements (row_at l.i) (row_at l.i).count l.part =
    c.fresh_row.ensures ∙ ap (λ (r : Row). fresh_elements r r.count l.part) c.row_at.ensures in
    ap (fresh_rows (drop (l.i + 1) rows)) e ∙ (sym (rows_next l.i l.part (omega arith)) ∙ l.invariant)

pub returns : goal.returns
unfolding rows
returns c =
    let l = c.loop-i in
    sym (rows_done l.i l.part (omega arith)) ∙ l.invariant
