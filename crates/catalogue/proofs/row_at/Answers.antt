-- Past the end of the table stands no row.
use mathlib.Core.Path.{sym}
use lib.ListN.{get_or-eq_default}
use Rattle.catalogue.specs.Table.{rows, no_row, row_at}
use Rattle.catalogue.proofs.row_at.Goals as goal

pub returns-else-i-lt-ROWS : goal.returns-else-i-lt-ROWS
unfolding row_at rows
returns-else-i-lt-ROWS c = sym (get_or-eq_default rows no_row {n = c.args.i} c.if-i-lt-ROWS.false)
