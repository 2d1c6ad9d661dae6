-- The pieces of the line one after the other.
use mathlib.Core.Path.{ap}
use mir.Syntax.{w32}
use mir.ValLaws.{to_z-of_z}
use borrow.Author.Rules.{rules}
use Rattle.journal.specs.Text.{signed}
use Rattle.journal.proofs.Lines.{cycle_worked}
use Rattle.journal.proofs.Pieces.{and_then, said}
use Rattle.journal.proofs.line.put_cycle.Goals as goal

pub returns : goal.returns
returns c =
    let a = c.args in
    let same = ap signed (to_z-of_z w32 a.c.rpm (search rules)) in
    let line = rw (c.from.ensures, same) at (and_then c.put_head.ensures (and_then c.put_state.ensures (and_then c.put_status.ensures (and_then c.put_speed.ensures c.put_byte.ensures)))) in
    said line (cycle_worked a.axis a.c c.if-c-ne0.false)
