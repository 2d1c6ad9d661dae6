-- The pieces of the line one after the other.
use Rattle.journal.proofs.Lines.{return_worked}
use Rattle.journal.proofs.Pieces.{and_then, said}
use Rattle.journal.proofs.line.put_return.Goals as goal

pub returns : goal.returns
returns c =
    let a = c.args in
    let line = and_then c.put_head.ensures (and_then c.put_count.ensures (and_then c.put_count-2.ensures c.put_byte.ensures)) in
    said (rw c.from.ensures at line) (return_worked a.farm a.r c.if-r-ne0.false)
