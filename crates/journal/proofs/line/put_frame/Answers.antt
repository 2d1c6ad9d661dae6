-- The pieces of the line one after the other.
use Rattle.journal.proofs.Lines.{frame_pieces}
use Rattle.journal.proofs.Pieces.{and_then, said}
use Rattle.journal.proofs.line.put_frame.Goals as goal

pub returns : goal.returns
returns c =
    let a = c.args in
    let line = and_then c.put_head.ensures (and_then c.put_count.ensures (and_then c.put_reply.ensures c.put_byte.ensures)) in
    said (rw (c.from.ensures, c.frame_letter.ensures, c.from-n.ensures) at line) (frame_pieces a.merged a.farm a.f a.reply.now)
