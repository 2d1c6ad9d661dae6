-- The first code of the buffer is 0.
use Rattle.catalogue.specs.Table.{rows, find_of, offset_of}
use Rattle.part.proofs.record.has_no_fault.Goals as goal

pub returns : goal.returns
unfolding offset_of find_of rows
returns c = rw c.word_at.ensures
