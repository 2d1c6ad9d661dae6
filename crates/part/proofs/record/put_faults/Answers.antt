-- The counter, then the codes.
use Rattle.catalogue.specs.Table.{rows, find_of, offset_of}
use Rattle.part.proofs.record.put_faults.Goals as goal

pub returns : goal.returns
unfolding offset_of find_of rows
returns c = rw (c.put_codes.ensures, c.put_word.ensures)
