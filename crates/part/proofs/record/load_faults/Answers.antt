-- The counter and the codes stand at their places.
use Rattle.catalogue.specs.Table.{rows, find_of, offset_of}
use Rattle.part.proofs.record.load_faults.Goals as goal

pub returns : goal.returns
unfolding offset_of find_of rows
returns c = rw (c.word_at.ensures, c.words_at.ensures)
