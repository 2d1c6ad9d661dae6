-- The byte before the response's bytes.
use Rattle.catalogue.specs.Table.{rows, parameter_bytes}
use Rattle.part.proofs.response.waiting_length.Goals as goal

pub returns : goal.returns
unfolding parameter_bytes rows
returns c = c.byte_at.ensures
