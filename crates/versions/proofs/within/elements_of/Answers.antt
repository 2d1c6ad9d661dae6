-- They stand first.
use mathlib.Core.Path.{sym}
use lib.Seq.{length-take-le}
use Rattle.catalogue.specs.Table.{rows, parameter_bytes}
use Rattle.versions.proofs.within.elements_of.Goals as goal

pub slice_bounds-copy_from_slice-end-2 : goal.slice_bounds-copy_from_slice-end-2
unfolding rows parameter_bytes
slice_bounds-copy_from_slice-end-2 c = sym (length-take-le 118 c.args.part.now c.requires)

pub copy_from_slice-requires : goal.copy_from_slice-requires
unfolding rows parameter_bytes
copy_from_slice-requires c = sym (length-take-le 118 c.args.part.now c.requires)

pub returns : goal.returns
unfolding rows parameter_bytes
returns c = c.copy_from_slice.ensures.after
