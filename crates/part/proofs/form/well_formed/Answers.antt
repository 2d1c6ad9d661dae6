-- Memory of another size is no part.
use Rattle.part.proofs.Rule.{wrong_size}
use Rattle.part.specs.WellFormed.{well_formed}
use Rattle.catalogue.specs.Table.{rows, parameter_bytes}
use Rattle.versions.specs.Layout.{last_at}
use mathlib.Core.Path.{◌∙◌, ap}
use Rattle.part.proofs.form.well_formed.Goals as goal

pub returns-in-Ok : goal.returns-in-Ok
returns-in-Ok c = let whole = c.in-Ok.ensures in c.fits.ensures ∙ ap (well_formed c.args.axis) whole.1.same

pub returns-in-Err : goal.returns-in-Err
unfolding parameter_bytes rows last_at
returns-in-Err c = let other = c.in-Err.ensures in wrong_size c.args.axis c.args.part.now other.1
