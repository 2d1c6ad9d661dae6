-- Of 930 and 965; no other row is fixed.
use Rattle.part.proofs.Every.{fixed_rows}
use Rattle.part.specs.WellFormed.{fixed_fit}
use Rattle.catalogue.specs.Table.{rows, row_at}
use Rattle.std.proofs.Common.{rules, tests}
use mathlib.Core.Bool.{◌&&◌}
use mathlib.Core.Path.{◌≡◌, ◌∙◌}
use Rattle.part.proofs.form.fixed_rows_fit.Goals as goal

pub returns-then-fixed_fits : goal.returns-then-fixed_fits
unfolding rows row_at
returns-then-fixed_fits c =
    let p = c.args.part.now in
    let both : c.fixed_fits-then-fixed_fits.result ≡ (fixed_fit p (row_at 0) && fixed_fit p (row_at 3)) = search (rules, tests) in
    both ∙ fixed_rows p

pub returns-else-fixed_fits : goal.returns-else-fixed_fits
unfolding rows row_at
returns-else-fixed_fits c =
    let p = c.args.part.now in
    let both : c.fixed_fits.result ≡ (fixed_fit p (row_at 0) && fixed_fit p (row_at 3)) = search (rules, tests) in
    both ∙ fixed_rows p
