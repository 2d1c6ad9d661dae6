-- `speed::scale` meets its contract: the product and the quotient fit. Assumes nothing.
use borrow.Author.Rules.{rules}
use mir.Syntax.{w16, w32}
use mir.Val.{SFits}
use mir.Facts.{to_z-of_z}
use Rattle.drive.proofs.Signed.{held, widen_back, small, prod_fits, cut_fits}
use Rattle.drive.proofs.speed.scale.Goals as goal

pub returns : goal.returns
returns c =
    let figure : SFits w16 c.args.e.0 = search rules in
    let reference = c.ranges.reference in
    let product = prod_fits figure reference.fits in
    rw (
      widen_back c.from.ensures figure,
      held w32 c.from-2.ensures (small reference),
      to_z-of_z product,
      to_z-of_z (cut_fits product),
    )
