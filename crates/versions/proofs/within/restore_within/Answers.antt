-- What is read is copied first; where no versions stand, nothing changes.
use native.Mathlib.Omega.{arith}
use mathlib.Core.Path.{ap}
use lib.ListN.{length, length-drop}
use Rattle.catalogue.specs.Table.{rows}
use Rattle.versions.specs.Layout.{last_at}
use Rattle.versions.proofs.Inner.{back_alone, back_is, rest_all, found, not_found}
use Rattle.versions.proofs.within.restore_within.Goals as goal

pub copy_from_slice-requires : goal.copy_from_slice-requires
unfolding last_at rows
copy_from_slice-requires c = let a = c.args in omega (arith, found _ _ c.stand_from.ensures c.if-stand_from.true, length-drop a.at a.part.now, ap length (rest_all a.at a.part.now (found _ _ c.stand_from.ensures c.if-stand_from.true)))

pub returns-then-stand_from : goal.returns-then-stand_from
returns-then-stand_from c =
    let a = c.args in
    back_is a.at a.part.now (found _ _ c.stand_from.ensures c.if-stand_from.true) a.n _ _ c.copy_from_slice.ensures.after c.restore.ensures

pub returns-else-stand_from : goal.returns-else-stand_from
returns-else-stand_from c = let a = c.args in back_alone a.at a.part.now (not_found _ _ c.stand_from.ensures c.if-stand_from.false) a.n
