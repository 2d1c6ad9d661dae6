-- What is read is copied first; where no versions stand, nothing changes.
use native.Mathlib.Omega.{arith}
use Rattle.catalogue.specs.Table.{rows, parameter_bytes}
use Rattle.versions.specs.Layout.{last_at}
use Rattle.versions.specs.Keep.{filled, filled_within}
use Rattle.versions.proofs.Inner.{element_front, filled_alike, filled_within_alone, within_is, found, not_found}
use Rattle.versions.proofs.within.fill_within.Goals as goal

pub elements_of-elements-requires : goal.elements_of-elements-requires
unfolding last_at rows parameter_bytes
elements_of-elements-requires c = omega (arith, found _ _ c.stand_from.ensures c.if-stand_from.true)

pub returns-then-stand_from : goal.returns-then-stand_from
unfolding filled_within last_at rows parameter_bytes
returns-then-stand_from c =
    let a = c.args in
    within_is a.at a.part.now (found _ _ c.stand_from.ensures c.if-stand_from.true) filled (filled_alike _ _ (element_front a.part.now (omega (arith, found _ _ c.stand_from.ensures c.if-stand_from.true)))) _ _ c.elements_of-elements.ensures c.fill.ensures

pub returns-else-stand_from : goal.returns-else-stand_from
returns-else-stand_from c = let a = c.args in filled_within_alone a.at a.part.now (not_found _ _ c.stand_from.ensures c.if-stand_from.false)
