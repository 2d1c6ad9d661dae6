-- What is read is copied first; where no versions stand, nothing changes.
use native.Mathlib.Omega.{arith}
use Rattle.catalogue.specs.Table.{rows, parameter_bytes}
use Rattle.versions.specs.Layout.{last_at}
use Rattle.versions.specs.Keep.{taken, taken_within}
use Rattle.versions.proofs.Inner.{element_front, taken_alike, within_alone, within_is, found, not_found}
use Rattle.versions.proofs.within.take_within.Goals as goal

pub elements_of-elements-requires : goal.elements_of-elements-requires
unfolding last_at rows parameter_bytes
elements_of-elements-requires c = omega (arith, found _ _ c.stand_from.ensures c.if-stand_from.true)

pub returns-then-stand_from : goal.returns-then-stand_from
unfolding taken_within last_at rows parameter_bytes
returns-then-stand_from c =
    let a = c.args in
    within_is a.at a.part.now (found _ _ c.stand_from.ensures c.if-stand_from.true) taken (taken_alike _ _ (element_front a.part.now (omega (arith, found _ _ c.stand_from.ensures c.if-stand_from.true)))) _ _ c.elements_of-elements.ensures c.take.ensures

pub returns-else-stand_from : goal.returns-else-stand_from
returns-else-stand_from c = let a = c.args in within_alone a.at a.part.now (not_found _ _ c.stand_from.ensures c.if-stand_from.false)
