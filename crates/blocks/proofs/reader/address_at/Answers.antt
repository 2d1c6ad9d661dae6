-- Each test that fails says why there is no address at the place.
use Rattle.blocks.proofs.Addresses.{address_end, address_short, address_next}
use Rattle.codes.proofs.Fixed.{Bytes}
use mathlib.Core.Path.{sym}
use native.Mathlib.Omega.{arith}
use Rattle.blocks.proofs.reader.address_at.Goals as goal

pub returns-then-not-stands : goal.returns-then-not-stands
returns-then-not-stands c =
    let s = c.args.block.now in
    let b : Bytes s = λ i. omega (arith, c.type_inv.block i) in
    sym (address_short s b c.args.at (grind arith))

pub returns-then-from-at : goal.returns-then-from-at
returns-then-from-at c =
    sym (address_end c.args.block.now c.args.at (omega (arith, c.from.ensures, c.byte_at.ensures)))

pub returns : goal.returns
returns c =
    sym (address_next c.args.block.now c.args.at _ _ c.address_here.ensures (omega (arith, c.from.ensures, c.byte_at.ensures)))
