-- What is read there, or nothing.
use mathlib.Core.Path.{sym, ap}
use native.Mathlib.Omega.{arith}
use Rattle.codes.specs.Number.{value_or}
use Rattle.codes.proofs.Fixed.{Bytes}
use Rattle.blocks.specs.Place.{no_address}
use Rattle.blocks.proofs.Addresses.{address_unread}
use Rattle.blocks.proofs.reader.address_of.Goals as goal

pub returns-then-not-stands : goal.returns-then-not-stands
returns-then-not-stands c =
    let s = c.args.block.now in
    let b : Bytes s = λ i. omega (arith, c.type_inv.block i) in
    sym (ap (value_or no_address) (address_unread s b c.args.at (grind arith)))

pub returns : goal.returns
returns c = sym (ap (value_or no_address) c.address_here.ensures)
