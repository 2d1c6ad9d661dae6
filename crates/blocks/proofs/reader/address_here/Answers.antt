-- Each part of the address is the number that stands at its place.
use Rattle.blocks.proofs.Addresses.{address_here}
use Rattle.codes.proofs.Fixed.{Bytes}
use native.Mathlib.Omega.{arith}
use Rattle.blocks.proofs.reader.address_here.Goals as goal

pub returns : goal.returns
returns c =
    let a = c.args in
    let b : Bytes a.s.now = λ i. omega (arith, c.type_inv.s i) in
    address_here a.s.now b a.at (omega arith) _ c.byte_at.ensures c.byte_at-2.ensures c.word_at.ensures c.word_at-2.ensures
