-- Their bytes are copied, or each value that fits is stored.
use native.Mathlib.Omega.{arith}
use Rattle.codes.proofs.Fixed.{Bytes}
use Rattle.access.proofs.Storing.{store_copied}
use Rattle.access.proofs.change.store.Goals as goal

pub returns-else-part-first : goal.returns-else-part-first
returns-else-part-first c =
    let a = c.args in
    let s = a.block.now in
    let y : Bytes s = λ i. omega (arith, c.type_inv.block i) in
    store_copied a.r a.v.size a.v.count s a.v.at a.i a.part.now _ c.requires.2 y c.requires.1 (omega arith) c.copy.ensures
