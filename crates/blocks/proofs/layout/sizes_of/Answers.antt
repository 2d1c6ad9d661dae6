-- A count that a byte holds, of values of at most four bytes, is small; what is left of it by 2 makes it even.
use Rattle.codes.proofs.Fixed.{small}
use Rattle.blocks.proofs.Blocks.{size_small, fill_even}
use native.Mathlib.Omega.{arith}
use mathlib.Core.Path.{refl, sym}
use Rattle.blocks.proofs.layout.sizes_of.Goals as goal

pub overflow_mul-bare : goal.overflow_mul-bare
overflow_mul-bare c =
    let z = c.value_size-each in
    omega (arith, small c.from.result z.result (omega arith) (rw z.ensures (size_small c.args.f)))

pub invariant_of-result : goal.invariant_of-result
invariant_of-result c =
    let z = c.value_size-each in
    let each = rw (sym z.ensures) at (size_small c.args.f) in
    record { small = (each, small c.from.result z.result (omega arith) each, omega arith) }

pub returns : goal.returns
returns c =
    let a = c.args in
    let z = c.value_size-each in
    rw (c.from.ensures, z.ensures, fill_even a.f a.n) (refl, refl, refl)
