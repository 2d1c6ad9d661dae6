-- What is too long is not put; else a format and a count stored, with the values and what fills them up after them, are the block.
use Rattle.blocks.proofs.Parts.{block_too_long, block_stored}
use lib.ListN.{length}
use native.Mathlib.Omega.{arith}
use mathlib.Core.Path.{◌≡◌, sym}
use Rattle.blocks.proofs.writer.put_block.Goals as goal

pub returns-then-not-stands : goal.returns-then-not-stands
returns-then-not-stands c =
    let a = c.args in
    let n : c.in-Ok.n ≡ length a.values.now = omega (arith, c.in-Ok.ensures) in
    let z = rw n at c.sizes_of-z.ensures in
    sym (block_too_long a.out.now a.at a.f a.values.now (omega (arith, c.in-Ok.ensures)) (grind (arith, z.1, z.2)))

pub returns : goal.returns
returns c =
    let a = c.args in
    let n : c.in-Ok.n ≡ length a.values.now = omega (arith, c.in-Ok.ensures) in
    let z = rw n at c.sizes_of-z.ensures in
    rw (c.put_fill.ensures, c.put_values.ensures, z.0, z.1, z.2, n)
    (block_stored a.out.now a.at a.f a.values.now (omega (arith, c.in-Ok.ensures)) (omega (arith, z.1, z.2)))
