-- A block stands there, so its two bytes do, and its values and what fills them up end where the next begins.
use mathlib.Core.Path.{refl}
use native.Mathlib.Omega.{arith}
use Rattle.codes.proofs.Fixed.{Bytes}
use Rattle.access.proofs.Heads.{head_room, head_is, bare_small}
use Rattle.access.proofs.change.head_here.Goals as goal

pub bounds-block-at : goal.bounds-block-at
bounds-block-at c =
    omega (arith, head_room c.args.block.now c.args.at c.requires.0 c.requires.1)

pub overflow_add-n : goal.overflow_add-n
overflow_add-n c =
    omega (arith, head_room c.args.block.now c.args.at c.requires.0 c.requires.1)

pub bounds-block-at-2 : goal.bounds-block-at-2
bounds-block-at-2 c =
    omega (arith, head_room c.args.block.now c.args.at c.requires.0 c.requires.1)

pub overflow_add-result : goal.overflow_add-result
overflow_add-result c =
    let s = c.args.block.now in
    let y : Bytes s = λ i. omega (arith, c.type_inv.block i) in
    omega (arith, head_room s c.args.at c.requires.0 c.requires.1, bare_small s c.args.at c.requires.0 c.requires.1 y _ _ c.format_size-size.ensures.0 refl)

pub overflow_add-result-2 : goal.overflow_add-result-2
overflow_add-result-2 c =
    let s = c.args.block.now in
    let y : Bytes s = λ i. omega (arith, c.type_inv.block i) in
    omega (arith, head_room s c.args.at c.requires.0 c.requires.1, bare_small s c.args.at c.requires.0 c.requires.1 y _ _ c.format_size-size.ensures.0 refl)

pub overflow_add-result-3 : goal.overflow_add-result-3
overflow_add-result-3 c =
    let s = c.args.block.now in
    let y : Bytes s = λ i. omega (arith, c.type_inv.block i) in
    omega (arith, head_room s c.args.at c.requires.0 c.requires.1, bare_small s c.args.at c.requires.0 c.requires.1 y _ _ c.format_size-size.ensures.0 refl)

pub returns : goal.returns
returns c =
    let s = c.args.block.now in
    let y : Bytes s = λ i. omega (arith, c.type_inv.block i) in
    head_is s c.args.at c.requires.0 c.requires.1 y _ _ c.format_size-size.ensures.0 refl
