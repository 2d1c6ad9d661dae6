-- The j-th value stands after the block's two bytes and j values.
use Rattle.blocks.specs.Block.{change_block_fits}
use Rattle.blocks.proofs.Blocks.{block_stands, value_nowhere, value_past, value_room, value_here}
use mathlib.Core.Path.{sym, ◌∙◌}
use native.Mathlib.Omega.{arith}
use Rattle.blocks.proofs.value_at.Goals as goal

pub returns-in_default : goal.returns-in_default
returns-in_default c =
    let a = c.args in
    value_nowhere a.s.now a.at a.j (sym c.block_at.ensures ∙ c.in_default.is)

pub overflow_add-at : goal.overflow_add-at
overflow_add-at c =
    let a = c.args in
    let st = block_stands change_block_fits a.s.now a.at c.in-Some.h (sym c.block_at.ensures ∙ c.in-Some.is) in
    omega (arith, value_room a.s.now a.at a.j c.in-Some.h st (omega arith))

pub overflow_mul-j : goal.overflow_mul-j
overflow_mul-j c =
    let a = c.args in
    let st = block_stands change_block_fits a.s.now a.at c.in-Some.h (sym c.block_at.ensures ∙ c.in-Some.is) in
    omega (arith, value_room a.s.now a.at a.j c.in-Some.h st (omega arith))

pub overflow_add-at-then-j-from : goal.overflow_add-at-then-j-from
overflow_add-at-then-j-from c =
    let a = c.args in
    let st = block_stands change_block_fits a.s.now a.at c.in-Some.h (sym c.block_at.ensures ∙ c.in-Some.is) in
    omega (arith, value_room a.s.now a.at a.j c.in-Some.h st (omega arith))

pub returns-then-j-from : goal.returns-then-j-from
returns-then-j-from c =
    let a = c.args in
    let st = block_stands change_block_fits a.s.now a.at c.in-Some.h (sym c.block_at.ensures ∙ c.in-Some.is) in
    c.number_at.ensures ∙ value_here a.s.now a.at a.j c.in-Some.h st (omega arith)

pub returns-else-j-from : goal.returns-else-j-from
returns-else-j-from c =
    let a = c.args in
    let st = block_stands change_block_fits a.s.now a.at c.in-Some.h (sym c.block_at.ensures ∙ c.in-Some.is) in
    value_past a.s.now a.at a.j c.in-Some.h st (omega arith)
