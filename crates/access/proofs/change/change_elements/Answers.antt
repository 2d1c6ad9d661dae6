-- The tests in their order, then the values, which are as wide as the elements.
use mathlib.Core.Path.{refl, sym, ◌∙◌, ap, subst}
use mathlib.Core.List.{List}
use Prim.Native.Nat.{ℕ}
use native.Mathlib.Omega.{arith}
use borrow.Author.Tests.{not-false}
use Rattle.blocks.specs.Block.{value_size, change_block_fits}
use Rattle.blocks.proofs.Blocks.{block_stands}
use Rattle.access.specs.Change.{store_whole}
use Rattle.access.specs.Walk.{block_in, Did}
use Rattle.access.proofs.Answers.{of_kind, format_same}
use Rattle.access.proofs.Storing.{values_room, values_stand}
use Rattle.access.proofs.Failing.{head_format, head_count, is_stored}
use borrow.Author.Rules.{rules}
use Rattle.access.proofs.change.change_elements.Goals as goal

pub overflow_add-v : goal.overflow_add-v
overflow_add-v c =
    let a = c.args in
    let s = a.block.now in
    omega (arith, values_room s a.at a.h (block_stands change_block_fits s a.at a.h c.requires.1) a.h.count refl)

pub store_whole-requires : goal.store_whole-requires
store_whole-requires c =
    let a = c.args in
    let s = a.block.now in
    let f = c.is_format in
    let st = block_stands change_block_fits s a.at a.h c.requires.1 in
    let known = sym f.ensures ∙ c.if-not-is_format.false in (
      search rules,
      values_room s a.at a.h st a.n c.if-h-n.false,
      st.size ∙ (ap value_size (sym st.format) ∙ format_same a.r.kind a.h.format (of_kind a.r.kind a.h.format known)),
    )

pub returns : goal.returns
returns c =
    let a = c.args in
    let s = a.block.now in
    let st = c.requires.1 in
    let f = c.is_format in
    let d = c.store_whole in
    is_stored a.a (block_in s a.at) a.part.now d.new.part a.r a.n a.h.format a.h.count d.result (head_format s a.at a.h st) (head_count s a.at a.h st)
    (not-false a.r.writable c.if-not-r.false)
    (sym f.ensures ∙ c.if-not-is_format.false)
    c.if-h-n.false
    (subst (λ (xs : List ℕ). Did (store_whole a.r a.a.subindex xs a.part.now) d.new.part d.result)
    (values_stand s a.at a.h (block_stands change_block_fits s a.at a.h st) a.n c.if-h-n.false)
    d.ensures)
