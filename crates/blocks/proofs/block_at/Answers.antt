-- No two bytes, no such format, or what follows them decides.
use mathlib.Core.Path.{sym, ◌∙◌}
use native.Mathlib.Omega.{arith}
use Prim.Native.Nat.{◌+◌}
use lib.ListN.{get_or}
use Rattle.codes.proofs.Fixed.{Bytes}
use Rattle.blocks.specs.Block.{change_block_fits}
use Rattle.blocks.proofs.Blocks.{block_stub, block_unfit}
use Rattle.blocks.proofs.Formats.{sized_format, change_fits, change_unfit}
use Rattle.blocks.proofs.block_at.Goals as goal

pub returns-in_err-format : goal.returns-in_err-format
returns-in_err-format c =
    let a = c.args in
    let y : Bytes a.s.now = λ i. omega (arith, c.type_inv.s i) in
    c.from_residual.ensures ∙ block_stub change_block_fits a.s.now y a.at (omega (arith, c.in_err-format.ensures))

pub returns-then-each-eq0 : goal.returns-then-each-eq0
returns-then-each-eq0 c =
    let a = c.args in
    let s = a.s.now in
    let y : Bytes s = λ i. omega (arith, c.type_inv.s i) in
    let t = c.in_ok-format.ensures in
    block_unfit change_block_fits s y a.at t.room (change_unfit (get_or s a.at 0) (get_or s (a.at + 1) 0) (rw t.format-is at (sym c.format_size-each.ensures.0 ∙ c.if-each-eq0.true)))

pub sized-requires : goal.sized-requires
sized-requires c =
    let p = c.in_ok-format.ensures in
    let z = rw p.format-is at c.format_size-each.ensures.0 in
    (p.room, z ∙ sym (sized_format (get_or c.args.s.now c.args.at 0) (λ e. c.if-each-eq0.false (z ∙ e))))

pub returns : goal.returns
returns c =
    let s = c.args.s.now in
    let at = c.args.at in
    let z = rw c.in_ok-format.ensures.format-is at c.format_size-each.ensures.0 in
    c.sized.ensures change_block_fits (change_fits (get_or s at 0) (get_or s (at + 1) 0) (λ e. c.if-each-eq0.false (z ∙ e)))
