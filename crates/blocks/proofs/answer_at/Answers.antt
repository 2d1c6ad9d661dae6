-- No two bytes, a block that the identifier does not allow, or what follows them decides.
use mathlib.Core.Path.{sym, ◌∙◌, ap}
use native.Mathlib.Omega.{arith}
use Rattle.codes.proofs.Fixed.{Bytes}
use Rattle.blocks.specs.Block.{value_size, response_block_fits}
use Rattle.blocks.proofs.Blocks.{block_stub, block_unfit}
use Rattle.blocks.proofs.Formats.{code_value, answer_code}
use Rattle.blocks.proofs.answer_at.Goals as goal

pub returns-in_err-format : goal.returns-in_err-format
returns-in_err-format c =
    let a = c.args in
    let y : Bytes a.s.now = λ i. omega (arith, c.type_inv.s i) in
    c.from_residual.ensures ∙ block_stub (response_block_fits a.id) a.s.now y a.at (omega (arith, c.in_err-format.ensures))

pub returns-then-not-response_block_fits : goal.returns-then-not-response_block_fits
returns-then-not-response_block_fits c =
    let a = c.args in
    let y : Bytes a.s.now = λ i. omega (arith, c.type_inv.s i) in
    let t = c.in_ok-format.ensures in
    block_unfit (response_block_fits a.id) a.s.now y a.at t.room (rw (t.format-is, t.count-is) at (sym c.response_block_fits.ensures ∙ c.if-not-response_block_fits.true))

pub sized-requires : goal.sized-requires
sized-requires c =
    let p = c.in_ok-format.ensures in
    let f = c.in_ok-format.format in
    let code = answer_code f c.args.id c.in_ok-format.count (sym c.response_block_fits.ensures ∙ c.if-not-response_block_fits.false) in
    (p.room, c.code_size.ensures.0 ∙ code_value f code ∙ ap value_size p.format-is)

pub returns : goal.returns
returns c =
    let p = c.in_ok-format.ensures in
    c.sized.ensures (response_block_fits c.args.id) (rw (p.format-is, p.count-is) at (sym c.response_block_fits.ensures ∙ c.if-not-response_block_fits.false))
