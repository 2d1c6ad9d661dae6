use Rattle.blocks.proofs.Readable.{unframed_response, response_identifier, header_end, answer_end}
use Rattle.blocks.specs.Walk.{Framed, map_got, standing}
use Rattle.codes.specs.Code.{read_times}
use Rattle.blocks.specs.Block.{response_block_fits, block}
use Rattle.blocks.specs.Response.{has_error}
use Rattle.codes.proofs.Fixed.{Bytes}
use Prim.Native.Nat.{ℕ}
use lib.ListN.{get_or, drop}
use mathlib.Core.Path.{refl, sym, ◌∙◌, ap}
use mathlib.Core.Bool.{true≢false}
use native.Mathlib.Omega.{arith}
use Rattle.blocks.proofs.response_readable.Goals as goal

pub returns-then-not-framed : goal.returns-then-not-framed
returns-then-not-framed c =
    let s = c.args.block.now in
    let y : Bytes s = λ i. omega (arith, c.type_inv.block i) in
    unframed_response s y (λ f. true≢false (sym (c.if-not-framed.ensures.1 f)))

pub returns-then-not-is_answer : goal.returns-then-not-is_answer
returns-then-not-is_answer c =
    let s = c.args.block.now in
    let y : Bytes s = λ i. omega (arith, c.type_inv.block i) in
    let w : Framed s = c.if-not-framed.ensures.0 refl in
    response_identifier s y w (sym c.is_answer.ensures ∙ c.if-not-is_answer.true)

pub returns-then-id-eq2 : goal.returns-then-id-eq2
returns-then-id-eq2 c =
    let s = c.args.block.now in
    let y : Bytes s = λ i. omega (arith, c.type_inv.block i) in
    let w : Framed s = c.if-not-framed.ensures.0 refl in
    header_end s y w (sym c.is_answer.ensures ∙ c.if-not-is_answer.false) c.if-id-eq2.true

pub returns : goal.returns
returns c =
    let s = c.args.block.now in
    let y : Bytes s = λ i. omega (arith, c.type_inv.block i) in
    let w : Framed s = c.if-not-framed.ensures.0 refl in
    let e = c.blocks_end in
    c.whole.ensures
    ∙ answer_end s y w (sym c.is_answer.ensures ∙ c.if-not-is_answer.false) c.if-id-eq2.false (standing s e.result)
    (e.ensures.stands ∙ ap (λ (m : ℕ). map_got has_error (read_times (block (response_block_fits (get_or s 1 0))).read m (drop 4 s))) c.from.ensures)
