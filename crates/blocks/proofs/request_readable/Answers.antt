use Rattle.blocks.proofs.Readable.{unframed_request, request_identifier, request_addresses, read_end, change_end}
use Rattle.blocks.specs.Walk.{Framed, map_got, standing}
use Rattle.codes.specs.Code.{read_times}
use Rattle.blocks.specs.Block.{change_block_fits, block}
use Rattle.blocks.specs.Response.{has_error}
use Rattle.codes.proofs.Fixed.{Bytes}
use Prim.Native.Nat.{ℕ, ◌+◌, ◌*◌}
use lib.ListN.{drop}
use mathlib.Core.Path.{refl, sym, ◌∙◌, ap₂}
use mathlib.Core.Bool.{true≢false}
use native.Mathlib.Omega.{arith}
use Rattle.blocks.proofs.request_readable.Goals as goal

pub returns-then-not-framed : goal.returns-then-not-framed
returns-then-not-framed c =
    let s = c.args.block.now in
    let y : Bytes s = λ i. omega (arith, c.type_inv.block i) in
    unframed_request s y (λ f. true≢false (sym (c.if-not-framed.ensures.1 f)))

pub returns-then-not-is_request : goal.returns-then-not-is_request
returns-then-not-is_request c =
    let s = c.args.block.now in
    let y : Bytes s = λ i. omega (arith, c.type_inv.block i) in
    let w : Framed s = c.if-not-framed.ensures.0 refl in
    request_identifier s y w (sym c.is_request.ensures ∙ c.if-not-is_request.true)

pub returns-then-block-from : goal.returns-then-block-from
returns-then-block-from c =
    let s = c.args.block.now in
    let y : Bytes s = λ i. omega (arith, c.type_inv.block i) in
    let w : Framed s = c.if-not-framed.ensures.0 refl in
    request_addresses s y w (sym c.is_request.ensures ∙ c.if-not-is_request.false) (omega (arith, c.from.ensures))

pub returns-then-id-ne2 : goal.returns-then-id-ne2
returns-then-id-ne2 c =
    let s = c.args.block.now in
    let y : Bytes s = λ i. omega (arith, c.type_inv.block i) in
    let w : Framed s = c.if-not-framed.ensures.0 refl in
    rw c.from.ensures (read_end s y w (sym c.is_request.ensures ∙ c.if-not-is_request.false) c.if-id-ne2.true (omega (arith, c.from.ensures)))

pub returns : goal.returns
returns c =
    let s = c.args.block.now in
    let y : Bytes s = λ i. omega (arith, c.type_inv.block i) in
    let w : Framed s = c.if-not-framed.ensures.0 refl in
    let e = c.blocks_end in
    c.whole.ensures
    ∙ change_end s y w (sym c.is_request.ensures ∙ c.if-not-is_request.false) c.if-id-ne2.false (omega (arith, c.from.ensures)) (standing s e.result)
    (e.ensures.stands ∙ ap₂ (λ (m k : ℕ). map_got has_error (read_times (block change_block_fits).read m (drop (4 + k * 6) s))) c.from-2.ensures c.from.ensures)
