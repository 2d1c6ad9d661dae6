-- Blocks are even: a block of values is filled up, and all else of a request or a response has an even number of bytes.
use mathlib.Core.Path.{◌≡◌, refl, ap}
use mathlib.Core.List.{List, [], ◌∷◌}
use Prim.Native.Nat.{◌%◌}
use native.Mathlib.Omega.{arith}
use lib.ListN.{length, length-append}
use Rattle.codes.specs.Code.{write_all}
use Rattle.codes.proofs.Items.{all_length}
use Rattle.blocks.specs.Block.{Block}
use Rattle.blocks.specs.Page.{address_bytes, block_bytes}
use Rattle.blocks.specs.Laws.{EvenBlock, BlockLength, EvenRequest, EvenResponse}
use Rattle.blocks.proofs.Blocks.{fill_even, values_size_lem}
use Rattle.blocks.proofs.Parts.{block_written}
use Rattle.blocks.proofs.Demand.{requests, responses}

pub block_length : BlockLength
block_length b =
    let n = length b.values in
    omega (arith, block_written b.format n b.values refl, values_size_lem b.format n, fill_even b.format n)

pub even_block : EvenBlock
even_block b = omega (arith, block_length b)

even_blocks : (bs : List Block) → length (write_all block_bytes bs) % 2 ≡ 0
even_blocks [] = refl
even_blocks (b ∷ bs) = omega (arith, length-append (block_bytes b) (write_all block_bytes bs), even_block b, even_blocks bs)

pub even_request : EvenRequest
even_request s e =
    let w = ((requests.exact s).0 e).1 in
    let r = w.0 in
    let all = write_all address_bytes r.addresses in
    let values = write_all block_bytes r.blocks in
    omega (arith, ap length w.2, length-append all values, all_length address_bytes 6 (λ a. refl) r.addresses, even_blocks r.blocks)

pub even_response : EvenResponse
even_response s e = let w = ((responses.exact s).0 e).1 in omega (arith, ap length w.2, even_blocks w.0.blocks)
