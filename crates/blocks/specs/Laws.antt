-- Document 02, R-2, "the profile keeps the block at even length": what that says of every block. Each is a statement here and a proof in
-- proofs/.
use Rattle.std.specs.Prelude.{◌≡◌, List, true, ℕ, ◌+◌, ◌*◌, ◌%◌, length}
use Rattle.codes.specs.Code.{readable}
use Rattle.blocks.specs.Block.{Block, block_limit, value_size}
use Rattle.blocks.specs.Request.{request}
use Rattle.blocks.specs.Response.{response}
use Rattle.blocks.specs.Page.{block_bytes}

-- each block of values takes an even number of bytes, whatever its format and values
abbrev pub EvenBlock : Type 0
EvenBlock = (b : Block) → length (block_bytes b) % 2 ≡ 0

-- its format, its count, its values and, where the bytes of these are odd in number, one more
abbrev pub BlockLength : Type 0
BlockLength = (b : Block) → let bare = length b.values * value_size b.format in length (block_bytes b) ≡ 2 + bare + bare % 2

-- so no block of odd length is readable
abbrev pub EvenRequest : Type 0
EvenRequest = (s : List ℕ) → readable block_limit request s ≡ true → length s % 2 ≡ 0

abbrev pub EvenResponse : Type 0
EvenResponse = (s : List ℕ) → readable block_limit response s ≡ true → length s % 2 ≡ 0
