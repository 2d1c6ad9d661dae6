-- Each law of specs/Laws.antt that no other proof uses, at work on blocks that are written out: one that is made weaker fails here.
use mathlib.Core.Path.{◌≡◌}
use mathlib.Core.Bool.{true}
use mathlib.Core.List.{List, [], ◌∷◌}
use Prim.Native.Nat.{ℕ, ◌+◌, ◌*◌, ◌%◌}
use native.Mathlib.Omega.{arith}
use lib.ListN.{length}
use Rattle.codes.specs.Code.{readable}
use Rattle.blocks.specs.Block.{Block, block_limit, value_size}
use Rattle.blocks.specs.Request.{request}
use Rattle.blocks.specs.Response.{response}
use Rattle.blocks.specs.Page.{block_bytes}
use Rattle.blocks.proofs.Even.{block_length, even_request, even_response}

-- element 0 of 965 without its fill, as a response has it and as a change sends it
element : List ℕ
element = 7 ∷ 1 ∷ 1 ∷ 1 ∷ 0x41 ∷ 1 ∷ 3 ∷ []

change : List ℕ
change = 7 ∷ 2 ∷ 1 ∷ 1 ∷ 0x10 ∷ 1 ∷ 3 ∷ 0xC5 ∷ 0 ∷ 0 ∷ 5 ∷ 1 ∷ 3 ∷ []

no_response : readable block_limit response element ≡ true → ⊥
unfolding element
no_response e = omega (arith, even_response element e)

no_request : readable block_limit request change ≡ true → ⊥
unfolding change
no_request e = omega (arith, even_request change e)

-- three byte values, and three words
bytes : Block
bytes = record { format = 2; values = 3 ∷ 41 ∷ 255 ∷ [] }

words : Block
words = record { format = 6; values = 3 ∷ 41 ∷ 65535 ∷ [] }

bytes_length : length (block_bytes bytes) ≡ 2 + 3 * value_size 2 + 3 * value_size 2 % 2
unfolding bytes
bytes_length = block_length bytes

words_length : length (block_bytes words) ≡ 2 + 3 * value_size 6 + 3 * value_size 6 % 2
unfolding words
words_length = block_length words
