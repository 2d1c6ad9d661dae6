-- Document 01, "Parameters of each axis", with 02's R-2: a request (01) worked on a part, and the rule of 0x15.
use Rattle.access.specs.declared.error.ParameterError.TheVariants.{NoRoom}
use Rattle.access.specs.declared.error.ParameterError.{ParameterError}
use Rattle.std.specs.Prelude.{cond, List, [], ◌∷◌, ℕ, zero, suc, ◌+◌, ◌*◌, leb, length, Result, Ok, Err}
use Rattle.blocks.specs.Block.{Block, block_limit, values_size}
use Rattle.blocks.specs.declared.reader.Address.{Address}
use Rattle.catalogue.specs.declared.Row.{Row}
use Rattle.catalogue.specs.Element.{size_code, element_of}
use Rattle.access.specs.Address.{checked, error_block}

-- n elements of a row from element i on
abbrev pub elements_from : Row → ℕ → ℕ → List ℕ → List ℕ
elements_from r i zero p = []
elements_from r i (suc n) p = element_of r i p ∷ elements_from r (i + 1) n p

-- the bytes of a block; R-2: "the length and the 0x15 rule count" the one that fills it
abbrev pub block_size : Block → ℕ
block_size b = 2 + values_size b.format (length b.values)

-- "A read value block is written, with its size code, only if it leaves 4 bytes of the 240 for each address after it; else 0x15."
abbrev pub fitted : ℕ → ℕ → Block → Block
fitted used after b = cond (leb (used + block_size b + 4 * after) block_limit) b (error_block NoRoom)

abbrev pub answer_to : List ℕ → ℕ → ℕ → Address → Result (Row × ℕ) ParameterError → Block
answer_to p used after a (Err e) = error_block e
answer_to p used after a (Ok (r, n)) =
    fitted used after (record { format = size_code r.kind; values = elements_from r a.subindex n p })

-- the block for one address, with `used` bytes before it and `after` addresses to come
unfoldable pub read_block : List ℕ → ℕ → ℕ → Address → Block
read_block p used after a = answer_to p used after a (checked a)

-- the blocks for all addresses, in order
abbrev pub read_blocks : List ℕ → ℕ → List Address → List Block
read_blocks p used [] = []
read_blocks p used (a ∷ as') =
    let b = read_block p used (length as') a in
    b ∷ read_blocks p (used + block_size b) as'
