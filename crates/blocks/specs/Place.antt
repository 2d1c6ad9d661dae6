-- What stands at a place of a block, as the layouts of document 01 read it from there.
use Rattle.blocks.specs.declared.Head.{Head}
use Rattle.std.specs.Prelude.{List, [], ◌∷◌, cond, ℕ, zero, suc, ◌+◌, ◌-◌, ◌*◌, length, get_or, drop, leb, Option, Some, None}
use Rattle.codes.specs.Code.{Got, got, bad}
use Rattle.codes.specs.Number.{value_or, number_at, put}
use Rattle.blocks.specs.declared.Header.{Header}
use Rattle.blocks.specs.declared.reader.Address.{Address}
use Rattle.blocks.specs.Block.{Block, value_size, change_block_fits, block}
use Rattle.blocks.specs.Request.{address}
use Rattle.blocks.specs.Page.{block_bytes}

-- the four bytes of the header; 0 where there is none
abbrev pub header_of : List ℕ → Header
header_of s =
    record {
      reference = number_at 1 s 0;
      identifier = number_at 1 s 1;
      axis = number_at 1 s 2;
      count = number_at 1 s 3;
    }

abbrev pub header_bytes : Header → List ℕ
header_bytes h = h.reference ∷ h.identifier ∷ h.axis ∷ h.count ∷ []

-- the format and the count of a block that was read in a list of n bytes, the bytes of each value, and where the next begins
abbrev pub head_of : ℕ → Got Block → Option Head
head_of n (got b t) = Some (record { format = b.format; count = length b.values; size = value_size b.format; next = n - length t })
head_of n bad = None

-- the block of a change that stands at a place
abbrev pub block_at : List ℕ → ℕ → Option Head
block_at s at = head_of (length s) ((block change_block_fits).read (drop at s))

-- and its j-th value; 0 where there is none
abbrev pub value_in : ℕ → Got Block → ℕ
value_in j (got b t) = get_or b.values j 0
value_in j bad = 0

unfoldable pub value_at : List ℕ → ℕ → ℕ → ℕ
value_at s at j = value_in j ((block change_block_fits).read (drop at s))

-- where the addresses of a block end: after its header and N times 6 bytes
abbrev pub addresses_end : List ℕ → ℕ
addresses_end s = 4 + (header_of s).count * 6

-- the address whose six bytes stand at a place; zeros where they do not
abbrev pub no_address : Address
no_address = record { attribute = 0; elements = 0; pnu = 0; subindex = 0 }

abbrev pub address_in : List ℕ → ℕ → Address
address_in s at = value_or no_address (address.read (drop at s))

-- the address at a place and the place after it, or the end of the addresses
abbrev pub step_of : ℕ → Got Address → Option (Address × ℕ)
step_of next (got a t) = Some (a, next)
step_of next bad = None

unfoldable pub step_at : List ℕ → ℕ → Option (Address × ℕ)
step_at s at = cond (leb (at + 6) (addresses_end s)) (step_of (at + 6) (address.read (drop at s))) None

-- a walk of the addresses from a place on, of at most n steps
abbrev pub onward : (ℕ → List Address) → Option (Address × ℕ) → List Address
onward walkFrom (Some (a, next)) = a ∷ walkFrom next
onward walkFrom None = []

abbrev pub walk : ℕ → List ℕ → ℕ → List Address
walk zero s at = []
walk (suc n) s at = onward (walk n s) (step_at s at)

-- the addresses from a place on: no walk takes more steps than there are bytes
abbrev pub addresses_from : List ℕ → ℕ → List Address
addresses_from s at = walk (addresses_end s) s at

-- the list l with a block written at a place; l itself where it does not fit, or has more values than a byte counts
abbrev pub put_block : List ℕ → ℕ → Block → List ℕ
put_block l at b = cond (leb (length b.values) 255) (put l at (block_bytes b)) l
