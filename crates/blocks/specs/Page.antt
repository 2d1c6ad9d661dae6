-- Document 01, "Request block" and "Response block", with 02's R-2, in plain words: for each, the values that are valid and the bytes
-- that are written. The codes of Request.antt and Response.antt say exactly this (proofs/Page.antt).
use Rattle.std.specs.Prelude.{◌≡◌, List, [], ◌∷◌, ◌++◌, Bool, true, ℕ, zero, suc, ◌≤◌, ◌<◌, ◌/◌, ◌%◌, ◌^◌, length, replicate}
use Rattle.codes.specs.Code.{AllOf, write_all}
use Rattle.codes.specs.Demand.{WrittenAs}
use Rattle.blocks.specs.declared.reader.Address.{Address}
use Rattle.blocks.specs.Block.{Block, block_limit, value_size, fill_size, change_block_fits, response_block_fits}
use Rattle.blocks.specs.Request.{Request, request_blocks}
use Rattle.blocks.specs.Response.{Response, is_answer, response_blocks, errors_fit}

-- a number from one limit to another, both included
abbrev pub From : ℕ → ℕ → ℕ → Type 0
From low high x = (low ≤ x) × (x ≤ high)

-- Which values are valid.
pub record AddressFits (a : Address) : Type 0 where
  pub attribute : a.attribute < 256
  pub elements : a.elements < 256
  pub pnu : a.pnu < 65536
  pub subindex : a.subindex < 65536

pub record BlockFits (fits : ℕ → ℕ → Bool) (b : Block) : Type 0 where
  pub format : b.format < 256
  pub number : length b.values < 256
  pub allowed : fits b.format (length b.values) ≡ true
  pub values : AllOf (λ x. x < 256 ^ value_size b.format) b.values

pub record RequestFits (r : Request) : Type 0 where
  pub reference : From 1 255 r.reference
  pub identifier : From 1 2 r.identifier
  pub axis : r.axis < 256
  pub number : From 1 39 (length r.addresses)
  pub addresses : AllOf AddressFits r.addresses
  pub count : length r.blocks ≡ request_blocks r.identifier (length r.addresses)
  pub blocks : AllOf (BlockFits change_block_fits) r.blocks

pub record ResponseFits (r : Response) : Type 0 where
  pub reference : From 1 255 r.reference
  pub identifier : is_answer r.identifier ≡ true
  pub axis : r.axis < 256
  pub number : From 1 39 r.count
  pub count : length r.blocks ≡ response_blocks r.identifier r.count
  pub blocks : AllOf (BlockFits (response_block_fits r.identifier)) r.blocks
  pub errors : errors_fit r.identifier r.blocks ≡ true

-- Which bytes are written. A number of n bytes stands high byte first.
abbrev pub number_bytes : ℕ → ℕ → List ℕ
number_bytes zero x = []
number_bytes (suc n) x = number_bytes n (x / 256) ++ (x % 256 ∷ [])

abbrev pub address_bytes : Address → List ℕ
address_bytes a = a.attribute ∷ a.elements ∷ number_bytes 2 a.pnu ++ number_bytes 2 a.subindex

-- "an odd number of byte values is followed by one zero byte"
abbrev pub block_bytes : Block → List ℕ
block_bytes b =
    b.format ∷ length b.values
    ∷ write_all (number_bytes (value_size b.format)) b.values ++ replicate (fill_size b.format (length b.values)) 0

abbrev pub request_bytes : Request → List ℕ
request_bytes r =
    r.reference ∷ r.identifier ∷ r.axis ∷ length r.addresses
    ∷ write_all address_bytes r.addresses ++ write_all block_bytes r.blocks

abbrev pub response_bytes : Response → List ℕ
response_bytes r = r.reference ∷ r.identifier ∷ r.axis ∷ r.count ∷ write_all block_bytes r.blocks

-- "4 to 240 bytes": the block s is this request, or this response
abbrev pub IsRequest : List ℕ → Request → Type 0
IsRequest = WrittenAs block_limit RequestFits request_bytes

abbrev pub IsResponse : List ℕ → Response → Type 0
IsResponse = WrittenAs block_limit ResponseFits response_bytes
