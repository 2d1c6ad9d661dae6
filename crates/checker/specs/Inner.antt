-- What the functions inside the checker promise each other; no public call cites it.
use Rattle.std.specs.Prelude.{◌≡◌, true, List, [], ℕ}
use Rattle.codes.specs.Code.{got, readable}
use Rattle.blocks.specs.Block.{block_limit}
use Rattle.blocks.specs.Request.{Request, request}
use Rattle.blocks.specs.Response.{Response, response}
use Rattle.blocks.specs.Place.{header_of}

-- checks 1 and 2 held
abbrev pub BothRead : List ℕ → List ℕ → Type 0
BothRead s t = (readable block_limit request s ≡ true) × (readable block_limit response t ≡ true)

-- the request has n addresses, and the response as many blocks: 02 has none
abbrev pub BothCount : List ℕ → List ℕ → ℕ → Type 0
BothCount s t n = ((header_of s).count ≡ n) × ((header_of t).count ≡ n) × ((header_of t).identifier ≡ 2 → ⊥)

-- what holds of the request and of the response that two blocks are read as
abbrev pub AsRead : List ℕ → List ℕ → (Request → Response → Type 0) → Type 0
AsRead s t P = (q : Request) (r : Response) → request.read s ≡ got q [] → response.read t ≡ got r [] → P q r
