-- What callers may cite of every check, on the plain page of requests and responses: no reader of blocks stands in these statements. From
-- document 02, R-4; each is a statement here and a proof in proofs/.
use Rattle.std.specs.Prelude.{◌≡◌, List, ◌⊎◌, ◌↔◌, ℕ, ◌≤◌, ◌<◌, length, get_or}
use Rattle.blocks.specs.Block.{Block}
use Rattle.blocks.specs.Request.{Request}
use Rattle.blocks.specs.Response.{Response}
use Rattle.blocks.specs.Page.{From, IsRequest, IsResponse}
use Rattle.blocks.specs.declared.reader.Address.{Address}
use Rattle.checker.specs.Check.{compared, check_of}

-- "01 with 01 or 81, 02 with 02 or 82"
abbrev pub Matches : ℕ → ℕ → Type 0
Matches asked id = ((asked ≡ 1) × ((id ≡ 1) ⊎ (id ≡ 0x81))) ⊎ ((asked ≡ 2) × ((id ≡ 2) ⊎ (id ≡ 0x82)))

-- "in each value block a count equal to the elements asked (0 counts as 1)": of the block b that answers the address a
pub record Counted (a : Address) (b : Block) : Type 0 where
  pub asked : From 0x41 0x43 b.format → (a.elements ≡ 0 → ⊥) → length b.values ≡ a.elements
  pub one : From 0x41 0x43 b.format → a.elements ≡ 0 → length b.values ≡ 1

-- block k answers address k, for every k; x and y stand for what is past the ends
abbrev pub EachCounted : List Address → List Block → Type 0
EachCounted them bs =
    (x : Address) (y : Block) (k : ℕ) → k < length them → k < length bs → Counted (get_or them k x) (get_or bs k y)

-- "has the same reference, axis and N, the matching identifier .., and in each value block a count equal to the elements asked": checks 3 to
-- 7, and what is said of each by its number
pub record Checks (Said : ℕ → Type 0 → Type 0) (q : Request) (r : Response) : Type 0 where
  pub reference : Said 3 (r.reference ≡ q.reference)
  pub axis : Said 4 (r.axis ≡ q.axis)
  pub number : Said 5 (r.count ≡ length q.addresses)
  pub identifier : Said 6 (Matches q.identifier r.identifier)
  pub counts : Said 7 (EachCounted q.addresses r.blocks)

-- a response answers a request where each of them holds
abbrev pub Answers : Request → Response → Type 0
Answers = Checks (λ i Holds. Holds)

pub record Passes (s t : List ℕ) : Type 0 where
  pub request : Request
  pub response : Response
  pub is_request : IsRequest s request
  pub is_response : IsResponse t response
  pub answers : Answers request response

-- "says yes exactly when"
abbrev pub YesExactly : Type 0
YesExactly = (s t : List ℕ) → (check_of s t ≡ 0) ↔ Passes s t

-- the check number i in an answer n: it failed where that is its number, and held where n is 0 or a later one's
pub record Tested (n i : ℕ) (Holds : Type 0) : Type 0 where
  pub failed : n ≡ i → Holds → ⊥
  pub held : (n ≡ 0) ⊎ (i < n) → Holds

-- "the request is readable, the response is readable", and the rest of the two that they are
pub record Verdict (s t : List ℕ) (n : ℕ) : Type 0 where
  pub most : n ≤ 7
  pub request : Tested n 1 ((q : Request) × IsRequest s q)
  pub response : Tested n 2 ((r : Response) × IsResponse t r)
  pub rest : (q : Request) (r : Response) → IsRequest s q → IsResponse t r → Checks (Tested n) q r

-- "For a no it names the first check that failed, in that order."
abbrev pub FirstFailed : Type 0
FirstFailed = (s t : List ℕ) → Verdict s t (check_of s t)

-- of blocks that the page writes, the answer is that of the request and the response
abbrev pub ComparesWritten : Type 0
ComparesWritten = (s t : List ℕ) (q : Request) (r : Response) → IsRequest s q → IsResponse t r → check_of s t ≡ compared q r
