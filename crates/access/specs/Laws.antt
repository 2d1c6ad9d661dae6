-- What callers may cite of every request that is worked on a part, whatever that part holds: from document 01, "Response block",
-- "Parameters of each axis" and "A part is well-formed", and document 02, R-4 and R-6. Each is a statement here and a proof in proofs/.
use Rattle.std.specs.Prelude.{◌≡◌, true, false, cond, ◌||◌, ◌⊎◌, ◌↔◌, ℕ, ◌+◌, ◌-◌, ◌≤◌, ◌<◌, eqb, length, get_or, Some, Ok}
use mathlib.Core.List.{List, [], ◌∷◌, ◌++◌, Memᴰ}
use Rattle.codes.specs.Code.{AllOf, readable}
use Rattle.blocks.specs.Block.{Block, block_limit}
use Rattle.blocks.specs.Request.{Request}
use Rattle.blocks.specs.Response.{Response, is_error, has_error, response}
use Rattle.blocks.specs.Page.{RequestFits, ResponseFits, response_bytes}
use Rattle.blocks.specs.Place.{header_of}
use Rattle.blocks.specs.declared.reader.Address.{Address}
use Rattle.checker.specs.Laws.{Answers}
use Rattle.catalogue.specs.declared.Row.{Row}
use Rattle.catalogue.specs.Table.{rows, find_of}
use Rattle.catalogue.specs.Element.{size_code, type_code, inside, element_of}
use Rattle.versions.specs.Keep.{taken}
use Rattle.part.specs.Layout.{part_size, middle, versions}
use Rattle.part.specs.WellFormed.{well_formed}
use Rattle.access.specs.Address.{checked, empty_block}
use Rattle.access.specs.Read.{read_block, read_blocks}
use Rattle.access.specs.Change.{Changed, change_one, change_all}
use Rattle.access.specs.Work.{worked, outcome_of}

-- "Header: the same reference (1..255), 01/02 or 81/82, axis, N (1..39)."
pub record SameHeader (r : Request) (a : Response) : Type 0 where
  pub reference : a.reference ≡ r.reference
  pub axis : a.axis ≡ r.axis
  pub count : a.count ≡ length r.addresses

abbrev pub AnswersHeader : Type 0
AnswersHeader = (r : Request) (p : List ℕ) → SameHeader r (worked r p).response

-- every answer is a response of document 01
abbrev pub AnswerFits : Type 0
AnswerFits = (r : Request) (p : List ℕ) → RequestFits r → ResponseFits (worked r p).response

-- "Response block, 4 to 240 bytes"
abbrev pub AnswerShort : Type 0
AnswerShort = (r : Request) (p : List ℕ) → RequestFits r → length (response_bytes (worked r p).response) ≤ block_limit

-- so what waits is "a readable block of that axis"
abbrev pub AnswerReadable : Type 0
AnswerReadable = (r : Request) (p : List ℕ) → RequestFits r → readable block_limit response (response.write (worked r p).response) ≡ true

abbrev pub AnswerAxis : Type 0
AnswerAxis = (r : Request) (p : List ℕ) → RequestFits r → (header_of (response.write (worked r p).response)).axis ≡ r.axis

-- the blocks that the addresses come to, one for each; an error block where the parameter failed
abbrev pub blocks_of : Request → List ℕ → List Block
blocks_of r p = cond (eqb r.identifier 1) (read_blocks p 4 r.addresses) (change_all r.addresses r.blocks p).blocks

abbrev pub OneEach : Type 0
OneEach = (r : Request) (p : List ℕ) → RequestFits r → length (blocks_of r p) ≡ length r.addresses

-- these are the blocks of the answer, but "02 ends there"
abbrev pub AnswersBlocks : Type 0
AnswersBlocks =
    (r : Request) (p : List ℕ)
    → (worked r p).response.blocks ≡ cond (eqb r.identifier 1 || has_error (blocks_of r p)) (blocks_of r p) []

-- "01/02 or 81/82": to 01 the answer is 01 or 81, to 02 it is 02 or 82
abbrev pub AnswersIdentifier : Type 0
AnswersIdentifier =
    (r : Request) (p : List ℕ) → RequestFits r
    → (worked r p).response.identifier ≡ cond (has_error (blocks_of r p)) (0x80 + r.identifier) r.identifier

-- "We answer 81 or 82 exactly when some parameter failed."
abbrev pub FailureAnswered : Type 0
FailureAnswered =
    (r : Request) (p : List ℕ) → RequestFits r
    → (((worked r p).response.identifier ≡ 0x81) ⊎ ((worked r p).response.identifier ≡ 0x82)) ↔ (has_error (blocks_of r p) ≡ true)

-- R-4: "Every response of our own station passes for its request.", by the checker's own words
abbrev pub AnswerPasses : Type 0
AnswerPasses = (r : Request) (p : List ℕ) → RequestFits r → Answers r (worked r p).response

-- a request (01) changes no byte and stores nothing
abbrev pub ReadKeeps : Type 0
ReadKeeps = (r : Request) (p : List ℕ) → r.identifier ≡ 1 → ((worked r p).part ≡ p) × ((worked r p).stored ≡ 0)

-- What is read is there: a block of values holds the elements that its address names, in order.
abbrev pub ReadIsThere : Type 0
ReadIsThere =
    (a : Address) (p : List ℕ) (used after : ℕ) (q : Row) (n k : ℕ) → checked a ≡ Ok (q, n) → is_error (read_block p used after a) ≡ false → k < n
    → get_or (read_block p used after a).values k 0 ≡ element_of q (a.subindex + k) p

-- an address names element j of a row: it passes the checks, and j is one of its elements from its sub-index on
pub record Names (a : Address) (q : Row) (j : ℕ) : Type 0 where
  pub found : find_of a.pnu ≡ Some q
  pub number : ℕ
  pub passed : checked a ≡ Ok (q, number)
  pub low : a.subindex ≤ j
  pub high : j < a.subindex + number

-- an address that came to c stored element j of a row: it names it, and answers no error
pub record StoredBy (a : Address) (c : Changed) (q : Row) (j : ℕ) : Type 0 where
  pub names : Names a q j
  pub answered : is_error c.block ≡ false

-- one of the addresses of a change stored it, each worked on the part that those before it left
abbrev pub Stored : List Address → List Block → List ℕ → Row → ℕ → Type 0
Stored [] sent p q j = ⊥
Stored (a ∷ them) [] p q j = ⊥
Stored (a ∷ them) (b ∷ sent) p q j = let c = change_one a b p in StoredBy a c q j ⊎ Stored them sent c.part q j

-- an element is as it was, or it may change and lies inside its limits afterwards
abbrev pub Allowed : (Row → ℕ → Type 0) → List ℕ → List ℕ → Row → ℕ → Type 0
Allowed May p after q j = (element_of q j after ≡ element_of q j p) ⊎ (May q j × (inside q (element_of q j after) ≡ true))

-- No element of the table is changed but those that may be, and no byte between the parameters and the versions.
pub record Kept (May : Row → ℕ → Type 0) (p after : List ℕ) : Type 0 where
  pub size : length after ≡ length p
  pub others : middle after ≡ middle p
  pub elements : (q : Row) → Memᴰ q rows → (j : ℕ) → j < q.count → Allowed May p after q j

-- "not writable 0x01", "outside limits 0x02": only what is writable and stored can change, and only to values inside the limits
abbrev pub OnlyStoredChanges : Type 0
OnlyStoredChanges =
    (r : Request) (p : List ℕ) → RequestFits r
    → Kept (λ q j. (q.writable ≡ true) × Stored r.addresses r.blocks p q j) p (worked r p).part

-- R-7: the versions change where something is stored, by the settings as they are then, and nowhere else
abbrev pub VersionsFollow : Type 0
VersionsFollow =
    (r : Request) (p : List ℕ) → length p ≡ part_size
    → versions (worked r p).part
    ≡ cond (eqb (worked r p).stored 0) (versions p) (taken (worked r p).part (versions p))

-- one of the addresses of a change, with its block of values, between those before it and those after it
pub record Turn (r : Request) : Type 0 where
  pub earlier : List Address
  pub address : Address
  pub later : List Address
  pub earlier_blocks : List Block
  pub block : Block
  pub later_blocks : List Block
  pub addresses : r.addresses ≡ earlier ++ (address ∷ later)
  pub blocks : r.blocks ≡ earlier_blocks ++ (block ∷ later_blocks)
  pub level : length earlier_blocks ≡ length earlier

-- what that address comes to, on the part that those before it left
abbrev pub comes_to : (r : Request) → Turn r → List ℕ → Changed
comes_to r t p = change_one t.address t.block (change_all t.earlier t.earlier_blocks p).part

-- each address is answered, in its place, by the block that it comes to
abbrev pub AnswersEach : Type 0
AnswersEach =
    (r : Request) (p : List ℕ) → r.identifier ≡ 2
    → (t : Turn r) → get_or (blocks_of r p) (length t.earlier) empty_block ≡ (comes_to r t p).block

-- What is stored is there: an element that an address stored, and no later one of the change did, reads back as the value sent.
abbrev pub StoredIsThere : Type 0
StoredIsThere =
    (r : Request) (p : List ℕ) → RequestFits r → r.identifier ≡ 2 → length p ≡ part_size
    → (t : Turn r) (q : Row) (j : ℕ) → StoredBy t.address (comes_to r t p) q j
    → (Stored t.later t.later_blocks (comes_to r t p).part q j → ⊥)
    → element_of q j (worked r p).part ≡ get_or t.block.values (j - t.address.subindex) 0

-- R-6, "An address is stored whole or not at all": one that answers no error counts all its values, one that answers an error counts
-- none and leaves the part as it was.
abbrev pub WholeOrNone : Type 0
WholeOrNone =
    (a : Address) (b : Block) (p : List ℕ)
    → (is_error (change_one a b p).block ≡ false → (change_one a b p).stored ≡ length b.values)
    × (is_error (change_one a b p).block ≡ true → ((change_one a b p).stored ≡ 0) × ((change_one a b p).part ≡ p))

-- an address that can be stored: it names elements of a writable parameter, and its values are of that parameter's type, as many, and
-- "every element is within limits"
pub record Storable (a : Address) (b : Block) : Type 0 where
  pub row : Row
  pub number : ℕ
  pub passed : checked a ≡ Ok (row, number)
  pub writable : row.writable ≡ true
  pub format : (b.format ≡ size_code row.kind) ⊎ (b.format ≡ type_code row.kind)
  pub count : length b.values ≡ number
  pub limits : AllOf (λ x. inside row x ≡ true) b.values

-- such an address answers no error, whatever the part holds, and one that cannot be stored answers one
abbrev pub AnsweredExactly : Type 0
AnsweredExactly = (a : Address) (b : Block) (p : List ℕ) → (is_error (change_one a b p).block ≡ false) ↔ Storable a b

-- "how many elements were stored": the values sent for the addresses that answer no error
abbrev pub stored_of : List Block → List Block → ℕ
stored_of [] answers = 0
stored_of (b ∷ sent) [] = 0
stored_of (b ∷ sent) (c ∷ answers) = cond (is_error c) 0 (length b.values) + stored_of sent answers

abbrev pub CountsStored : Type 0
CountsStored = (r : Request) (p : List ℕ) → r.identifier ≡ 2 → (worked r p).stored ≡ stored_of r.blocks (blocks_of r p)

-- a part that is well-formed stays so when a request is worked on it
abbrev pub RequestKeepsWellFormed : Type 0
RequestKeepsWellFormed =
    (axis : ℕ) (r : Request) (p : List ℕ) → RequestFits r → well_formed axis p ≡ true → well_formed axis (worked r p).part ≡ true

-- and when any block is sent to its axis, answered or refused
abbrev pub BlockKeepsWellFormed : Type 0
BlockKeepsWellFormed = (axis : ℕ) (s p : List ℕ) → well_formed axis p ≡ true → well_formed axis (outcome_of axis s p).part ≡ true
