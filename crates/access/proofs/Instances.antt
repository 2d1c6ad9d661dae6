-- Each law of specs/Laws.antt that no other proof uses whole, at work on requests that are written out: one that is made weaker fails here.
-- What a law concludes is written out too, and nothing of that is unfolded.
use Rattle.access.specs.declared.error.ParameterError.TheVariants.{NoSuchParameter, ReadOnly, OutsideLimits, PastTheEnd, NoArray, WrongType, NoDescription, NoText, NoRoom, BadAddress, WrongCount}
use Rattle.access.specs.declared.error.ParameterError.{ParameterError}
use Rattle.std.specs.Prelude.{Option, Some, None, Result, Ok, Err}
use mathlib.Core.Path.{◌≡◌, refl, sym, ap, ◌∙◌}
use mathlib.Core.Bool.{Bool, true, false, true≢false}
use mathlib.Core.List.{List, [], ◌∷◌, Memᴰ}
use mathlib.Core.Logic.{◌⊎◌, inl, inr}
use Prim.Native.Nat.{ℕ, ◌+◌, ◌-◌, ◌≤◌, ◌<◌}
use native.Mathlib.Omega.{arith}
use lib.Dec.{eqb, lit≤, lit<}
use lib.ListN.{length, get_or, take, drop}
use Rattle.codes.specs.Code.{AllOf}
use Rattle.blocks.specs.Block.{Block, format_size, value_size, change_block_fits}
use Rattle.blocks.specs.Request.{Request, request_blocks}
use Rattle.blocks.specs.Response.{is_error, has_error}
use Rattle.blocks.specs.Page.{AddressFits, BlockFits, RequestFits}
use Rattle.blocks.specs.declared.reader.Address.{Address}
use Rattle.catalogue.specs.declared.Row.{Row}
use Rattle.catalogue.specs.Table.{rows, parameter_bytes, find_of}
use Rattle.catalogue.specs.Element.{inside, element_of}
use Rattle.versions.specs.Keep.{taken}
use Rattle.part.specs.Layout.{versions_at, part_size, versions}
use Rattle.access.specs.Address.{checked, error_block, empty_block}
use Rattle.access.specs.Read.{read_block, read_blocks}
use Rattle.access.specs.Change.{Changed, change_one, change_all}
use Rattle.access.specs.Work.{worked}
use Rattle.access.specs.Laws.{blocks_of, Names, StoredBy, Stored, Storable, Allowed}
use Rattle.access.proofs.Answers.{answers_header, one_each, answers_blocks, answers_identifier, failure_answered}
use Rattle.access.proofs.Keeps.{read_keeps, only_stored_changes, versions_follow}
use Rattle.access.proofs.There.{answers_each, stored_is_there, whole_or_none, answered_exactly, counts_stored, read_is_there}

-- an error block with its number, and the block of each error: what definition and code call it is written as these numbers
abbrev numbered : ℕ → Block
numbered n = record { format = 0x44; values = n ∷ [] }

errors_numbered : (error_block NoSuchParameter ≡ numbered 0x00)
    × (error_block ReadOnly ≡ numbered 0x01)
    × (error_block OutsideLimits ≡ numbered 0x02)
    × (error_block PastTheEnd ≡ numbered 0x03)
    × (error_block NoArray ≡ numbered 0x04)
    × (error_block WrongType ≡ numbered 0x05)
    × (error_block NoDescription ≡ numbered 0x09)
    × (error_block NoText ≡ numbered 0x0F)
    × (error_block NoRoom ≡ numbered 0x15)
    × (error_block BadAddress ≡ numbered 0x16)
    × (error_block WrongCount ≡ numbered 0x18)
errors_numbered = (refl, refl, refl, refl, refl, refl, refl, refl, refl, refl, refl)

-- for changes: level marks 1 and 2, at their limits, and 9900
marks : Address
marks = record { attribute = 0x10; elements = 2; pnu = 30001; subindex = 1 }

levels : Block
levels = record { format = 0x42; values = 0 ∷ 3000 ∷ [] }

user : Address
user = record { attribute = 0x10; elements = 1; pnu = 9900; subindex = 0 }

number : Block
number = record { format = 0x42; values = 65535 ∷ [] }

-- the marks with one above its limit
too_high : Block
too_high = record { format = 0x42; values = 1000 ∷ 3001 ∷ [] }

abbrev change : List Address → List Block → Request
change them sent = record { reference = 255; identifier = 2; axis = 1; addresses = them; blocks = sent }

-- all three are stored; the last is not; the marks are not, and 9900 is
set_three : Request
set_three = change (marks ∷ user ∷ marks ∷ []) (levels ∷ number ∷ levels ∷ [])

set_two : Request
set_two = change (marks ∷ user ∷ marks ∷ []) (levels ∷ number ∷ too_high ∷ [])

set_one : Request
set_one = change (marks ∷ user ∷ []) (too_high ∷ number ∷ [])

-- nothing is stored
set_none : Request
set_none = change (marks ∷ []) (too_high ∷ [])

-- a read of a parameter that there is not
nowhere : Address
nowhere = record { attribute = 0x10; elements = 1; pnu = 65535; subindex = 0 }

read_nothing : Request
read_nothing = record { reference = 1; identifier = 1; axis = 16; addresses = nowhere ∷ []; blocks = [] }

marks_fit : AddressFits marks
unfolding marks
marks_fit = record { attribute = lit< tt; elements = lit< tt; pnu = lit< tt; subindex = lit< tt }

levels_fit : BlockFits change_block_fits levels
unfolding levels change_block_fits format_size value_size
levels_fit = record { format = lit< tt; number = lit< tt; allowed = refl; values = (lit< tt, (lit< tt, tt)) }

user_fits : AddressFits user
unfolding user
user_fits = record { attribute = lit< tt; elements = lit< tt; pnu = lit< tt; subindex = lit< tt }

number_fits : BlockFits change_block_fits number
unfolding number change_block_fits format_size value_size
number_fits = record { format = lit< tt; number = lit< tt; allowed = refl; values = (lit< tt, tt) }

high_fits : BlockFits change_block_fits too_high
unfolding too_high change_block_fits format_size value_size
high_fits = record { format = lit< tt; number = lit< tt; allowed = refl; values = (lit< tt, (lit< tt, tt)) }

change_fits :
    (them : List Address) (sent : List Block) → AllOf AddressFits them → length sent ≡ length them → AllOf (BlockFits change_block_fits) sent
    → 1 ≤ length them → length them ≤ 39 → RequestFits (change them sent)
unfolding request_blocks
change_fits them sent addresses count blocks some few =
    record {
      reference = (lit≤ tt, lit≤ tt);
      identifier = (lit≤ tt, lit≤ tt);
      axis = lit< tt;
      number = (some, few);
      addresses = addresses;
      count = count;
      blocks = blocks;
    }

set_fits : RequestFits set_three
unfolding set_three
set_fits = change_fits _ _ (marks_fit, (user_fits, (marks_fit, tt))) refl (levels_fit, (number_fits, (levels_fit, tt))) (lit≤ tt) (lit≤ tt)

two_fit : RequestFits set_two
unfolding set_two
two_fit = change_fits _ _ (marks_fit, (user_fits, (marks_fit, tt))) refl (levels_fit, (number_fits, (high_fits, tt))) (lit≤ tt) (lit≤ tt)

one_fits : RequestFits set_one
unfolding set_one
one_fits = change_fits _ _ (marks_fit, (user_fits, tt)) refl (high_fits, (number_fits, tt)) (lit≤ tt) (lit≤ tt)

read_fits : RequestFits read_nothing
unfolding read_nothing nowhere request_blocks
read_fits =
    record {
      reference = (lit≤ tt, lit≤ tt);
      identifier = (lit≤ tt, lit≤ tt);
      axis = lit< tt;
      number = (lit≤ tt, lit≤ tt);
      addresses = (record { attribute = lit< tt; elements = lit< tt; pnu = lit< tt; subindex = lit< tt }, tt);
      count = refl;
      blocks = tt;
    }

-- the marks at their limits can be stored
storable : Storable marks levels
unfolding marks levels checked find_of rows inside
storable = record { row = _; number = 2; passed = refl; writable = refl; format = inl refl; count = refl; limits = (refl, (refl, tt)) }

-- whether 3001 is inside the limits of what an address names
is_in : Result (Row × ℕ) ParameterError → Bool
is_in (Ok (r, n)) = inside r 3001
is_in (Err e) = false

module _ (p : List ℕ) where
  -- AnswersHeader
  header : ((worked set_three p).response.reference ≡ 255) × ((worked set_three p).response.axis ≡ 1) × ((worked set_three p).response.count ≡ 3)
  unfolding set_three
  header = let h = answers_header set_three p in (h.reference, h.axis, h.count)

  -- OneEach, of any request
  each_read : (r : Request) → RequestFits r → eqb r.identifier 1 ≡ true → length (read_blocks p 4 r.addresses) ≡ length r.addresses
  each_read r f e = rw e at (one_each r p f)

  each_change : (r : Request) → RequestFits r → eqb r.identifier 1 ≡ false → length (change_all r.addresses r.blocks p).blocks ≡ length r.addresses
  each_change r f e = rw e at (one_each r p f)

  -- the read fails, and the change does not
  fails : has_error (blocks_of read_nothing p) ≡ true
  unfolding read_nothing nowhere has_error read_block checked find_of rows
  fails = refl

  succeeds : has_error (blocks_of set_three p) ≡ false
  unfolding set_three marks levels user number has_error change_one checked find_of rows inside
  succeeds = refl

  -- AnswersIdentifier and AnswersBlocks: 81 and its error, 02 alone
  with_error : ((worked read_nothing p).response.identifier ≡ 0x81) × ((worked read_nothing p).response.blocks ≡ numbered 0x00 ∷ [])
  unfolding read_nothing nowhere has_error read_block checked find_of rows
  with_error = (answers_identifier read_nothing p read_fits, answers_blocks read_nothing p)

  without_error : ((worked set_three p).response.identifier ≡ 2) × ((worked set_three p).response.blocks ≡ [])
  unfolding set_three marks levels user number has_error change_one checked find_of rows inside
  without_error = (answers_identifier set_three p set_fits, answers_blocks set_three p)

  -- FailureAnswered, both ways
  answered : ((worked read_nothing p).response.identifier ≡ 0x81) ⊎ ((worked read_nothing p).response.identifier ≡ 0x82)
  answered = (failure_answered read_nothing p read_fits).1 fails

  failed : (worked set_three p).response.identifier ≡ 0x82 → has_error (blocks_of set_three p) ≡ true
  failed e = (failure_answered set_three p set_fits).0 (inr e)

  -- ReadKeeps
  untouched : ((worked read_nothing p).part ≡ p) × ((worked read_nothing p).stored ≡ 0)
  unfolding read_nothing
  untouched = read_keeps read_nothing p refl

  -- ReadIsThere
  marks_read : (q : Row) → checked marks ≡ Ok (q, 2) → is_error (read_block p 4 0 marks) ≡ false → (k : ℕ) → k < 2
      → get_or (read_block p 4 0 marks).values k 0 ≡ element_of q (1 + k) p
  unfolding marks
  marks_read q e ok k = read_is_there marks p 4 0 q 2 k e ok

  -- CountsStored: all of the three addresses, or of the two without an error
  counted : (worked set_three p).stored ≡ 5
  unfolding set_three marks levels user number change_one checked find_of rows inside
  counted = counts_stored set_three p refl

  counted_two : (worked set_two p).stored ≡ 3
  unfolding set_two marks levels user number too_high change_one checked find_of rows inside
  counted_two = counts_stored set_two p refl

  counted_none : (worked set_none p).stored ≡ 0
  unfolding set_none marks too_high change_one checked find_of rows inside
  counted_none = counts_stored set_none p refl

  -- VersionsFollow: a version of all that was stored, and none of nothing or of a read
  module _ (size : length p ≡ part_size) where
    version_of : versions (worked set_three p).part ≡ taken (worked set_three p).part (versions p)
    version_of = rw counted at (versions_follow set_three p size)

    version_of_none : versions (worked set_none p).part ≡ versions p
    version_of_none = rw counted_none at (versions_follow set_none p size)

    version_of_read : versions (worked read_nothing p).part ≡ versions p
    version_of_read = rw untouched.1 at (versions_follow read_nothing p size)

  -- WholeOrNone
  whole : is_error (change_one marks levels p).block ≡ false → (change_one marks levels p).stored ≡ 2
  unfolding levels
  whole = (whole_or_none marks levels p).0

  none_of_it : is_error (change_one marks too_high p).block ≡ true → ((change_one marks too_high p).stored ≡ 0) × ((change_one marks too_high p).part ≡ p)
  none_of_it = (whole_or_none marks too_high p).1

  -- AnsweredExactly, both ways: one value alone is outside
  stored_marks : is_error (change_one marks levels p).block ≡ false
  stored_marks = (answered_exactly marks levels p).1 storable

  unstorable : is_error (change_one marks too_high p).block ≡ false → ⊥
  unfolding marks too_high checked find_of rows inside is_in
  unstorable e = let s = (answered_exactly marks too_high p).0 e in true≢false (sym s.limits.1.0 ∙ sym (ap is_in s.passed))

  -- AnswersEach: the last of three
  third : get_or (blocks_of set_two p) 2 empty_block ≡ (change_one marks too_high (change_all (marks ∷ user ∷ []) (levels ∷ number ∷ []) p).part).block
  unfolding set_two
  third =
      answers_each set_two p refl
      (record {
        earlier = marks ∷ user ∷ [];
        address = marks;
        later = [];
        earlier_blocks = levels ∷ number ∷ [];
        block = too_high;
        later_blocks = [];
        addresses = refl;
        blocks = refl;
        level = refl;
      })

-- OnlyStoredChanges: the bytes between the parameters and the versions, and no element but 9900, and so no mark
between_kept : (p : List ℕ) → take (versions_at - parameter_bytes) (drop parameter_bytes (worked set_one p).part) ≡ take (versions_at - parameter_bytes) (drop parameter_bytes p)
between_kept p = (only_stored_changes set_one p one_fits).others

how_many : Result (Row × ℕ) ParameterError → ℕ
how_many (Ok (r, n)) = n
how_many (Err e) = 0

not_user : (q : Row) (j : ℕ) → (find_of 9900 ≡ Some q → j < 1 → ⊥) → Names user q j → ⊥
unfolding user checked find_of rows how_many
not_user q j d n = let one : 1 ≡ n.number = ap how_many n.passed in d n.found (omega (arith, one, n.high))

others_kept : (p : List ℕ) (q : Row) → Memᴰ q rows → (j : ℕ) → j < q.count → (find_of 9900 ≡ Some q → j < 1 → ⊥) → element_of q j (worked set_one p).part ≡ element_of q j p
unfolding set_one marks too_high change_one checked find_of rows inside
others_kept p q m j few d = go ((only_stored_changes set_one p one_fits).elements q m j few)
  where
    none : {c : Changed} → StoredBy marks (change_one marks too_high p) q j ⊎ (StoredBy user c q j ⊎ ⊥) → ⊥
    none (inl x) = true≢false x.answered
    none (inr (inl x)) = not_user q j d x.names
    none {c = c} (inr (inr x)) = elim x [ ]

    go : Allowed (λ q j. (q.writable ≡ true) × Stored set_one.addresses set_one.blocks p q j) p (worked set_one p).part q j → element_of q j (worked set_one p).part ≡ element_of q j p
    go (inl e) = e
    go (inr n) = absurd (none n.0.1)

-- StoredIsThere: 9900, between two others, and the marks of the first address, as the last one has an error
pnu_of : Option Row → ℕ
pnu_of (Some r) = r.pnu
pnu_of None = 0

module _ (p : List ℕ) (size : length p ≡ part_size) (q : Row) where
  user_there : find_of 9900 ≡ Some q → element_of q 0 (worked set_three p).part ≡ 65535
  unfolding set_three marks levels user number change_one checked find_of rows inside pnu_of
  user_there e =
      stored_is_there set_three p set_fits refl size
      (record {
        earlier = marks ∷ [];
        address = user;
        later = marks ∷ [];
        earlier_blocks = levels ∷ [];
        block = number;
        later_blocks = levels ∷ [];
        addresses = refl;
        blocks = refl;
        level = refl;
      })
      q 0 (record { names = record { found = e; number = 1; passed = cc; low = lit≤ tt; high = lit< tt }; answered = refl }) later
    where
      later : {c : Changed} → StoredBy marks c q 0 ⊎ ⊥ → ⊥
      later (inl x) = omega (arith, ap pnu_of (x.names.found ∙ sym e))
      later {c = c} (inr x) = elim x [ ]

  marks_there : find_of 30001 ≡ Some q → (j : ℕ) → 1 ≤ j → j < 3 → element_of q j (worked set_two p).part ≡ get_or (0 ∷ 3000 ∷ []) (j - 1) 0
  unfolding set_two marks levels user number too_high change_one checked find_of rows inside pnu_of
  marks_there e j low high =
      stored_is_there set_two p two_fit refl size
      (record {
        earlier = [];
        address = marks;
        later = user ∷ marks ∷ [];
        earlier_blocks = [];
        block = levels;
        later_blocks = number ∷ too_high ∷ [];
        addresses = refl;
        blocks = refl;
        level = refl;
      })
      q j (record { names = record { found = e; number = 2; passed = cc; low = low; high = high }; answered = refl }) later
    where
      later : {c : Changed} {m : List ℕ} → StoredBy user c q j ⊎ (StoredBy marks (change_one marks too_high m) q j ⊎ ⊥) → ⊥
      later (inl x) = omega (arith, ap pnu_of (x.names.found ∙ sym e))
      later (inr (inl x)) = true≢false x.answered
      later {c = c} {m = m} (inr (inr x)) = elim x [ ]
