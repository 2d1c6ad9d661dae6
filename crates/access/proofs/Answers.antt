-- Every answer to a request is a response of document 01, with the request's header, and takes at most 240 bytes.
use Rattle.std.specs.Prelude.{Result, Ok, Err}
use Rattle.access.specs.declared.error.ParameterError.{ParameterError}
use mathlib.Core.Path.{◌≡◌, refl, sym, ap, subst, ◌∙◌}
use mathlib.Core.Bool.{Bool, true, false, cond, not, ◌||◌, or-false, and-eq-true_iff}
use mathlib.Core.List.{List, [], ◌∷◌}
use mathlib.Core.Logic.{◌⊎◌, inl, inr}
use mathlib.Mathlib.Data.Bool.Basic.{or-eq-false-eq-eq-false-and-eq-false as or-eq-false-iff}
use Prim.Native.Nat.{ℕ, zero, suc, ◌+◌, ◌*◌, ◌^◌, ◌≤◌, ◌<◌}
use native.Mathlib.Nat.{zero-add}
use native.Mathlib.Omega.{arith}
use lib.Dec.{eqb, leb, lit≤, lit<}
use lib.ListN.{length, length-append}
use borrow.Author.Tests.{leb-true, le-leb, lt-ltb, eqb-true, eqb-false, not-false}
use borrow.Table.Steps.{cases}
use Rattle.codes.specs.Code.{AllOf, write_all}
use Rattle.codes.specs.Number.{number_at}
use Rattle.blocks.specs.Block.{Block, block_limit, format_size, value_size, change_block_fits, response_block_fits, values_of, values_size}
use Rattle.blocks.specs.Request.{Request, request_blocks}
use Rattle.blocks.specs.Response.{Response, is_answer, response_blocks, is_error, has_error, errors_fit, response}
use Rattle.blocks.specs.Page.{BlockFits, RequestFits, ResponseFits, block_bytes, response_bytes}
use Rattle.blocks.specs.declared.reader.Address.{Address}
use Rattle.blocks.proofs.Parts.{block_written}
use Rattle.blocks.proofs.Page.{response_bytes_lem}
use Rattle.blocks.proofs.Demand.{responses}
use Rattle.catalogue.specs.declared.Kind.{Kind}
use Rattle.catalogue.specs.declared.Kind.TheVariants.{U8, U16, I16, I32}
use Rattle.catalogue.specs.declared.Row.{Row}
use Rattle.catalogue.specs.Table.{element_size}
use Rattle.catalogue.specs.Element.{size_code, type_code, inside}
use Rattle.catalogue.proofs.Elements.{element_small}
use Rattle.access.specs.declared.error.ParameterError.TheVariants.{NoSuchParameter, ReadOnly, OutsideLimits, PastTheEnd, NoArray, WrongType, NoDescription, NoText, NoRoom, BadAddress, WrongCount}
use Rattle.access.specs.Address.{error_number, checked, error_block, empty_block}
use Rattle.access.specs.Read.{elements_from, block_size, answer_to, read_block, read_blocks}
use Rattle.access.specs.Change.{Changed, failure, all_inside, success, of_elements, of_checked, change_one, change_all}
use Rattle.access.specs.Work.{Worked, answer_of, worked}
use Rattle.access.proofs.Checks.{pick, Named, CheckedFits, checked_fits}
use Rattle.access.specs.Laws.{Storable, SameHeader, AnswersHeader, AnswerFits, AnswerShort, AnswerReadable, AnswerAxis, blocks_of, OneEach, AnswersBlocks, AnswersIdentifier, FailureAnswered}

-- a format that a parameter's values may have is as wide as its elements
pub size_same : (k : Kind) → value_size (size_code k) ≡ element_size k
unfolding value_size format_size
size_same U8 = refl
size_same U16 = refl
size_same I16 = refl
size_same I32 = refl

type_same : (k : Kind) → value_size (type_code k) ≡ element_size k
unfolding value_size format_size
type_same U8 = refl
type_same U16 = refl
type_same I16 = refl
type_same I32 = refl

abbrev pub OfKind : Kind → ℕ → Type 0
OfKind k f = (f ≡ size_code k) ⊎ (f ≡ type_code k)

pub of_kind : (k : Kind) (f : ℕ) → eqb f (size_code k) || eqb f (type_code k) ≡ true → OfKind k f
of_kind k f e =
    cases (eqb f (size_code k))
    (λ t. inl (eqb-true f (size_code k) t))
    (λ t. inr (eqb-true f (type_code k) (rw t at e)))

pub format_same : (k : Kind) (f : ℕ) → OfKind k f → value_size f ≡ element_size k
format_same k f (inl e) = ap value_size e ∙ size_same k
format_same k f (inr e) = ap value_size e ∙ type_same k

-- the test of all values tells of each
all_limits : (r : Row) (xs : List ℕ) → all_inside r xs ≡ true → AllOf (λ x. inside r x ≡ true) xs
all_limits r [] e = tt
all_limits r (x ∷ xs) e = let two = (and-eq-true_iff (inside r x) (all_inside r xs)).0 e in (two.0, all_limits r xs two.1)

-- A change of one address fails, or all of it is stored, as it can be.
module _ (a : Address) (b : Block) (p : List ℕ) (P : Changed → Type 0)
    (refuses : (e : ParameterError) → P (failure e p))
    (stores : (s : Storable a b) → Named a s.row s.number → P (success s.row a.subindex b.values p)) where
  elements_cases : (r : Row) (n : ℕ) → checked a ≡ Ok (r, n) → Named a r n → P (of_elements a b p r n)
  elements_cases r n s h =
      let known = eqb b.format (size_code r.kind) || eqb b.format (type_code r.kind) in
      pick P (not r.writable) (λ t. refuses ReadOnly)
      (λ t. pick P (not known) (λ u. refuses WrongType)
      (λ u. pick P (not (eqb (length b.values) n)) (λ v. refuses WrongCount)
      (λ v.
      pick P (all_inside r b.values)
      (λ x.
      stores
      (record {
        row = r;
        number = n;
        passed = s;
        writable = not-false r.writable t;
        format = of_kind r.kind b.format (not-false known u);
        count = eqb-true (length b.values) n (not-false (eqb (length b.values) n) v);
        limits = all_limits r b.values x;
      })
      h)
      (λ x. refuses OutsideLimits))))

  pub change_cases : P (change_one a b p)
  unfolding change_one
  change_cases = go (checked a) refl (checked_fits a)
    where
      go : (c : Result (Row × ℕ) ParameterError) → checked a ≡ c → CheckedFits a c → P (of_checked a b p c)
      go (Err e) s u = refuses e
      go (Ok (r, n)) s h = elements_cases r n s h

-- values that can be stored are as wide as the elements
pub storable_small : (a : Address) (b : Block) (s : Storable a b) → BlockFits change_block_fits b → AllOf (λ x. x < 256 ^ element_size s.row.kind) b.values
storable_small a b s g = subst (λ (w : ℕ). AllOf (λ x. x < 256 ^ w) b.values) (format_same s.row.kind b.format s.format) g.values

-- An error word and `40 00`: they fit where they may stand, and take at most 4 bytes.
error_small : (e : ParameterError) → error_number e < 65536
error_small NoSuchParameter = lit< tt
error_small NoDescription = lit< tt
error_small NoText = lit< tt
error_small BadAddress = lit< tt
error_small NoArray = lit< tt
error_small PastTheEnd = lit< tt
error_small ReadOnly = lit< tt
error_small WrongType = lit< tt
error_small WrongCount = lit< tt
error_small OutsideLimits = lit< tt
error_small NoRoom = lit< tt

error_fits_lem : (id : ℕ) (e : ParameterError) → response_block_fits id 0x44 1 ≡ true → BlockFits (response_block_fits id) (error_block e)
unfolding value_size
error_fits_lem id e allowed = record { format = lit< tt; number = lit< tt; allowed = allowed; values = (error_small e, tt) }

error_size : (e : ParameterError) → block_size (error_block e) ≡ 4
unfolding values_size values_of value_size
error_size e = refl

empty_size : block_size empty_block ≡ 2
unfolding values_size values_of value_size format_size
empty_size = refl

-- the blocks that stand after `used` bytes of a response, one for each of n addresses
record Run (id used n : ℕ) (bs : List Block) : Type 0 where
  fits : AllOf (BlockFits (response_block_fits id)) bs
  count : length bs ≡ n
  short : used + length (write_all block_bytes bs) ≤ block_limit

block_size_lem : (b : Block) → length (block_bytes b) ≡ block_size b
block_size_lem b = sym (block_written b.format (length b.values) b.values refl)

one_more : (id used n : ℕ) (b : Block) (bs : List Block) → BlockFits (response_block_fits id) b → Run id (used + block_size b) n bs → Run id used (suc n) (b ∷ bs)
one_more id used n b bs f run =
    record {
      fits = (f, run.fits);
      count = ap suc run.count;
      short = omega (arith, run.short, block_size_lem b, length-append (block_bytes b) (write_all block_bytes bs));
    }

-- A request (01).
-- values of a row's elements, in a block with its size code
code_small : (k : Kind) → size_code k < 256
code_small U8 = lit< tt
code_small U16 = lit< tt
code_small I16 = lit< tt
code_small I32 = lit< tt

code_allowed : (k : Kind) (n : ℕ) → 1 ≤ n → response_block_fits 0x81 (size_code k) n ≡ true
unfolding response_block_fits
code_allowed U8 n h = rw (le-leb 1 n h)
code_allowed U16 n h = rw (le-leb 1 n h)
code_allowed I16 n h = rw (le-leb 1 n h)
code_allowed I32 n h = rw (le-leb 1 n h)

pub elements_count : (r : Row) (i n : ℕ) (p : List ℕ) → length (elements_from r i n p) ≡ n
elements_count r i zero p = refl
elements_count r i (suc n) p = ap suc (elements_count r (i + 1) n p)

elements_small : (r : Row) (i n : ℕ) (p : List ℕ) → AllOf (λ x. x < 256 ^ value_size (size_code r.kind)) (elements_from r i n p)
elements_small r i zero p = tt
elements_small r i (suc n) p = (rw (size_same r.kind) (element_small r i p), elements_small r (i + 1) n p)

values_fit : (r : Row) (i n : ℕ) (p : List ℕ) → 1 ≤ n → n ≤ 255 → BlockFits (response_block_fits 0x81) (record { format = size_code r.kind; values = elements_from r i n p })
values_fit r i n p some few =
    let count = elements_count r i n p in
    record {
      format = code_small r.kind;
      number = omega arith;
      allowed = code_allowed r.kind _ (omega arith);
      values = elements_small r i n p;
    }

-- the block for one address, with room for it and the addresses after it
module _ (p : List ℕ) (used after : ℕ) (room : used + 4 + 4 * after ≤ block_limit) where
  abbrev Leaves : Block → Type 0
  Leaves b = BlockFits (response_block_fits 0x81) b × (used + block_size b + 4 * after ≤ block_limit)

  leaves_error : (e : ParameterError) → Leaves (error_block e)
  unfolding response_block_fits
  leaves_error e = (error_fits_lem 0x81 e refl, rw (error_size e) room)

  read_one : (a : Address) → Leaves (read_block p used after a)
  unfolding read_block
  read_one a = go (checked a) (checked_fits a)
    where
      go : (c : Result (Row × ℕ) ParameterError) → CheckedFits a c → Leaves (answer_to p used after a c)
      go (Err e) u = leaves_error e
      go (Ok (r, n)) h =
          let b : Block = record { format = size_code r.kind; values = elements_from r a.subindex n p } in
          let size = used + block_size b + 4 * after in
          pick Leaves (leb size block_limit)
          (λ t. (values_fit r a.subindex n p h.some (omega (arith, h.room, h.short)), leb-true size block_limit t))
          (λ t. leaves_error NoRoom)

read_all : (p : List ℕ) (used : ℕ) (them : List Address) → used + 4 * length them ≤ block_limit → Run 0x81 used (length them) (read_blocks p used them)
read_all p used [] room = record { fits = tt; count = refl; short = omega arith }
read_all p used (a ∷ more) room =
    let b = read_block p used (length more) a in
    let one = read_one p used (length more) (omega arith) a in
    one_more 0x81 used (length more) b _ one.0 (read_all p (used + block_size b) more one.1)

-- A change (02): an error word or `40 00` for each address.
abbrev Small : Block → Type 0
Small b = BlockFits (response_block_fits 0x82) b × (block_size b ≤ 4)

small_error : (e : ParameterError) → Small (error_block e)
unfolding response_block_fits
small_error e = (error_fits_lem 0x82 e refl, omega (arith, error_size e))

small_empty : Small empty_block
unfolding response_block_fits
small_empty = (record { format = lit< tt; number = lit< tt; allowed = refl; values = tt }, omega (arith, empty_size))

abbrev AnswerSmall : Changed → Type 0
AnswerSmall c = Small c.block

change_one_lem : (a : Address) (b : Block) (p : List ℕ) → AnswerSmall (change_one a b p)
change_one_lem a b p = change_cases a b p AnswerSmall small_error (λ s named. small_empty)

change_all_lem : (them : List Address) (bs : List Block) (p : List ℕ) (used : ℕ) → length bs ≡ length them → used + 4 * length them ≤ block_limit → Run 0x82 used (length them) (change_all them bs p).blocks
change_all_lem [] bs p used e room = record { fits = tt; count = refl; short = omega arith }
change_all_lem (a ∷ more) [] p used e room = absurd (omega arith)
change_all_lem (a ∷ more) (b ∷ bs) p used e room =
    let c = change_one a b p in
    let one = change_one_lem a b p in
    one_more 0x82 used (length more) c.block _ one.0
    (change_all_lem more bs c.part (used + block_size c.block) (omega arith) (omega (arith, one.1)))

-- where no block is an error, all are value blocks
value_block : (b : Block) → BlockFits (response_block_fits 0x81) b → is_error b ≡ false → BlockFits (response_block_fits 1) b
unfolding response_block_fits
value_block b f e =
    record {
      format = f.format;
      number = f.number;
      allowed = rw (e, or-false) at f.allowed;
      values = f.values;
    }

no_error : (bs : List Block) → AllOf (BlockFits (response_block_fits 0x81)) bs → has_error bs ≡ false → AllOf (BlockFits (response_block_fits 1)) bs
unfolding has_error
no_error [] f e = tt
no_error (b ∷ bs) f e =
    let none = (or-eq-false-iff (is_error b) (has_error bs)).0 e in
    (value_block b f.0 none.0, no_error bs f.1 none.1)

-- The answer: its values and its bytes.
record Fitted (a : Response) : Type 0 where
  fits : ResponseFits a
  short : length (response_bytes a) ≤ block_limit

module _ (r : Request) (f : RequestFits r) where
  answers : (id : ℕ) (bs : List Block) → is_answer id ≡ true → errors_fit id bs ≡ true → Run id 4 (response_blocks id (length r.addresses)) bs → Fitted (answer_of r id bs)
  answers id bs known errors run =
      record {
        fits =
            record {
              reference = f.reference;
              identifier = known;
              axis = f.axis;
              number = f.number;
              count = run.count;
              blocks = run.fits;
              errors = errors;
            };
        short = omega (arith, run.short);
      }

  read_answers : (bs : List Block) → Run 0x81 4 (length r.addresses) bs → Fitted (answer_of r (cond (has_error bs) 0x81 0x01) bs)
  unfolding errors_fit response_blocks
  read_answers bs run =
      pick (λ id. Fitted (answer_of r id bs)) (has_error bs)
      (λ e. answers 0x81 bs refl e run)
      (λ e. answers 0x01 bs refl refl (record { fits = no_error bs run.fits e; count = run.count; short = run.short }))

  change_answers : (bs : List Block) → Run 0x82 4 (length r.addresses) bs → Fitted (cond (has_error bs) (answer_of r 0x82 bs) (answer_of r 0x02 []))
  unfolding errors_fit response_blocks
  change_answers bs run =
      pick Fitted (has_error bs)
      (λ e. answers 0x82 bs refl e run)
      (λ e. answers 0x02 [] refl refl (record { fits = tt; count = refl; short = lit≤ tt }))

  -- what is not 01 is 02
  pub is_change : eqb r.identifier 1 ≡ false → r.identifier ≡ 2
  is_change e = let n = eqb-false r.identifier 1 e in omega (arith, f.identifier.0, f.identifier.1)

  -- and has a block for each address
  block_each : eqb r.identifier 1 ≡ false → length r.blocks ≡ length r.addresses
  unfolding request_blocks
  block_each e = f.count ∙ rw (is_change e)

  room : 4 + 4 * length r.addresses ≤ block_limit
  room = omega (arith, f.number.1)

  reads : (p : List ℕ) → Run 0x81 4 (length r.addresses) (read_blocks p 4 r.addresses)
  reads p = read_all p 4 r.addresses room

  changes : (p : List ℕ) → eqb r.identifier 1 ≡ false → Run 0x82 4 (length r.addresses) (change_all r.addresses r.blocks p).blocks
  changes p e = change_all_lem r.addresses r.blocks p 4 (block_each e) room

  all_answers : (p : List ℕ) → Fitted (worked r p).response
  unfolding worked
  all_answers p =
      pick (λ (w : Worked). Fitted w.response) (eqb r.identifier 1)
      (λ e. read_answers (read_blocks p 4 r.addresses) (reads p))
      (λ e. change_answers (change_all r.addresses r.blocks p).blocks (changes p e))

pub answer_fits : AnswerFits
answer_fits r p f = (all_answers r f p).fits

pub answer_short : AnswerShort
answer_short r p f = (all_answers r f p).short

pub answer_readable : AnswerReadable
answer_readable r p f =
    let a = (worked r p).response in
    (responses.exact (response.write a)).1 (rw (response_bytes_lem a) (answer_short r p f), (a, answer_fits r p f, sym (response_bytes_lem a)))

pub answers_header : AnswersHeader
unfolding worked
answers_header r p =
    pick (λ (w : Worked). SameHeader r w.response) (eqb r.identifier 1)
    (λ e. same _)
    (λ e. pick (SameHeader r) (has_error (change_all r.addresses r.blocks p).blocks) (λ t. same _) (λ t. same _))
  where
    same : {id : ℕ} (bs : List Block) → SameHeader r (answer_of r id bs)
    same bs = record { reference = refl; axis = refl; count = refl }

pub answer_axis : AnswerAxis
unfolding number_at
answer_axis r p f =
    let h = answers_header r p in
    rw (response_bytes_lem (worked r p).response, h.axis, lt-ltb r.axis 256 f.axis) (zero-add r.axis)

pub one_each : OneEach
one_each r p f = pick (λ bs. length bs ≡ length r.addresses) (eqb r.identifier 1) (λ e. (reads r f p).count) (λ e. (changes r f p e).count)

pub answers_blocks : AnswersBlocks
unfolding worked
answers_blocks r p =
    cases (eqb r.identifier 1) (λ e. rw e)
    (λ e. rw e (cases (has_error (change_all r.addresses r.blocks p).blocks) (λ h. rw h) (λ h. rw h)))

pub answers_identifier : AnswersIdentifier
unfolding worked
answers_identifier r p f =
    cases (eqb r.identifier 1)
    (λ e. rw (e, eqb-true r.identifier 1 e))
    (λ e. rw (e, is_change r f e) (cases (has_error (change_all r.addresses r.blocks p).blocks) (λ h. rw h) (λ h. rw h)))

pub failure_answered : FailureAnswered
failure_answered r p f = (fails (has_error (blocks_of r p)) (answers_identifier r p f), shows)
  where
    id : ℕ
    id = (worked r p).response.identifier

    fails : (h : Bool) → id ≡ cond h (0x80 + r.identifier) r.identifier → (id ≡ 0x81) ⊎ (id ≡ 0x82) → h ≡ true
    fails true e s = refl
    fails false e (inl s) = absurd (omega (arith, f.identifier.1))
    fails false e (inr s) = absurd (omega (arith, f.identifier.1))

    shows : has_error (blocks_of r p) ≡ true → (id ≡ 0x81) ⊎ (id ≡ 0x82)
    shows t =
        let e : id ≡ 0x80 + r.identifier = answers_identifier r p f ∙ rw t in
        cases (eqb r.identifier 1)
        (λ one. inl (omega (arith, eqb-true r.identifier 1 one)))
        (λ two. inr (omega (arith, is_change r f two)))
