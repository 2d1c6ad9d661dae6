-- Every answer passes the checker for its request: a block of values has as many as its address asks, and no other is counted.
use Rattle.std.specs.Prelude.{Result, Ok, Err}
use Rattle.catalogue.specs.declared.Row.{Row}
use Rattle.access.specs.declared.error.ParameterError.{ParameterError}
use mathlib.Core.Path.{◌≡◌, refl, ◌∙◌}
use mathlib.Core.Bool.{Bool, true, false, cond, not, ◌&&◌, ◌||◌}
use mathlib.Core.List.{List, [], ◌∷◌}
use mathlib.Core.Logic.{◌⊎◌, inl, inr}
use Prim.Native.Nat.{ℕ, ◌+◌, ◌*◌}
use native.Mathlib.Omega.{arith}
use lib.Dec.{eqb, leb}
use lib.ListN.{length}
use borrow.Author.Tests.{eqb-true, eq-eqb, ne_eqb}
use borrow.Table.Steps.{cases}
use Rattle.codes.specs.Code.{AllOf}
use Rattle.codes.proofs.Demand.{both}
use Rattle.blocks.specs.Block.{Block, block_limit, response_block_fits}
use Rattle.blocks.specs.Request.{Request}
use Rattle.blocks.specs.Response.{Response, has_error}
use Rattle.blocks.specs.Page.{BlockFits, RequestFits}
use Rattle.blocks.specs.declared.reader.Address.{Address}
use Rattle.checker.specs.Check.{is_values, elements_asked, count_fits, counts_fit}
use Rattle.checker.specs.Laws.{Matches}
use Rattle.checker.proofs.Laws.{each_counted}
use Rattle.catalogue.specs.Element.{size_code}
use Rattle.access.specs.Address.{checked}
use Rattle.access.specs.Read.{elements_from, block_size, answer_to, read_block, read_blocks}
use Rattle.access.specs.Work.{worked}
use Rattle.access.specs.Laws.{blocks_of, AnswerPasses}
use Rattle.access.proofs.Checks.{pick, CheckedFits, checked_fits}
use Rattle.access.proofs.Answers.{elements_count, is_change, answer_fits, answers_header, answers_blocks, answers_identifier}

abbrev Fitting : Address → Block → Type 0
Fitting a b = count_fits a.elements b.format (length b.values) ≡ true

-- A request (01): what answers an address is an error, or as many values as it asks.
as_many : (t : Bool) (n e : ℕ) → n ≡ elements_asked e → not t || eqb n (elements_asked e) ≡ true
as_many true n e h = eq-eqb n (elements_asked e) h
as_many false n e h = refl

read_fitting : (p : List ℕ) (used after : ℕ) (a : Address) → Fitting a (read_block p used after a)
unfolding read_block
read_fitting p used after a = go (checked a) (checked_fits a)
  where
    go : (c : Result (Row × ℕ) ParameterError) → CheckedFits a c → Fitting a (answer_to p used after a c)
    go (Err e) small = refl
    go (Ok (r, n)) h =
        let b : Block = record { format = size_code r.kind; values = elements_from r a.subindex n p } in
        pick (Fitting a) (leb (used + block_size b + 4 * after) block_limit)
        (λ t. as_many (is_values b.format) (length b.values) a.elements (elements_count r a.subindex n p ∙ h.asked))
        (λ t. refl)

read_counts : (p : List ℕ) (used : ℕ) (them : List Address) → counts_fit them (read_blocks p used them) ≡ true
unfolding counts_fit
read_counts p used [] = refl
read_counts p used (a ∷ more) =
    rw (read_fitting p used (length more) a) (read_counts p (used + block_size (read_block p used (length more) a)) more)

-- A change (02): what answers an address is an error or `40 00`.
no_values : (id f n : ℕ) → (id ≡ 1 → ⊥) → (id ≡ 0x81 → ⊥) → response_block_fits id f n ≡ true → is_values f ≡ false
unfolding response_block_fits
no_values id f n one failed fits = go (eqb f 0x40) refl (rw (ne_eqb id 1 one, ne_eqb id 0x81 failed) at fits)
  where
    go : (t : Bool) → eqb f 0x40 ≡ t → (t && eqb n 0) || (eqb f 0x44 && eqb n 1) ≡ true → is_values f ≡ false
    go true e h = rw (eqb-true f 0x40 e)
    go false e h = rw (eqb-true f 0x44 (both (eqb f 0x44) (eqb n 1) h).0)

change_counts : (id : ℕ) → (id ≡ 1 → ⊥) → (id ≡ 0x81 → ⊥) → (them : List Address) (bs : List Block) → AllOf (BlockFits (response_block_fits id)) bs → counts_fit them bs ≡ true
unfolding counts_fit
change_counts id one failed [] bs fits = refl
change_counts id one failed (a ∷ more) [] fits = refl
change_counts id one failed (a ∷ more) (b ∷ bs) fits =
    rw (no_values id b.format (length b.values) one failed fits.0.allowed) (change_counts id one failed more bs fits.1)

-- 01 or 81 to 01, and 02 or 82 to 02
answered : (asked id n : ℕ) (failed : Bool) → asked ≡ n → id ≡ cond failed (0x80 + asked) asked → (id ≡ n) ⊎ (id ≡ 0x80 + n)
answered asked id n true a e = inr (omega arith)
answered asked id n false a e = inl (omega arith)

not_read : (id : ℕ) → (id ≡ 2) ⊎ (id ≡ 0x82) → (id ≡ 1 → ⊥) × (id ≡ 0x81 → ⊥)
not_read id (inl e) = (λ z. omega arith, λ z. omega arith)
not_read id (inr e) = (λ z. omega arith, λ z. omega arith)

module _ (r : Request) (p : List ℕ) (f : RequestFits r) where
  abbrev answer : Response
  answer = (worked r p).response

  abbrev Passing : Type 0
  Passing = Matches r.identifier answer.identifier × (counts_fit r.addresses answer.blocks ≡ true)

  as_asked : (n : ℕ) → r.identifier ≡ n → (answer.identifier ≡ n) ⊎ (answer.identifier ≡ 0x80 + n)
  as_asked n e = answered r.identifier answer.identifier n (has_error (blocks_of r p)) e (answers_identifier r p f)

  read_passes : eqb r.identifier 1 ≡ true → Passing
  read_passes e =
      let one = eqb-true r.identifier 1 e in
      let bs : answer.blocks ≡ read_blocks p 4 r.addresses = answers_blocks r p ∙ rw e in
      (inl (one, as_asked 1 one), rw bs (read_counts p 4 r.addresses))

  change_passes : eqb r.identifier 1 ≡ false → Passing
  change_passes e =
      let two = is_change r f e in
      let other = not_read answer.identifier (as_asked 2 two) in
      (inr (two, as_asked 2 two), change_counts answer.identifier other.0 other.1 r.addresses answer.blocks (answer_fits r p f).blocks)

pub answer_passes : AnswerPasses
answer_passes r p f =
    let h = answers_header r p in
    let rest = cases (eqb r.identifier 1) (read_passes r p f) (change_passes r p f) in
    record {
      reference = h.reference;
      axis = h.axis;
      number = h.count;
      identifier = rest.0;
      counts = each_counted r.addresses (worked r p).response.blocks rest.1;
    }
