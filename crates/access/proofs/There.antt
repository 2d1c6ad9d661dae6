-- What an address stored is there when the change is over, where no later one stored it again; an address is stored whole or not at all,
-- exactly when it can be, and answered and counted so; what is read is there.
use Rattle.access.specs.declared.error.ParameterError.{ParameterError}
use Rattle.access.specs.declared.error.ParameterError.TheVariants.{ReadOnly, WrongType, WrongCount}
use Rattle.std.specs.Prelude.{Result, Ok, Err}
use mathlib.Core.Path.{◌≡◌, refl, sym, ap, subst, ◌∙◌}
use mathlib.Core.Bool.{true, false, ◌||◌, or-true, true≢false, and-eq-true_iff}
use mathlib.Core.List.{List, [], ◌∷◌, ◌++◌, Memᴰ}
use mathlib.Core.Logic.{inl, inr}
use Prim.Native.Nat.{ℕ, zero, suc, ◌+◌, ◌-◌, ◌*◌, ◌^◌, ◌≤◌, ◌<◌}
use native.Mathlib.Omega.{arith}
use lib.Dec.{eqb, leb}
use lib.ListN.{length, get_or}
use borrow.Author.Tests.{eq-eqb}
use borrow.Table.Steps.{cases}
use Rattle.codes.specs.Code.{AllOf}
use Rattle.blocks.specs.Block.{Block, block_limit, change_block_fits}
use Rattle.blocks.specs.Response.{is_error}
use Rattle.blocks.specs.Page.{BlockFits}
use Rattle.blocks.specs.declared.reader.Address.{Address}
use Rattle.catalogue.specs.declared.Kind.{Kind}
use Rattle.catalogue.specs.declared.Row.{Row}
use Rattle.catalogue.specs.Table.{rows, parameter_bytes, element_size}
use Rattle.catalogue.specs.Element.{size_code, type_code, inside, element_of, put_element}
use Rattle.catalogue.proofs.Elements.{element_length, element_stored}
use Rattle.catalogue.proofs.Rows.{found_row, element_inside}
use Rattle.access.specs.Address.{empty_block}
use Rattle.access.specs.Read.{elements_from, block_size, read_block}
use Rattle.access.specs.Change.{Changed, failure, all_inside, store_from, success, change_one, change_all}
use Rattle.access.specs.Work.{versioned, worked}
use Rattle.access.specs.Laws.{Names, Stored, Storable, comes_to, stored_of, Allowed, ReadIsThere, AnswersEach, StoredIsThere, WholeOrNone, AnsweredExactly, CountsStored}
use Rattle.access.proofs.Checks.{pick, Named}
use Rattle.access.proofs.Lengths.{change_length}
use Rattle.access.proofs.Failing.{three_passed}
use Rattle.access.proofs.Answers.{OfKind, change_cases, storable_small}
use Rattle.access.proofs.Keeps.{kept_then, kept_versioned, Among, store_kept, all_kept}

-- the values of one address: each is there
store_there :
    (r : Row) → Memᴰ r rows → (i : ℕ) (xs p : List ℕ) → i + length xs ≤ r.count → parameter_bytes ≤ length p
    → AllOf (λ x. x < 256 ^ element_size r.kind) xs → AllOf (λ x. inside r x ≡ true) xs
    → (k : ℕ) → k < length xs → element_of r (i + k) (store_from r i xs p) ≡ get_or xs k 0
store_there r m i [] p room long small ok k h = absurd (omega arith)
store_there r m i (x ∷ xs) p room long small ok k h = go k (store_there r m (i + 1) xs after (omega arith) kept small.1 ok.1) (omega arith)
  where
    after : List ℕ
    after = put_element r i x p

    kept : parameter_bytes ≤ length after
    kept = subst (λ (n : ℕ). parameter_bytes ≤ n) (sym (element_length r i x p)) long

    first : Allowed (Among r (i + 1) (length xs)) after (store_from r (i + 1) xs after) r i → element_of r i (store_from r (i + 1) xs after) ≡ x
    first (inl e) = e ∙ element_stored r i x p (omega (arith, element_inside r m i (omega arith))) small.0
    first (inr n) = absurd (omega (arith, n.0.1))

    go :
        (k : ℕ) → ((j : ℕ) → j < length xs → element_of r (i + 1 + j) (store_from r (i + 1) xs after) ≡ get_or xs j 0)
        → k < 1 + length xs → element_of r (i + k) (store_from r (i + 1) xs after) ≡ get_or (x ∷ xs) k 0
    go zero more h =
        let z : i + 0 ≡ i = omega arith in
        rw z (first ((store_kept r m (i + 1) xs after (omega arith) small.1 ok.1).elements r m i (omega arith)))
    go (suc j) more h =
        let z : i + suc j ≡ i + 1 + j = omega arith in
        rw z (more j (omega arith))

-- what an Ok holds
abbrev got_or : {A E : Type 0} → A → Result A E → A
got_or d (Ok x) = x
got_or d (Err e) = d

-- one address with its block of values, where it answers no error: an element that it names is one of its row's, and is there
module _ (a : Address) (b : Block) (g : BlockFits change_block_fits b) (p : List ℕ) (long : parameter_bytes ≤ length p) (q : Row) (j : ℕ) (named : Names a q j) where
  There : Changed → Type 0
  There c = is_error c.block ≡ false → (j < q.count) × (element_of q j c.part ≡ get_or b.values (j - a.subindex) 0)

  change_there : There (change_one a b p)
  unfolding There
  change_there = change_cases a b p There (λ x e. absurd (true≢false e)) stores
    where
      stores : (s : Storable a b) → Named a s.row s.number → There (success s.row a.subindex b.values p)
      stores s n e =
          let same : ◌≡◌ {A = Result (Row × ℕ) ParameterError} (Ok (q, named.number)) (Ok (s.row, s.number)) = sym named.passed ∙ s.passed in
          let both : (q, named.number) ≡ (s.row, s.number) = ap (λ (x : Result (Row × ℕ) ParameterError). got_or (q, 0) x) same in
          let row : q ≡ s.row = ap (λ (x : Row × ℕ). x.0) both in
          let number : named.number ≡ s.number = ap (λ (x : Row × ℕ). x.1) both in
          let place : a.subindex + (j - a.subindex) ≡ j = omega (arith, named.low) in
          let there =
          store_there s.row n.row a.subindex b.values p (omega (arith, s.count, n.room)) long (storable_small a b s g) s.limits (j - a.subindex)
          (omega (arith, number, named.low, named.high, s.count)) in
          rw row (omega (arith, number, named.high, n.room), rw place at there)

-- addresses and blocks, one after the other
change_then :
    (xs ys : List Address) (bs cs : List Block) (p : List ℕ) → length bs ≡ length xs
    → (change_all (xs ++ ys) (bs ++ cs) p).part ≡ (change_all ys cs (change_all xs bs p).part).part
change_then [] ys [] cs p e = refl
change_then [] ys (b ∷ bs) cs p e = absurd (omega arith)
change_then (x ∷ xs) ys [] cs p e = absurd (omega arith)
change_then (x ∷ xs) ys (b ∷ bs) cs p e = change_then xs ys bs cs (change_one x b p).part (omega arith)

all_after : {A : Type 0} (P : A → Type 0) (xs ys : List A) → AllOf P (xs ++ ys) → AllOf P ys
all_after P [] ys h = h
all_after P (x ∷ xs) ys h = all_after P xs ys h.1

-- the turn of an address, and the ones after it
pub stored_is_there : StoredIsThere
unfolding worked There parameter_bytes rows
stored_is_there r p fits two size t q j s none =
    let mid : List ℕ = (change_all t.earlier t.earlier_blocks p).part in
    let next : List ℕ = (comes_to r t p).part in
    let bs : AllOf (BlockFits change_block_fits) (t.block ∷ t.later_blocks) = all_after (BlockFits change_block_fits) t.earlier_blocks _ (subst (AllOf (BlockFits change_block_fits)) t.blocks fits.blocks) in
    let here = change_there t.address t.block bs.0 mid (omega (arith, size, change_length t.earlier t.earlier_blocks p)) q j s.names s.answered in
    let stored : ℕ = (change_all r.addresses r.blocks p).stored in
    let whole : (change_all r.addresses r.blocks p).part ≡ (change_all t.later t.later_blocks next).part =
    rw (t.addresses, t.blocks) (change_then t.earlier (t.address ∷ t.later) t.earlier_blocks (t.block ∷ t.later_blocks) p t.level) in
    let kept = kept_then (all_kept t.later t.later_blocks next bs.1) (kept_versioned stored _) in
    rw two (ap (λ (l : List ℕ). element_of q j (versioned stored l)) whole ∙ go next _ here.1 (kept.elements q (found_row _ q s.names.found) j here.0))
  where
    go : (mid end : List ℕ) {x : ℕ} → element_of q j mid ≡ x → Allowed (λ q j. (q.writable ≡ true) × Stored t.later t.later_blocks (comes_to r t p).part q j) mid end q j → element_of q j end ≡ x
    go mid end here (inl e) = e ∙ here
    go mid end here (inr n) = absurd (none n.0.1)

-- whole or not at all
pub whole_or_none : WholeOrNone
whole_or_none a b p =
    change_cases a b p
    (λ c. (is_error c.block ≡ false → c.stored ≡ length b.values) × (is_error c.block ≡ true → (c.stored ≡ 0) × (c.part ≡ p)))
    (λ x. ((λ e. absurd (true≢false e)), (λ e. (refl, refl))))
    (λ s named. ((λ e. refl), (λ e. absurd (true≢false (sym e)))))

-- the tests pass an address that can be stored
limits_all : (r : Row) (xs : List ℕ) → AllOf (λ x. inside r x ≡ true) xs → all_inside r xs ≡ true
limits_all r [] h = refl
limits_all r (x ∷ xs) h = (and-eq-true_iff (inside r x) (all_inside r xs)).1 (h.0, limits_all r xs h.1)

is_kind : (k : Kind) (f : ℕ) → OfKind k f → eqb f (size_code k) || eqb f (type_code k) ≡ true
is_kind k f (inl e) = rw (eq-eqb f (size_code k) e)
is_kind k f (inr e) = rw (eq-eqb f (type_code k) e, or-true)

pub answered_exactly : AnsweredExactly
unfolding change_one
answered_exactly a b p = (storable, answers)
  where
    storable : is_error (change_one a b p).block ≡ false → Storable a b
    storable = change_cases a b p (λ c. is_error c.block ≡ false → Storable a b) (λ x e. absurd (true≢false e)) (λ s named e. s)

    answers : Storable a b → is_error (change_one a b p).block ≡ false
    answers s =
        let k = s.row.kind in
        rw s.passed
        (sym (ap (λ (c : Changed). is_error c.block)
        (three_passed s.row.writable (eqb b.format (size_code k) || eqb b.format (type_code k)) (eqb (length b.values) s.number) (failure ReadOnly p) (failure WrongType p) (failure WrongCount p) _ s.writable (is_kind k b.format s.format) (eq-eqb (length b.values) s.number s.count)))
        ∙ rw (limits_all s.row b.values s.limits))

-- each in its place
answers_at :
    (xs : List Address) (a : Address) (ys : List Address) (bs : List Block) (b : Block) (cs : List Block) (p : List ℕ) → length bs ≡ length xs
    → get_or (change_all (xs ++ (a ∷ ys)) (bs ++ (b ∷ cs)) p).blocks (length xs) empty_block ≡ (change_one a b (change_all xs bs p).part).block
answers_at [] a ys [] b cs p e = refl
answers_at [] a ys (c ∷ bs) b cs p e = absurd (omega arith)
answers_at (x ∷ xs) a ys [] b cs p e = absurd (omega arith)
answers_at (x ∷ xs) a ys (c ∷ bs) b cs p e = answers_at xs a ys bs b cs (change_one x c p).part (omega arith)

pub answers_each : AnswersEach
answers_each r p two t =
    rw (two, t.addresses, t.blocks) (answers_at t.earlier t.address t.later t.earlier_blocks t.block t.later_blocks p t.level)

-- the count of all addresses
counts_all : (them : List Address) (bs : List Block) (p : List ℕ) → (change_all them bs p).stored ≡ stored_of bs (change_all them bs p).blocks
counts_all [] [] p = refl
counts_all [] (b ∷ bs) p = refl
counts_all (a ∷ more) [] p = refl
counts_all (a ∷ more) (b ∷ bs) p =
    let c = change_one a b p in
    cases (is_error c.block)
    (λ t. rw (t, ((whole_or_none a b p).1 t).0, counts_all more bs c.part))
    (λ t. rw (t, (whole_or_none a b p).0 t, counts_all more bs c.part))

pub counts_stored : CountsStored
unfolding worked
counts_stored r p two = rw two (counts_all r.addresses r.blocks p)

-- n elements in a row, from element i on
element_there : (r : Row) (i n k : ℕ) (p : List ℕ) → k < n → get_or (elements_from r i n p) k 0 ≡ element_of r (i + k) p
element_there r i zero k p h = absurd (omega arith)
element_there r i (suc n) zero p h = let z : i + 0 ≡ i = omega arith in rw z refl
element_there r i (suc n) (suc k) p h = let z : i + suc k ≡ i + 1 + k = omega arith in rw z (element_there r (i + 1) n k p (omega arith))

pub read_is_there : ReadIsThere
unfolding read_block
read_is_there a p used after q n k e =
    let b : Block = record { format = size_code q.kind; values = elements_from q a.subindex n p } in
    rw e
    (pick (λ (b : Block). is_error b ≡ false → k < n → get_or b.values k 0 ≡ element_of q (a.subindex + k) p) (leb (used + block_size b + 4 * after) block_limit)
    (λ t ok h. element_there q a.subindex n k p h)
    (λ t ok h. absurd (true≢false ok)))
