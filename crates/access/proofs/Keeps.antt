-- What is kept of a part that a request is worked on: all but the elements that it stores and the versions by these, their limits, and
-- that it is well-formed.
use Rattle.std.specs.Prelude.{Some}
use mathlib.Core.Path.{◌≡◌, refl, sym, ap, ◌∙◌}
use mathlib.Core.Bool.{Bool, true, false, cond, not, ◌&&◌, ◌||◌, true≢false, and-eq-true_iff}
use mathlib.Core.List.{List, [], ◌∷◌, Memᴰ}
use mathlib.Core.Logic.{◌⊎◌, inl, inr}
use Prim.Native.Nat.{ℕ, zero, suc, ◌+◌, ◌-◌, ◌^◌, ◌≤◌, ◌<◌}
use native.Mathlib.Decide.{dec_le}
use native.Mathlib.Omega.{arith}
use lib.Dec.{eqb}
use lib.ListN.{length, take, drop}
use borrow.Author.Tests.{eqb-true, not-true, not-false}
use borrow.Table.Steps.{cases}
use Rattle.codes.specs.Code.{Got, got, bad, AllOf, readable}
use Rattle.codes.specs.Number.{number_at}
use Rattle.codes.proofs.Number.{numbers_same}
use Rattle.blocks.specs.Block.{Block, block_limit, change_block_fits}
use Rattle.blocks.specs.Request.{Request, request}
use Rattle.blocks.specs.Response.{response}
use Rattle.blocks.specs.Page.{BlockFits, RequestFits}
use Rattle.blocks.proofs.Sound.{request_sound}
use Rattle.blocks.proofs.Page.{request_valid}
use Rattle.blocks.specs.declared.reader.Address.{Address}
use Rattle.drive.specs.Faults.{situations, buffer_codes, all_proper}
use Rattle.catalogue.specs.declared.Row.{Row}
use Rattle.catalogue.specs.Table.{rows, parameter_bytes, find_of, offset_of, element_size}
use Rattle.catalogue.specs.Element.{element_place, inside, element_of, put_element, fresh_of, every_element, every_row}
use Rattle.catalogue.proofs.Elements.{element_length, element_stored, element_unstored}
use Rattle.catalogue.proofs.Rows.{found_row, every_row_lem, element_elsewhere, element_rest}
use Rattle.versions.specs.Keep.{taken}
use Rattle.versions.specs.Fit.{versions_fit}
use Rattle.part.specs.Layout.{state_at, length_at, response_at, versions_at, part_size, with_response, versions, with_version}
use Rattle.part.specs.Record.{words_at}
use Rattle.part.specs.WellFormed.{limits_fit, fixed_fit, waiting_fits, unused_fit, well_formed}
use Rattle.drive.specs.States.{is_state}
use Rattle.part.proofs.Laws.{response_well_formed, drop_later}
use Rattle.part.proofs.Versions.{front_element, front_taken, version_length, version_front, version_taken, version_well_formed, front_middle}
use Rattle.access.specs.Change.{store_from, success, change_one, ChangedAll, change_all}
use Rattle.access.specs.Work.{Worked, versioned, worked, Outcome, exhausts, admitted_if, outcome_of}
use Rattle.access.specs.Laws.{ReadKeeps, StoredBy, Stored, Storable, Allowed, Kept, OnlyStoredChanges, VersionsFollow, RequestKeepsWellFormed, BlockKeepsWellFormed}
use Rattle.access.proofs.Checks.{pick, Named}
use Rattle.access.proofs.Lengths.{change_length}
use Rattle.access.proofs.Answers.{change_cases, storable_small, answer_readable, answer_axis}

pub read_keeps : ReadKeeps
unfolding worked
read_keeps r p e = rw e (refl, refl)

-- What is kept by two steps, one after the other, and by a step that may change less.
module _ {May : Row → ℕ → Type 0} where
  kept_none : (p : List ℕ) → Kept May p p
  kept_none p = record { size = refl; others = refl; elements = λ q m j h. inl refl }

  pub kept_then : {p s t : List ℕ} → Kept May p s → Kept May s t → Kept May p t
  kept_then {p} {s} {t} first second =
      record {
        size = second.size ∙ first.size;
        others = second.others ∙ first.others;
        elements = λ q m j h. go q j (first.elements q m j h) (second.elements q m j h);
      }
    where
      go : (q : Row) (j : ℕ) → Allowed May p s q j → Allowed May s t q j → Allowed May p t q j
      go q j (inl d) (inl e) = inl (e ∙ d)
      go q j (inr n) (inl e) = inr (n.0, ap (inside q) e ∙ n.1)
      go q j d (inr n) = inr n

  kept_more : {Might : Row → ℕ → Type 0} {p s : List ℕ} → ((q : Row) (j : ℕ) → May q j → Might q j) → Kept May p s → Kept Might p s
  kept_more {Might} {p} {s} more k =
      record { size = k.size; others = k.others; elements = λ q m j h. go q j (k.elements q m j h) }
    where
      go : (q : Row) (j : ℕ) → Allowed May p s q j → Allowed Might p s q j
      go q j (inl e) = inl e
      go q j (inr n) = inr (more q j n.0, n.1)

  -- a version that is taken, or none
  pub kept_versioned : (n : ℕ) (p : List ℕ) → Kept May p (versioned n p)
  kept_versioned n p =
      pick (Kept May p) (eqb n 0) (λ t. kept_none p)
      (λ t.
      record {
        size = version_length p;
        others = front_middle p (with_version p) (version_front p);
        elements = λ q m j h. inl (front_element p (with_version p) (version_front p) q m j h);
      })

-- n elements of a row, from element i on
abbrev pub Among : Row → ℕ → ℕ → Row → ℕ → Type 0
Among r i n q j = (q ≡ r) × (i ≤ j) × (j < i + n)

module _ (r : Row) (m : Memᴰ r rows) where
  -- one element, with a value inside its limits
  element_kept : (i x : ℕ) (p : List ℕ) → i < r.count → inside r x ≡ true → x < 256 ^ element_size r.kind → Kept (Among r i 1) p (put_element r i x p)
  element_kept i x p k ok small =
      record {
        size = element_length r i x p;
        others = ap (take (versions_at - parameter_bytes)) (element_rest r m i k x p);
        elements = λ q n j h. go q j (dec_le (element_place r i + element_size r.kind) (length p)) (element_elsewhere q r n m j i h k x p);
      }
    where
      after : List ℕ
      after = put_element r i x p

      go : (q : Row) (j : ℕ) → Dec (element_place r i + element_size r.kind ≤ length p) → ((q ≡ r) × (j ≡ i)) ⊎ (element_of q j after ≡ element_of q j p) → Allowed (Among r i 1) p after q j
      go q j d (inr e) = inl e
      go q j (yes room) (inl s) = inr ((s.0, omega (arith, s.1), omega (arith, s.1)), rw (s.0, s.1, element_stored r i x p room small) ok)
      go q j (no n) (inl s) = inl (ap (element_of q j) (element_unstored r i x p (omega arith)))

  pub store_kept : (i : ℕ) (xs p : List ℕ) → i + length xs ≤ r.count → AllOf (λ x. x < 256 ^ element_size r.kind) xs → AllOf (λ x. inside r x ≡ true) xs → Kept (Among r i (length xs)) p (store_from r i xs p)
  store_kept i [] p room small ok = kept_none p
  store_kept i (x ∷ xs) p room small ok =
      kept_then
      (kept_more (λ q j a. (a.0, a.1, omega (arith, a.2))) (element_kept i x p (omega arith) ok.0 small.0))
      (kept_more (λ q j a. (a.0, omega (arith, a.1), omega (arith, a.2))) (store_kept (i + 1) xs (put_element r i x p) (omega arith) small.1 ok.1))

-- one address with its block of values
abbrev Writes : (Row → ℕ → Type 0) → Row → ℕ → Type 0
Writes May q j = (q.writable ≡ true) × May q j

change_kept : (a : Address) (b : Block) → BlockFits change_block_fits b → (p : List ℕ) → Kept (Writes (StoredBy a (change_one a b p))) p (change_one a b p).part
change_kept a b g p = change_cases a b p (λ c. Kept (Writes (StoredBy a c)) p c.part) (λ e. kept_none p) stores
  where
    stores : (s : Storable a b) → Named a s.row s.number → let c = success s.row a.subindex b.values p in Kept (Writes (StoredBy a c)) p c.part
    stores s named =
        kept_more
        (λ q j x. (
          rw x.0 s.writable,
          record {
            names = record { found = rw x.0 named.found; number = s.number; passed = rw x.0 s.passed; low = x.1; high = omega (arith, s.count, x.2) };
            answered = refl;
          },
        ))
        (store_kept s.row named.row a.subindex b.values p (omega (arith, s.count, named.room)) (storable_small a b s g) s.limits)

pub all_kept : (them : List Address) (sent : List Block) (p : List ℕ) → AllOf (BlockFits change_block_fits) sent → Kept (Writes (Stored them sent p)) p (change_all them sent p).part
all_kept [] sent p g = kept_none p
all_kept (a ∷ more) [] p g = kept_none p
all_kept (a ∷ more) (b ∷ sent) p g =
    kept_then
    (kept_more (λ q j x. (x.0, inl x.1)) (change_kept a b g.0 p))
    (kept_more (λ q j x. (x.0, inr x.1)) (all_kept more sent (change_one a b p).part g.1))

pub only_stored_changes : OnlyStoredChanges
unfolding worked
only_stored_changes r p f =
    pick (λ (w : Worked). Kept (Writes (Stored r.addresses r.blocks p)) p w.part) (eqb r.identifier 1)
    (λ e. kept_none p)
    (λ e. kept_then (all_kept r.addresses r.blocks p f.blocks) (kept_versioned (change_all r.addresses r.blocks p).stored _))

-- no byte beyond the parameters is touched before a version is taken
store_beyond : (r : Row) → Memᴰ r rows → (i : ℕ) (xs p : List ℕ) → i + length xs ≤ r.count → drop parameter_bytes (store_from r i xs p) ≡ drop parameter_bytes p
store_beyond r m i [] p room = refl
store_beyond r m i (x ∷ xs) p room = store_beyond r m (i + 1) xs (put_element r i x p) (omega arith) ∙ element_rest r m i (omega arith) x p

all_beyond : (them : List Address) (sent : List Block) (p : List ℕ) → drop parameter_bytes (change_all them sent p).part ≡ drop parameter_bytes p
all_beyond [] sent p = refl
all_beyond (a ∷ more) [] p = refl
all_beyond (a ∷ more) (b ∷ sent) p =
    all_beyond more sent (change_one a b p).part
    ∙ change_cases a b p (λ c. drop parameter_bytes c.part ≡ drop parameter_bytes p) (λ e. refl)
    (λ s named. store_beyond s.row named.row a.subindex b.values p (omega (arith, s.count, named.room)))

pub versions_follow : VersionsFollow
unfolding worked
versions_follow r p size =
    cases (eqb r.identifier 1) (λ e. rw e refl)
    (λ e. rw e
    (cases (eqb c.stored 0)
    (λ t. rw t same)
    (λ t. rw t (version_taken c.part (change_length r.addresses r.blocks p ∙ size) ∙ (ap (taken c.part) same ∙ sym (front_taken c.part (with_version c.part) (version_front c.part) (versions p)))))))
  where
    c : ChangedAll
    c = change_all r.addresses r.blocks p

    same : versions c.part ≡ versions p
    same = drop_later parameter_bytes versions_at p c.part (omega arith) (all_beyond r.addresses r.blocks p)

-- A well-formed part stays well-formed.
and_map : {a b c d : Bool} → (a ≡ true → c ≡ true) → (b ≡ true → d ≡ true) → a && b ≡ true → c && d ≡ true
and_map {a} {b} {c} {d} f g e = let two = (and-eq-true_iff a b).0 e in (and-eq-true_iff c d).1 (f two.0, g two.1)

test_map : (b : Bool) {x y : Bool} → (b ≡ true → x ≡ true → y ≡ true) → cond b x true ≡ true → cond b y true ≡ true
test_map true f e = f refl e
test_map false f e = refl

rows_map : (ok okay : Row → Bool) (rs : List Row) → ((q : Row) → Memᴰ q rs → ok q ≡ true → okay q ≡ true) → every_row ok rs ≡ true → every_row okay rs ≡ true
rows_map ok okay [] f e = refl
rows_map ok okay (r ∷ rs) f e = and_map {a = ok r} (f r (Memᴰ.head refl)) (rows_map ok okay rs (λ q m. f q (Memᴰ.tail m))) e

elements_map : (ok okay : ℕ → Bool) (n : ℕ) → ((j : ℕ) → j < n → ok j ≡ true → okay j ≡ true) → every_element ok n ≡ true → every_element okay n ≡ true
elements_map ok okay zero f e = refl
elements_map ok okay (suc n) f e = and_map {b = ok n} (elements_map ok okay n (λ j h. f j (omega arith))) (f n (omega arith)) e

-- 930 and 965 cannot be written
fixed_row : (q : Row) → Memᴰ q rows → eqb q.pnu 930 || eqb q.pnu 965 ≡ true → q.writable ≡ false
unfolding rows
fixed_row q m e = not-true q.writable (rw e at (every_row_lem (λ r. not (eqb r.pnu 930 || eqb r.pnu 965) || not r.writable) rows refl q m))

-- only writable elements were changed, and what was changed is inside its limits
module _ (May : Row → ℕ → Type 0) (writes : (q : Row) (j : ℕ) → May q j → q.writable ≡ true) (p after : List ℕ) (k : Kept May p after) (beyond : drop parameter_bytes after ≡ drop parameter_bytes p) where
  number_beyond : (w n : ℕ) → parameter_bytes ≤ n → number_at w after n ≡ number_at w p n
  unfolding number_at
  number_beyond w n h = rw (drop_later parameter_bytes n p after h beyond)

  unwritten : (q : Row) → Memᴰ q rows → q.writable ≡ false → (j : ℕ) → j < q.count → element_of q j after ≡ element_of q j p
  unwritten q m shut j h = go (k.elements q m j h)
    where
      go : Allowed May p after q j → element_of q j after ≡ element_of q j p
      go (inl e) = e
      go (inr n) = absurd (true≢false (sym (writes q j n.0) ∙ shut))

  limits_kept : (q : Row) → Memᴰ q rows → limits_fit p q ≡ true → limits_fit after q ≡ true
  unfolding limits_fit
  limits_kept q m = test_map q.writable (λ w. elements_map _ _ q.count (λ j h. go j (k.elements q m j h)))
    where
      go : (j : ℕ) → Allowed May p after q j → inside q (element_of q j p) ≡ true → inside q (element_of q j after) ≡ true
      go j (inl e) ok = ap (inside q) e ∙ ok
      go j (inr n) ok = n.1

  fixed_kept : (q : Row) → Memᴰ q rows → fixed_fit p q ≡ true → fixed_fit after q ≡ true
  unfolding fixed_fit
  fixed_kept q m =
      test_map (eqb q.pnu 930 || eqb q.pnu 965)
      (λ t. elements_map _ _ q.count (λ j h e. ap (λ (x : ℕ). eqb x (fresh_of q j)) (unwritten q m (fixed_row q m t) j h) ∙ e))

  -- a parameter of words that cannot be written, as the fault buffer is
  words_kept : (pnu : ℕ) (q : Row) → find_of pnu ≡ Some q → element_size q.kind ≡ 2 → q.writable ≡ false → words_at q.count after (offset_of pnu) ≡ words_at q.count p (offset_of pnu)
  unfolding element_of offset_of
  words_kept pnu q e two shut =
      rw e (numbers_same 2 q.count after p q.offset (λ j h. rw two at (unwritten q (found_row pnu q e) shut j h)))

  faults_kept : words_at buffer_codes after (offset_of 947) ≡ words_at buffer_codes p (offset_of 947)
  unfolding find_of rows
  faults_kept = words_kept 947 _ refl refl refl

  waiting_kept : (axis : ℕ) → waiting_fits axis after ≡ waiting_fits axis p
  unfolding waiting_fits
  waiting_kept axis = rw (number_beyond 1 length_at (omega arith), drop_later parameter_bytes response_at p after (omega arith) beyond)

  unused_kept : unused_fit after ≡ unused_fit p
  unfolding unused_fit
  unused_kept = rw (number_beyond 1 length_at (omega arith), drop_later parameter_bytes response_at p after (omega arith) beyond)

  pub well_formed_kept : (axis : ℕ) → well_formed axis p ≡ true → well_formed axis after ≡ true
  unfolding well_formed
  well_formed_kept axis =
      and_map
      (and_map
      (and_map
      (and_map
      (and_map
      (and_map
      (and_map
      (same (ap (λ (n : ℕ). eqb n part_size) k.size))
      (same (ap is_state (number_beyond 1 state_at (omega arith)))))
      (rows_map (limits_fit p) (limits_fit after) rows limits_kept))
      (rows_map (fixed_fit p) (fixed_fit after) rows fixed_kept))
      (same (ap (all_proper situations) faults_kept)))
      (same (waiting_kept axis)))
      (same unused_kept))
      (same (ap versions_fit (drop_later parameter_bytes versions_at p after (omega arith) beyond)))
    where
      same : {a b : Bool} → b ≡ a → a ≡ true → b ≡ true
      same e t = e ∙ t

pub request_keeps_well_formed : RequestKeepsWellFormed
unfolding worked
request_keeps_well_formed axis r p f w =
    pick (λ (x : Worked). well_formed axis x.part ≡ true) (eqb r.identifier 1) (λ e. w)
    (λ e. pick (λ (q : List ℕ). well_formed axis q ≡ true) (eqb c.stored 0) (λ t. kept) (λ t. version_well_formed c.part axis kept))
  where
    c : ChangedAll
    c = change_all r.addresses r.blocks p

    kept : well_formed axis c.part ≡ true
    kept =
        well_formed_kept (Writes (Stored r.addresses r.blocks p)) (λ q j x. x.0) p c.part
        (all_kept r.addresses r.blocks p f.blocks)
        (all_beyond r.addresses r.blocks p)
        axis w

-- and with the response waiting in it
pub answer_waits : (axis : ℕ) (r : Request) (p : List ℕ) → RequestFits r → r.axis ≡ axis → well_formed axis p ≡ true
    → well_formed axis (with_response (response.write (worked r p).response) (worked r p).part) ≡ true
answer_waits axis r p f e w =
    response_well_formed axis (worked r p).part (request_keeps_well_formed axis r p f w)
    (response.write (worked r p).response)
    (answer_readable r p f)
    (answer_axis r p f ∙ e)

pub block_keeps_well_formed : BlockKeepsWellFormed
unfolding outcome_of
block_keeps_well_formed axis s p w = go (request.read s) refl
  where
    Good : Outcome → Type 0
    Good o = well_formed axis o.part ≡ true

    go : (g : Got Request) → request.read s ≡ g → Good (admitted_if axis p (readable block_limit request s) g)
    go (got r t) e =
        pick Good (readable block_limit request s)
        (λ u. pick Good (not (eqb r.axis axis)) (λ v. w)
        (λ v. pick Good (exhausts r p) (λ x. w)
        (λ x. answer_waits axis r p ((request_valid r).0 (request_sound.only s r t e).0) (eqb-true r.axis axis (not-false (eqb r.axis axis) v)) w)))
        (λ u. w)
    go bad e = w
