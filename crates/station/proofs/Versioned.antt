-- The laws of versions on a station, from what every kind of call owes; then those of a fresh station, a list and a going back.
use mathlib.Core.Path.{◌≡◌, refl, sym, ap, subst, ◌∙◌}
use mathlib.Core.Bool.{Bool, true, false, cond, not, ◌&&◌, ◌||◌, and-eq-true_iff}
use mathlib.Core.List.{List, [], ◌∷◌}
use mathlib.Core.Logic.{◌⊎◌, inl, inr, ◌↔◌}
use Prim.Native.Nat.{ℕ, zero, suc, ◌+◌, ◌-◌, ◌*◌, ◌≤◌, ◌<◌}
use native.Mathlib.Numerals.{add-one}
use native.Mathlib.Omega.{arith}
use lib.Dec.{eqb, leb}
use lib.ListN.{length, take, length-drop}
use borrow.Author.Tests.{eqb-true, eqb-false, eq-eqb, ne_eqb, leb-true, le-leb}
use Rattle.catalogue.specs.Table.{parameter_bytes}
use Rattle.catalogue.specs.Element.{element_of}
use Rattle.versions.specs.Layout.{version_bytes, last_used, kept_count, oldest}
use Rattle.versions.specs.Keep.{taken}
use Rattle.versions.specs.Version.{settings_of, version_of, is_kept}
use Rattle.versions.proofs.Taken.{taken_last}
use Rattle.versions.proofs.Laws.{version_taken as taken-settings, version_kept, numbers_rise}
use Rattle.part.specs.Layout.{versions_at, part_size, middle, versions, with_version, with_settings}
use Rattle.part.specs.WellFormed.{well_formed}
use Rattle.part.proofs.FreshPart.{fresh_last as part-uses-none}
use Rattle.part.proofs.Versions.{front_element, front_middle, front_settings, version_front, settings_beyond, settings_others, settings_back}
use Rattle.station.specs.declared.Listed.{Listed}
use Rattle.station.specs.Parts.{farms, station_size, part_of, station_refusal}
use Rattle.station.specs.Versions.{refused_list, list_answer}
use Rattle.station.specs.Runs.{run_end}
use Rattle.station.specs.Isolation.{answer, after, machine}
use Rattle.station.specs.Calls.{Call, list, go_back, Answer, to_cycle, to_frame, to_list, to_return, number_in, stored_in, kind_of, owner, kinds}
use Rattle.station.specs.Laws.{versions_of, Took, VersionTaken, VersionsStay, VersionStands, FreshUsesNone, ListsKept, GoesBack, KeptCanReturn}
use Rattle.station.proofs.Tests.{one_of}
use Rattle.station.proofs.Windows.{length_window}
use Rattle.station.proofs.Isolation.{Right, right, fine, took_answer, gave_answer, fits, length_after, own, other}
use Rattle.station.proofs.VersionsOwes.{returned, return_number}
use Rattle.station.proofs.Owes.{owes, sized}
use Rattle.station.proofs.Refusals.{was_done, numbered_by_table}
use Rattle.station.proofs.Stays.{fresh_parts_lem}

-- no number is wider than two bytes
last_bound : (v : List ℕ) → last_used v ≤ 65535
unfolding last_used
last_bound v = one_of (λ (n : ℕ). n ≤ 65535) (eqb (length v) version_bytes) _ 0 (omega arith) (omega arith)

-- a call whose farm and size are right
module _ (c : Call) (s : List ℕ) (home : Right (owner c) (length s)) where
  abbrev p : List ℕ
  p = part_of (owner c) s

  abbrev q : List ℕ
  q = (kind_of c).leaves p

  size : length p ≡ part_size
  size = length_window ((owner c - 1) * part_size) part_size s (fits home)

  stored_is : stored_in (answer kinds c s) ≡ stored_in ((kind_of c).answers p)
  stored_is = ap stored_in (took_answer kinds c s (fine home))

  left_is : versions_of (owner c) (after kinds c s) ≡ cond (eqb (stored_in (answer kinds c s)) 0) (versions p) (taken q (versions p))
  left_is = ap versions (own kinds sized c s home) ∙ ((owes c).versioned p size ∙ ap (λ (n : ℕ). cond (eqb n 0) (versions p) (taken q (versions p))) (sym stored_is))

  stay_here : stored_in (answer kinds c s) ≡ 0 → versions_of (owner c) (after kinds c s) ≡ versions p
  stay_here none = left_is ∙ rw (eq-eqb _ 0 none)

  taken_here : (stored_in (answer kinds c s) ≡ 0 → ⊥) → Took (owner c) s (after kinds c s)
  taken_here some =
      let v : List ℕ = versions p in
      let long : length v ≡ version_bytes = length-drop versions_at p ∙ omega (arith, size) in
      let less : last_used v < 65535 = omega (arith, last_bound v, eqb-false (last_used v) 65535 ((owes c).numbers p (λ none. some (stored_is ∙ none)))) in
      let last : last_used (taken q v) ≡ last_used v + 1 = taken_last q v long less in
      let is : versions_of (owner c) (after kinds c s) ≡ taken q v = left_is ∙ rw (ne_eqb _ 0 some) in
      record {
        next = ap last_used is ∙ (last ∙ add-one (last_used v));
        settings =
            ap (λ (l : List ℕ). version_of (last_used l) l) is
            ∙ (ap (λ (n : ℕ). version_of n (taken q v)) last ∙ (taken-settings q v long ∙ ap settings_of (sym (own kinds sized c s home))));
        kept = λ n old kept. ap (version_of n) is ∙ version_kept q v long less n (sym (ap (is_kept n) is) ∙ kept) old;
      }

-- a call that stores something is not refused
stored_home : (c : Call) (s : List ℕ) → (stored_in (answer kinds c s) ≡ 0 → ⊥) → Right (owner c) (length s)
stored_home c s some = go (station_refusal (owner c) (length s)) refl
  where
    go : (r : ℕ) → station_refusal (owner c) (length s) ≡ r → Right (owner c) (length s)
    go zero e = right (owner c) (length s) e
    go (suc r) e = absurd (some (ap stored_in (gave_answer kinds c s r e) ∙ (owes c).empty (suc r)))

pub version_taken : VersionTaken
version_taken c s some = taken_here c s (stored_home c s some) some

pub versions_stay : VersionsStay
versions_stay c s size none k low high = go (eqb (owner c) k) refl
  where
    home : Right k (length s)
    home = record { low = low; high = high; size = size }

    go : (b : Bool) → eqb (owner c) k ≡ b → versions_of k (after kinds c s) ≡ versions_of k s
    go true e =
        let same = eqb-true (owner c) k e in
        subst (λ (j : ℕ). versions_of j (after kinds c s) ≡ versions_of j s) same (stay_here c s (subst (λ (j : ℕ). Right j (length s)) (sym same) home) none)
    go false e = ap versions (other kinds sized c s k home (eqb-false (owner c) k e))

-- calls of all farms, as farm k sees them
module _ (k : ℕ) (low : 1 ≤ k) (high : k ≤ farms) where
  step : (c : Call) (s : List ℕ) → length s ≡ station_size → (versions_of k (after kinds c s) ≡ versions_of k s) ⊎ Took k s (after kinds c s)
  step c s size = go (eqb (stored_in (answer kinds c s)) 0) refl (eqb (owner c) k) refl
    where
      go : (a : Bool) → eqb (stored_in (answer kinds c s)) 0 ≡ a → (b : Bool) → eqb (owner c) k ≡ b
          → (versions_of k (after kinds c s) ≡ versions_of k s) ⊎ Took k s (after kinds c s)
      go true e b f = inl (versions_stay c s size (eqb-true _ 0 e) k low high)
      go false e true f =
          inr (subst (λ (j : ℕ). Took j s (after kinds c s)) (eqb-true (owner c) k f) (version_taken c s (eqb-false _ 0 e)))
      go false e false f = inl (ap versions (other kinds sized c s k (record { low = low; high = high; size = size }) (eqb-false (owner c) k f)))

  stays_long : (c : Call) (s : List ℕ) → length s ≡ station_size → length (after kinds c s) ≡ station_size
  stays_long c s size = length_after kinds sized c s ∙ size

  rises_once : {s t : List ℕ} → (versions_of k t ≡ versions_of k s) ⊎ Took k s t → last_used (versions_of k s) ≤ last_used (versions_of k t)
  rises_once (inl e) = omega (arith, ap last_used e)
  rises_once (inr t) = omega (arith, t.next)

  -- the last number used never falls
  rises : (cs : List Call) (s : List ℕ) → length s ≡ station_size → last_used (versions_of k s) ≤ last_used (versions_of k (run_end (machine kinds) cs s))
  unfolding run_end
  rises [] s size = omega arith
  rises (c ∷ cs) s size = omega (arith, rises_once (step c s size), rises cs (after kinds c s) (stays_long c s size))

  -- what is kept later was kept before
  kept_before : (n : ℕ) (v w : List ℕ) → last_used v ≤ last_used w → n ≤ last_used v → is_kept n w ≡ true → is_kept n v ≡ true
  kept_before n v w less old kept =
      let two = (and-eq-true_iff (leb (oldest w) n) (leb n (last_used w))).0 kept in
      (and-eq-true_iff (leb (oldest v) n) (leb n (last_used v))).1 (le-leb (oldest v) n (omega (arith, leb-true (oldest w) n two.0)), le-leb n (last_used v) old)

  stands_once : {s t : List ℕ} (n : ℕ) → n ≤ last_used (versions_of k s) → is_kept n (versions_of k t) ≡ true
      → (versions_of k t ≡ versions_of k s) ⊎ Took k s t → version_of n (versions_of k t) ≡ version_of n (versions_of k s)
  stands_once n old kept (inl e) = ap (version_of n) e
  stands_once n old kept (inr t) = t.kept n old kept

  -- a version is as it was for as long as it is kept
  stands : (cs : List Call) (s : List ℕ) → length s ≡ station_size → (n : ℕ) → n ≤ last_used (versions_of k s)
      → is_kept n (versions_of k (run_end (machine kinds) cs s)) ≡ true → version_of n (versions_of k (run_end (machine kinds) cs s)) ≡ version_of n (versions_of k s)
  unfolding run_end
  stands [] s size n old kept = refl
  stands (c ∷ cs) s size n old kept =
      let t : List ℕ = after kinds c s in
      let long = stays_long c s size in
      let more : n ≤ last_used (versions_of k t) = omega (arith, rises_once (step c s size)) in
      let here = kept_before n (versions_of k t) (versions_of k (run_end (machine kinds) cs t)) (rises cs t long) more kept in
      stands cs t long n more kept ∙ stands_once n old here (step c s size)

pub version_stands : VersionStands
version_stands c s later some kept =
    let home = stored_home c s some in
    let took = version_taken c s some in
    let long = length_after kinds sized c s ∙ home.size in
    stands (owner c) home.low home.high later (after kinds c s) long (last_used (versions_of (owner c) (after kinds c s))) (omega arith) kept ∙ took.settings

pub fresh_uses_none : FreshUsesNone
fresh_uses_none s size k low high = ap (λ (l : List ℕ). last_used (versions l)) (fresh_parts_lem s size k low high) ∙ part-uses-none

-- a list that is done tells the versions
listed_in : Answer → Listed
listed_in (to_list a) = a
listed_in (to_cycle a) = refused_list 0
listed_in (to_frame a m) = refused_list 0
listed_in (to_return a) = refused_list 0

list_done : (formed : Bool) (a : Listed) → (cond (not formed) (refused_list 2) a).number ≡ 0 → cond (not formed) (refused_list 2) a ≡ a
list_done true a z = refl
list_done false a z = absurd (omega arith)

pub lists_kept : ListsKept
unfolding listed_in list_answer
lists_kept k s a e z n =
    let p : List ℕ = part_of k s in
    let done = was_done (list k) s (ap number_in e ∙ z) in
    let is : a ≡ record { oldest = oldest (versions p); kept = kept_count (versions p); number = 0 } =
    ap listed_in (sym e ∙ took_answer kinds (list k) s (fine done.0)) ∙ list_done (well_formed k p) _ done.1 in
    subst (λ (b : Listed). (is_kept n (versions p) ≡ true) ↔ ((b.oldest ≤ n) × (n < b.oldest + b.kept))) (sym is) ((numbers_rise (versions p)).exactly n)

pub goes_back : GoesBack
goes_back k n s z =
    let p : List ℕ = part_of k s in
    let c = go_back k n in
    let done = was_done c s z in
    let x = returned k n p (sym (return_number k n p) ∙ done.1) in
    let q : List ℕ = with_settings n p in
    let long : length p ≡ part_size = size c s done.0 in
    let left : part_of k (after kinds c s) ≡ with_version q = own kinds sized c s done.0 ∙ x.1 in
    record {
      answered = took_answer kinds c s (fine done.0) ∙ ap to_return x.0;
      settings = ap settings_of left ∙ (front_settings q (with_version q) (version_front q) ∙ settings_back n p long);
      others = λ r m fixed j h. ap (element_of r j) left ∙ (front_element q (with_version q) (version_front q) r m j h ∙ settings_others n p r m fixed j h);
      rest =
          ap middle left
          ∙ (front_middle q (with_version q) (version_front q) ∙ ap (take (versions_at - parameter_bytes)) (settings_beyond n p));
    }

-- with every test passed, no number is left
all_passed : (low high sized formed kept up : Bool) → low ≡ true → high ≡ true → sized ≡ true → formed ≡ true → kept ≡ true → up ≡ false → ◌≡◌ {A = ℕ} (cond (not (low && high)) 1 (cond (not sized || not formed) 2 (cond (not kept) 14 (cond up 15 0)))) 0
all_passed low high sized formed kept up a b c d e f = rw (a, b, c, d, e, f)

pub kept_can_return : KeptCanReturn
kept_can_return k n s low high size formed kept less =
    numbered_by_table (go_back k n) s
    ∙ all_passed (leb 1 k) (leb k farms) (eqb (length s) station_size) (well_formed k (part_of k s)) (is_kept n (versions_of k s)) (eqb (last_used (versions_of k s)) 65535)
    (le-leb 1 k low) (le-leb k farms high) (eq-eqb (length s) station_size size) formed kept (ne_eqb (last_used (versions_of k s)) 65535 (λ e. omega arith))
