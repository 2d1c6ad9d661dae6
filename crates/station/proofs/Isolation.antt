-- Of every kind of call that leaves a part of a part's size: it works on its owner's part alone; so it is isolated (demand 2).
use mathlib.Core.Path.{◌≡◌, refl, sym, ap, subst, ◌∙◌}
use mathlib.Core.Bool.{Bool, true, false, cond, not, ◌&&◌}
use mathlib.Core.List.{List}
use Prim.Native.Nat.{ℕ, zero, suc, ◌+◌, ◌-◌, ◌*◌, ◌≤◌, ◌<◌}
use native.Mathlib.Omega.{arith}
use native.Mathlib.Decide.{dec_lt}
use native.Mathlib.Nat.{suc-mul, mul-le-mul}
use lib.Dec.{eqb, leb}
use lib.ListN.{length}
use borrow.Author.Tests.{eqb-true, eqb-false, leb-true, le-leb, eq-eqb}
use Rattle.part.specs.Layout.{part_size}
use Rattle.station.specs.Parts.{farms, station_size, part_of, with_part, station_refusal}
use Rattle.station.specs.Isolation.{Kinds, answer, after, machine, Isolated, Sized}
use Rattle.station.proofs.Runs.{Owns, same_seen}
use Rattle.station.proofs.Windows.{length_window, length_with, window_same, window_before, window_after}

-- equal parts, counted from 1, end before the next begins
pub ends : (j k n : ℕ) → 1 ≤ j → j ≤ k → (j - 1) * n + n ≤ k * n
ends j k n lo le =
    let e : suc (j - 1) ≡ j = omega arith in
    omega (arith, suc-mul (j - 1) n, ap (λ (x : ℕ). x * n) e, mul-le-mul {n₁ = j} {m₁ = n} {n₂ = k} {m₂ = n} le (omega arith))

-- a farm's number, and a station's size
pub record Right (k n : ℕ) : Type 0 where
  pub low : 1 ≤ k
  pub high : k ≤ farms
  pub size : n ≡ station_size

zero_test : (x y z : Bool) → ◌≡◌ {A = ℕ} (cond (not (x && y)) 1 (cond (not z) 2 0)) 0 → (x ≡ true) × ((y ≡ true) × (z ≡ true))
zero_test false y z e = let q : ◌≡◌ {A = ℕ} 0 1 = cc in absurd (omega arith)
zero_test true false z e = let q : ◌≡◌ {A = ℕ} 0 1 = cc in absurd (omega arith)
zero_test true true false e = let q : ◌≡◌ {A = ℕ} 0 2 = cc in absurd (omega arith)
zero_test true true true e = (refl, (refl, refl))

pub right : (k n : ℕ) → station_refusal k n ≡ 0 → Right k n
unfolding station_refusal
right k n e =
    let t = zero_test (leb 1 k) (leb k farms) (eqb n station_size) e in
    record { low = leb-true 1 k t.0; high = leb-true k farms t.1.0; size = eqb-true n station_size t.1.1 }

pub fine : {k n : ℕ} → Right k n → station_refusal k n ≡ 0
unfolding station_refusal
fine {k} {n} r = rw (le-leb 1 k r.low, le-leb k farms r.high, eq-eqb n station_size r.size)

pub fits : {k n : ℕ} → Right k n → (k - 1) * part_size + part_size ≤ n
fits {k} {n} r = subst (λ (x : ℕ). (k - 1) * part_size + part_size ≤ x) (sym r.size) (ends k farms part_size r.low r.high)

-- where the part of farm k begins
abbrev start : ℕ → ℕ
start k = (k - 1) * part_size

module _ (K : Kinds) where
  -- a call whose farm and size are right
  pub took_answer : (c : K.Call) (s : List ℕ) → station_refusal (K.owner c) (length s) ≡ 0 → answer K c s ≡ K.answers c (part_of (K.owner c) s)
  unfolding answer
  took_answer c s e = rw e

  pub took : (c : K.Call) (s : List ℕ) → station_refusal (K.owner c) (length s) ≡ 0
      → after K c s ≡ with_part (K.owner c) (K.leaves c (part_of (K.owner c) s)) s
  unfolding after
  took c s e = rw e

  -- and one for which they are not
  pub gave_answer : (c : K.Call) (s : List ℕ) (n : ℕ) → station_refusal (K.owner c) (length s) ≡ suc n → answer K c s ≡ K.refused c (suc n)
  unfolding answer
  gave_answer c s n e = rw e

  pub gave : (c : K.Call) (s : List ℕ) (n : ℕ) → station_refusal (K.owner c) (length s) ≡ suc n → after K c s ≡ s
  unfolding after
  gave c s n e = rw e

module _ (K : Kinds) (sized : Sized K) (c : K.Call) (s : List ℕ) where
  abbrev pub new : List ℕ
  new = K.leaves c (part_of (K.owner c) s)

  pub new_length : Right (K.owner c) (length s) → length new ≡ part_size
  unfolding Sized
  new_length r = sized c (part_of (K.owner c) s) (length_window (start (K.owner c)) part_size s (fits r))

  -- the size stays
  pub length_after : length (after K c s) ≡ length s
  length_after = go (station_refusal (K.owner c) (length s)) refl
    where
      go : (r : ℕ) → station_refusal (K.owner c) (length s) ≡ r → length (after K c s) ≡ length s
      go zero e =
          let g : Right (K.owner c) (length s) = right (K.owner c) (length s) e in
          ap length (took K c s e) ∙ length_with (start (K.owner c)) part_size new s (fits g) (new_length g)
      go (suc n) e = ap length (gave K c s n e)

  -- on its own part a call does its work
  pub own : Right (K.owner c) (length s) → part_of (K.owner c) (after K c s) ≡ K.leaves c (part_of (K.owner c) s)
  own g = ap (part_of (K.owner c)) (took K c s (fine g)) ∙ window_same (start (K.owner c)) part_size new s (fits g) (new_length g)

  -- and every other part is as it was
  pub other : (k : ℕ) → Right k (length s) → (K.owner c ≡ k → ⊥) → part_of k (after K c s) ≡ part_of k s
  other k f d = go (station_refusal (K.owner c) (length s)) refl
    where
      beside : Right (K.owner c) (length s) → Dec (K.owner c < k) → Dec (k < K.owner c) → part_of k (with_part (K.owner c) new s) ≡ part_of k s
      beside g (yes h) m =
          window_after (start (K.owner c)) part_size new s (fits g) (new_length g) (start k) part_size
          (ends (K.owner c) (k - 1) part_size g.low (omega arith)) (fits f)
      beside g (no h) (yes m) =
          window_before (start (K.owner c)) part_size new s (fits g) (new_length g) (start k) part_size
          (ends k (K.owner c - 1) part_size f.low (omega arith))
      beside g (no h) (no m) = absurd (d (omega arith))

      go : (r : ℕ) → station_refusal (K.owner c) (length s) ≡ r → part_of k (after K c s) ≡ part_of k s
      go zero e = ap (part_of k) (took K c s e) ∙ beside (right (K.owner c) (length s) e) (dec_lt (K.owner c) k) (dec_lt k (K.owner c))
      go (suc n) e = ap (part_of k) (gave K c s n e)

module _ (K : Kinds) (sized : Sized K) (k : ℕ) (low : 1 ≤ k) (high : k ≤ farms) where
  right_here : (s : List ℕ) → length s ≡ station_size → Right k (length s)
  right_here s g = record { low = low; high = high; size = g }

  owned : (c : K.Call) (s : List ℕ) → length s ≡ station_size → K.owner c ≡ k → Right (K.owner c) (length s)
  owned c s g e = subst (λ (j : ℕ). Right j (length s)) (sym e) (right_here s g)

  owns : Owns (machine K) (λ s. length s ≡ station_size) (λ c. eqb (K.owner c) k) (List ℕ) (part_of k)
  owns =
      record {
        says = K.answers;
        goes = K.leaves;
        stays = λ c s g. length_after K sized c s ∙ g;
        said = λ c s g m.
            let e : K.owner c ≡ k = eqb-true (K.owner c) k m in
            subst (λ (j : ℕ). answer K c s ≡ K.answers c (part_of j s)) e (took_answer K c s (fine (owned c s g e)));
        went = λ c s g m.
            let e : K.owner c ≡ k = eqb-true (K.owner c) k m in
            subst (λ (j : ℕ). part_of j (after K c s) ≡ K.leaves c (part_of j s)) e (own K sized c s (owned c s g e));
        kept = λ c s g m. other K sized c s k (right_here s g) (eqb-false (K.owner c) k m);
      }

pub isolated : (K : Kinds) → Sized K → Isolated K
unfolding Isolated
isolated K sized k low high =
    same_seen (machine K) (λ s. length s ≡ station_size) (λ c. eqb (K.owner c) k) (List ℕ) (part_of k) (owns K sized k low high)
