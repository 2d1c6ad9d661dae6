-- Tests in a row: the first that fails gives its number, those before it held, and those after it are not made.
use mathlib.Core.Path.{◌≡◌, refl, subst}
use mathlib.Core.Bool.{Bool, true, false, cond, not}
use mathlib.Core.List.{List, [], ◌∷◌}
use mathlib.Core.Logic.{◌⊎◌, inl, inr}
use Prim.Native.Nat.{ℕ, zero, suc, ◌+◌, ◌≤◌, ◌<◌}
use native.Mathlib.Omega.{arith}
use lib.ListN.{length, get_or}
use Rattle.checker.specs.Laws.{Tested}

module _ (i n : ℕ) (Holds : Type 0) where
  unsaid : 0 < n → n ≤ i → (n ≡ 0) ⊎ (i < n) → Holds
  unsaid some few (inl e) = absurd (omega arith)
  unsaid some few (inr h) = absurd (omega arith)

  pub untested : 0 < n → n < i → Tested n i Holds
  untested some early = record { failed = λ e. absurd (omega arith); held = unsaid some (omega arith) }

  pub fails : n ≡ i → 0 < i → (Holds → ⊥) → Tested n i Holds
  fails e some wrong = record { failed = λ k. wrong; held = unsaid (omega arith) (omega arith) }

  pub holds : (n ≡ i → ⊥) → Holds → Tested n i Holds
  holds other h = record { failed = λ e k. other e; held = λ z. h }

  -- what is tested may be said in other words
  pub so : (Means : Type 0) → (Holds → Means) → (Means → Holds) → Tested n i Holds → Tested n i Means
  so Means there back t = record { failed = λ e m. t.failed e (back m); held = λ z. there (t.held z) }

-- the number of the first test that fails, numbered from i on; 0 where none does
abbrev pub first_of : ℕ → List Bool → ℕ
first_of i [] = 0
first_of i (b ∷ bs) = cond (not b) i (first_of (suc i) bs)

-- yes, or one of their numbers
pub numbered : (i : ℕ) (bs : List Bool) → (first_of i bs ≡ 0) ⊎ ((i ≤ first_of i bs) × (first_of i bs < i + length bs))
numbered i [] = inl refl
numbered i (true ∷ bs) = go (numbered (suc i) bs)
  where
    go : (first_of (suc i) bs ≡ 0) ⊎ ((suc i ≤ first_of (suc i) bs) × (first_of (suc i) bs < suc i + length bs)) → (first_of (suc i) bs ≡ 0) ⊎ ((i ≤ first_of (suc i) bs) × (first_of (suc i) bs < i + suc (length bs)))
    go (inl e) = inl e
    go (inr h) = inr (omega (arith, h.0), omega (arith, h.1))
numbered i (false ∷ bs) = inr (omega arith, omega arith)

-- test k is that of check i + k
pub tested : (i : ℕ) → 0 < i → (bs : List Bool) (k : ℕ) → k < length bs → Tested (first_of i bs) (i + k) (get_or bs k true ≡ true)
tested i some [] k h = absurd (omega arith)
tested i some (true ∷ bs) zero h = holds (i + 0) (first_of (suc i) bs) _ (other (numbered (suc i) bs)) refl
  where
    other : (first_of (suc i) bs ≡ 0) ⊎ ((suc i ≤ first_of (suc i) bs) × (first_of (suc i) bs < suc i + length bs)) → first_of (suc i) bs ≡ i + 0 → ⊥
    other (inl e) z = omega arith
    other (inr l) z = omega (arith, l.0)
tested i some (false ∷ bs) zero h = fails (i + 0) i _ (omega arith) (omega arith) (λ e. let z : ◌≡◌ {A = ℕ} 0 1 = cc in omega arith)
tested i some (true ∷ bs) (suc k) h =
    let place : suc i + k ≡ i + suc k = omega arith in
    subst (λ (j : ℕ). Tested (first_of (suc i) bs) j (get_or bs k true ≡ true)) place (tested (suc i) (omega arith) bs k (omega arith))
tested i some (false ∷ bs) (suc k) h = untested (i + suc k) i _ some (omega arith)
