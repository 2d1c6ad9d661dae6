-- Tests of a row's elements: how they go on from one to the next, and what they say of each.
use mathlib.Core.Path.{◌≡◌, refl, ◌∙◌, ap}
use mathlib.Core.Bool.{Bool, true, false, ◌&&◌, and-false, and-eq-true_iff}
use Prim.Native.Nat.{ℕ, zero, suc, ◌+◌, ◌%◌, ◌≤◌, ◌<◌}
use native.Mathlib.Decide.{dec_lt}
use native.Mathlib.Numerals.{add-one}
use native.Mathlib.Omega.{arith}
use lib.IntN.{ℤ, pos, negsuc}
use lib.Signed.{le_z}
use borrow.Author.Tests.{le-leb, leb-true}
use Rattle.catalogue.specs.declared.Row.{Row}
use Rattle.catalogue.specs.declared.Kind.{Kind}
use Rattle.catalogue.specs.declared.Kind.TheVariants.{U16}
use Rattle.catalogue.specs.Element.{value_of, inside, every_element}

module _ (ok : ℕ → Bool) where
  pub every_next : (i : ℕ) → every_element ok i ≡ true → ok i ≡ true → every_element ok (i + 1) ≡ true
  every_next i e f = rw (add-one i, e, f)

  pub every_unfit : (n i : ℕ) → i < n → ok i ≡ false → every_element ok n ≡ false
  every_unfit zero i h f = absurd (omega arith)
  every_unfit (suc n) i h f = go (dec_lt i n) (every_unfit n i)
    where
      go : Dec (i < n) → (i < n → ok i ≡ false → every_element ok n ≡ false) → every_element ok (suc n) ≡ false
      go (yes y) ih = rw (ih y f)
      go (no k) ih = let e : i ≡ n = omega arith in rw (← e, f) (and-false (every_element ok i))

  -- the test holds where each does, and then of each
  pub every_is : (n : ℕ) → ((i : ℕ) → i < n → ok i ≡ true) → every_element ok n ≡ true
  every_is zero h = refl
  every_is (suc n) h = rw (every_is n (λ i k. h i (omega arith)), h n (omega arith))

  pub every_at : (n i : ℕ) → every_element ok n ≡ true → i < n → ok i ≡ true
  every_at zero i e h = absurd (omega arith)
  every_at (suc n) i e h = go (dec_lt i n) (every_at n i)
    where
      go : Dec (i < n) → (every_element ok n ≡ true → i < n → ok i ≡ true) → ok i ≡ true
      go (yes y) ih = ih ((and-eq-true_iff (every_element ok n) (ok n)).0 e).0 y
      go (no k) ih = let same : i ≡ n = omega arith in rw same ((and-eq-true_iff (every_element ok n) (ok n)).0 e).1

pub every_same : (ok also : ℕ → Bool) (n : ℕ) → ((i : ℕ) → i < n → ok i ≡ also i) → every_element ok n ≡ every_element also n
every_same ok also zero h = refl
every_same ok also (suc n) h =
    ap (λ (b : Bool). b && ok n) (every_same ok also n (λ i k. h i (omega arith)))
    ∙ ap (λ (b : Bool). every_element also n && b) (h n (omega arith))

-- a row of words whose limits are those of a word
module _ (r : Row) where
  above_low : (z : ℤ) (n : ℕ) → le_z z (pos 0) ≡ true → le_z z (pos n) ≡ true
  above_low (pos a) n e = le-leb a n (omega (arith, leb-true a 0 e))
  above_low (negsuc a) n e = refl

  below_high : (z : ℤ) (n : ℕ) → n ≤ 65535 → le_z (pos 65535) z ≡ true → le_z (pos n) z ≡ true
  below_high (pos a) n h e = le-leb n a (omega (arith, leb-true 65535 a e))
  below_high (negsuc a) n h e = e

  pub free_inside : r.kind ≡ U16 → le_z r.low (pos 0) ≡ true → le_z (pos 65535) r.high ≡ true → (x : ℕ) → inside r x ≡ true
  unfolding inside
  free_inside k low high x =
      ap (λ (t : Kind). le_z r.low (value_of t x) && le_z (value_of t x) r.high) k
      ∙ (ap (λ (t : Bool). t && le_z (pos (x % 65536)) r.high) (above_low r.low (x % 65536) low)
      ∙ below_high r.high (x % 65536) (omega arith) high)
