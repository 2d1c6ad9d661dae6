-- Formats by their numbers: the size codes 0x41 to 0x43, the error's 0x44, and the data types below them.
use mathlib.Core.Path.{◌≡◌, refl, sym, ◌∙◌}
use mathlib.Core.Bool.{Bool, true, false, true≢false, ◌&&◌, ◌||◌}
use Prim.Native.Nat.{ℕ, ◌≤◌, ◌<◌}
use native.Mathlib.Omega.{arith}
use native.Mathlib.Decide.{dec_le}
use lib.Dec.{eqb, leb, lit≤}
use borrow.Author.Tests.{eq-eqb, ne_eqb, le-leb, lt-leb, leb-true, eqb-false, lt-ltb}
use borrow.Table.Steps.{cases}
use Rattle.blocks.specs.Block.{format_size, value_size, code_size, change_block_fits, response_block_fits}

-- whether f is a size code
abbrev is_code : ℕ → Bool
is_code f = leb 0x41 f && leb f 0x43

module _ (f : ℕ) where
  pub value_format : (f ≡ 0x44 → ⊥) → value_size f ≡ format_size f
  unfolding value_size
  value_format n = rw (ne_eqb f 0x44 n)

  pub code_value : 0x40 ≤ f → code_size f ≡ value_size f
  unfolding code_size
  code_value h = rw (le-leb 0x40 f h)

  pub code_bounds : is_code f ≡ true → (0x41 ≤ f) × (f ≤ 0x43)
  code_bounds h = cases (leb 0x41 f) (λ e. (leb-true 0x41 f e, leb-true f 0x43 (rw e at h))) (λ e. absurd (true≢false (sym (rw e at h))))

  pub below_codes : f < 0x41 → is_code f ≡ false
  below_codes h = rw (lt-leb 0x41 f h)

  pub no_code : is_code f ≡ false → (x : ℕ) → 0x41 ≤ x → x ≤ 0x43 → f ≡ x → ⊥
  no_code h x low high e = true≢false (sym (rw (e, le-leb 0x41 x low, le-leb x 0x43 high) refl) ∙ h)

  third : is_code f ≡ true → eqb f 0x41 ≡ false → eqb f 0x42 ≡ false → f ≡ 0x43
  third h a b = let o = code_bounds h in omega (arith, o.0, o.1, eqb-false f 0x41 a, eqb-false f 0x42 b)

  pub codes_are : (eqb f 0x41 || eqb f 0x42 || eqb f 0x43) ≡ is_code f
  codes_are =
      cases (is_code f)
      (λ h.
      cases (eqb f 0x41)
      (λ a. rw (a, h))
      (λ a. cases (eqb f 0x42) (λ b. rw (a, b, h)) (λ b. rw (a, b, eq-eqb f 0x43 (third h a b), h))))
      (λ h. rw (ne_eqb f 0x41 (no_code h 0x41 (lit≤ tt) (lit≤ tt)), ne_eqb f 0x42 (no_code h 0x42 (lit≤ tt) (lit≤ tt)), ne_eqb f 0x43 (no_code h 0x43 (lit≤ tt) (lit≤ tt)), h))

  -- a format that has a size is no error's
  pub sized_format : (format_size f ≡ 0 → ⊥) → value_size f ≡ format_size f
  unfolding format_size
  sized_format n = value_format (λ e. n (rw e))

  pub change_fits : (n : ℕ) → (format_size f ≡ 0 → ⊥) → change_block_fits f n ≡ true
  unfolding change_block_fits
  change_fits n h = lt-ltb 0 (format_size f) (omega (arith, h))

  pub fits_format : (n : ℕ) → change_block_fits f n ≡ true → value_size f ≡ format_size f
  unfolding change_block_fits
  fits_format n h = sized_format (λ e. true≢false (sym (rw e at h)))

  pub change_unfit : (n : ℕ) → format_size f ≡ 0 → change_block_fits f n ≡ false
  unfolding change_block_fits
  change_unfit n e = rw e

  -- no block of a response has a data type's format
  no_answer : (id n : ℕ) → f < 0x40 → response_block_fits id f n ≡ false
  unfolding response_block_fits
  no_answer id n h =
      rw (ne_eqb f 0x40 (λ e. omega arith), ne_eqb f 0x41 (λ e. omega arith), ne_eqb f 0x42 (λ e. omega arith), ne_eqb f 0x43 (λ e. omega arith), ne_eqb f 0x44 (λ e. omega arith))
      (cases (eqb id 1) (λ e. rw e) (λ e. cases (eqb id 0x81) (λ d. rw (e, d)) (λ d. rw (e, d))))

  pub answer_code : (id n : ℕ) → response_block_fits id f n ≡ true → 0x40 ≤ f
  answer_code id n h = go (dec_le 0x40 f)
    where
      go : Dec (0x40 ≤ f) → 0x40 ≤ f
      go (yes y) = y
      go (no k) = absurd (true≢false (sym h ∙ no_answer id n (omega arith)))
