-- How the tests of a row's elements and of the table's rows go on from one to the next.
use mathlib.Core.Path.{◌≡◌, refl, sym, ◌∙◌, ap}
use mathlib.Core.Bool.{Bool, true, false, cond, not, ◌&&◌, and-true, and_assoc}
use mathlib.Core.List.{List}
use Prim.Native.Nat.{ℕ, zero, suc, ◌+◌}
use native.Mathlib.Omega.{arith}
use native.Mathlib.Nat.{zero-add}
use lib.IntN.{pos}
use lib.Signed.{le_z}
use Rattle.std.specs.List.{list_all, range_with_len}
use Rattle.catalogue.specs.declared.Row.{Row}
use Rattle.catalogue.specs.declared.Kind.TheVariants.{U16}
use Rattle.catalogue.specs.Table.{rows, row_at}
use Rattle.catalogue.proofs.Every.{every_is, free_inside}
use Rattle.catalogue.specs.Element.{inside, element_of, every_element, every_row}
use Rattle.part.specs.WellFormed.{limits_fit, fixed_fit}

-- a test of the numbers below n, one after the other
module _ (ok : ℕ → Bool) where
  one_more : (a n : ℕ) → list_all ok (range_with_len a (suc n)) ≡ (list_all ok (range_with_len a n) && ok (a + n))
  one_more a zero = let e : a + 0 ≡ a = omega arith in rw e (and-true (ok a))
  one_more a (suc n) =
      let e : a + 1 + n ≡ a + suc n = omega arith in
      ap (λ (b : Bool). ok a && b) (one_more (a + 1) n) ∙ (sym (and_assoc (ok a) (list_all ok (range_with_len (a + 1) n)) (ok (a + 1 + n))) ∙ rw e)

  pub every_below : (n : ℕ) → list_all ok (range_with_len 0 n) ≡ every_element ok n
  every_below zero = refl
  every_below (suc n) = one_more 0 n ∙ rw (zero-add n, every_below n)

  -- one that only some rows are put to
  pub unasked : (asked : Bool) (n : ℕ) → asked ≡ false → not asked ≡ cond asked (every_element ok n) true
  unasked asked n e = rw e

  pub asked_all : (asked : Bool) (n : ℕ) → asked ≡ true → list_all ok (range_with_len 0 n) ≡ cond asked (every_element ok n) true
  asked_all asked n e = rw e (every_below n)

-- the first two hold
regroup : (a b c d e f g : Bool) → a ≡ true → b ≡ true → (c && d && e && f && g) ≡ (a && (b && (c && (d && (e && (f && (g && true)))))))
regroup a b c d e f g ea eb = rw (ea, eb, and-true g) (simp and_assoc)

module _ (p : List ℕ) where
  -- a row of words whose limits are those of a word
  word_free : (r : Row) → r.kind ≡ U16 → le_z r.low (pos 0) ≡ true → le_z (pos 65535) r.high ≡ true → limits_fit p r ≡ true
  unfolding limits_fit
  word_free r k low high = free r.writable r.count
    where
      free : (asked : Bool) (n : ℕ) → cond asked (every_element (λ i. inside r (element_of r i p)) n) true ≡ true
      free true n = every_is _ n (λ i h. free_inside r k low high (element_of r i p))
      free false n = refl

  -- the first ten rows are read only or take every word
  pub limited_rows : (limits_fit p (row_at 10) && limits_fit p (row_at 11) && limits_fit p (row_at 12) && limits_fit p (row_at 13) && limits_fit p (row_at 14)) ≡ every_row (limits_fit p) rows
  unfolding rows row_at limits_fit
  limited_rows =
      regroup (limits_fit p (row_at 4)) (limits_fit p (row_at 5)) (limits_fit p (row_at 10)) (limits_fit p (row_at 11)) (limits_fit p (row_at 12)) (limits_fit p (row_at 13)) (limits_fit p (row_at 14)) (word_free (row_at 4) refl refl refl) (word_free (row_at 5) refl refl refl)

  -- the rows but for 930 and 965 may hold anything
  pub fixed_rows : (fixed_fit p (row_at 0) && fixed_fit p (row_at 3)) ≡ every_row (fixed_fit p) rows
  unfolding rows row_at fixed_fit
  fixed_rows = ap (λ (b : Bool). fixed_fit p (row_at 0) && b) (sym (and-true (fixed_fit p (row_at 3))))
