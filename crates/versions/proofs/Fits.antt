-- A row's columns are one run of numbers, so the test of the run is the test of the columns, whatever the limits.
use mathlib.Core.Path.{◌≡◌, refl, sym, ◌∙◌, ap}
use mathlib.Core.Bool.{Bool, true, ◌&&◌, and-true}
use mathlib.Core.List.{List, ◌++◌}
use Prim.Native.Nat.{ℕ, zero, suc, ◌+◌, ◌-◌, ◌*◌, ◌%◌, ◌^◌, ◌<◌, ◌≤◌}
use native.Mathlib.Omega.{arith}
use native.Mathlib.Nat.{mod-eq_of_lt, suc-mul}
use lib.Dec.{eqb, leb}
use lib.IntN.{ℤ, pos, negsuc}
use lib.Signed.{le_z}
use lib.ListN.{length, take, drop, length-append, length-drop, get_or-append, take-append-drop}
use lib.Seq.{drop-drop, get_or-drop, drop-append-le, drop_at, length-take-le}
use Rattle.codes.specs.Number.{signed_of}
use Rattle.catalogue.specs.declared.Row.{Row}
use Rattle.catalogue.specs.declared.Kind.{Kind}
use Rattle.catalogue.specs.declared.Kind.TheVariants.{U16, I32}
use Rattle.catalogue.specs.Table.{element_size, rows}
use Rattle.catalogue.specs.Element.{inside, every_element}
use Rattle.versions.specs.Low.{low_number}
use Rattle.versions.specs.declared.Columns.{Columns}
use Rattle.versions.specs.Layout.{slots, columns, version_bytes, setting_in}
use Rattle.versions.specs.Fit.{every_number, every_columns, columns_fit, versions_fit}
use Rattle.catalogue.proofs.Every.{every_is, every_same, free_inside}
use Rattle.versions.proofs.Slots.{columns_at}
use Rattle.versions.proofs.Bytewise.{low_small}
use Rattle.versions.proofs.Every.{every_append, every_flat, and_assoc}

-- numbers one after the other, and each at its place
low_drop : (w : ℕ) (v : List ℕ) (at k : ℕ) → low_number w (drop at v) k ≡ low_number w v (at + k)
low_drop zero v at k = refl
low_drop (suc w) v at k =
    let e : at + (k + 1) ≡ at + k + 1 = omega arith in
    rw (low_drop w v at (k + 1), e, get_or-drop at v k 0)

number_run : (w : ℕ) (ok : ℕ → Bool) (v : List ℕ) (n at : ℕ) → every_number w ok n (drop at v) ≡ every_element (λ k. ok (low_number w v (at + k * w))) n
number_run w ok v zero at = refl
number_run w ok v (suc n) at =
    let f : ℕ → Bool = λ k. ok (low_number w v (at + k * w)) in
    let one : suc n ≡ 1 + n = omega arith in
    let z : at + 0 ≡ at + 0 * w = omega arith in
    let first : ok (low_number w (drop at v) 0) ≡ f 0 = ap ok (low_drop w v at 0 ∙ ap (low_number w v) z) in
    let rest : every_number w ok n (drop w (drop at v)) ≡ every_element (λ k. f (1 + k)) n =
    ap (every_number w ok n) (drop-drop w at v)
    ∙ (number_run w ok v n (at + w) ∙ every_same _ _ n (λ k below. ap (λ (m : ℕ). ok (low_number w v m)) (omega (arith, suc-mul k w)))) in
    rw (first, rest) (sym (ap (every_element f) one ∙ every_append f 1 n))

-- numbers in the first part of a list
low_front : (w : ℕ) (x t : List ℕ) (at : ℕ) → at + w ≤ length x → low_number w (x ++ t) at ≡ low_number w x at
low_front zero x t at h = refl
low_front (suc w) x t at h = rw (low_front w x t (at + 1) (omega arith), get_or-append x t 0 at (omega arith))

module _ (w : ℕ) (ok : ℕ → Bool) where
  pub every_front : (n : ℕ) (x t : List ℕ) → n * w ≤ length x → every_number w ok n (x ++ t) ≡ every_number w ok n x
  every_front zero x t h = refl
  every_front (suc n) x t h =
      let m : w ≤ length x = omega (arith, suc-mul n w) in
      rw (low_front w x t 0 (omega arith), drop-append-le w x t m, every_front n (drop w x) t (omega (arith, suc-mul n w, length-drop w x)))

  -- a run that is looked at number by number: all left, one more, and none left
  pub run_begins : (n k : ℕ) (l rest : List ℕ) → k ≡ n * w → k ≤ length l → rest ≡ take k l → (length rest ≡ (n - 0) * w) × ((true && every_number w ok (n - 0) rest) ≡ every_number w ok n l)
  run_begins n k l rest e h r =
      let m : n - 0 ≡ n = omega arith in
      let size : length (take k l) ≡ n * w = length-take-le k l h ∙ e in
      rw (m, r) (size, sym (every_front n (take k l) (drop k l) (omega arith)) ∙ ap (every_number w ok n) (take-append-drop k l))

  pub run_step : (n m : ℕ) (rest x t : List ℕ) (all g : Bool) → 0 < w → m ≡ n - 1 → length x ≡ w → rest ≡ x ++ t → length rest ≡ n * w → (all && every_number w ok n rest) ≡ g → (length t ≡ m * w) × (((all && ok (low_number (length x) x 0)) && every_number w ok m t) ≡ g)
  run_step zero m rest x t all g p k q e l h = absurd (omega (arith, ap length e, length-append x t))
  run_step (suc n) m rest x t all g p k q e l h =
      let f : m ≡ n = omega arith in
      let first : low_number w (x ++ t) 0 ≡ low_number (length x) x 0 = low_front w x t 0 (omega arith) ∙ ap (λ (i : ℕ). low_number i x 0) (sym q) in
      let here : every_number w ok (suc n) rest ≡ (ok (low_number (length x) x 0) && every_number w ok n t) = ap (every_number w ok (suc n)) e ∙ rw (first, drop_at x t w q) in
      rw f (
        omega (arith, ap length e, length-append x t, suc-mul n w),
        and_assoc all (ok (low_number (length x) x 0)) (every_number w ok n t) ∙ (ap (λ (b : Bool). all && b) (sym here) ∙ h),
      )

  pub run_over : (n : ℕ) (rest : List ℕ) (all g : Bool) → length rest < w → length rest ≡ n * w → (all && every_number w ok n rest) ≡ g → all ≡ g
  run_over zero rest all g p l h = sym (and-true all) ∙ h
  run_over (suc n) rest all g p l h = absurd (omega (arith, suc-mul n w))

module _ (v : List ℕ) (r : Row) (at : ℕ) where
  -- what stands at place k of the run
  abbrev here : ℕ → ℕ
  here k = low_number (element_size r.kind) v (at + k * element_size r.kind)

  abbrev run : Columns
  run = record { row = r; at = at }

  -- the columns are one run
  columns_run : columns_fit v run ≡ every_element (λ k. inside r (here k)) (r.count * slots)
  unfolding columns_fit
  columns_run = number_run (element_size r.kind) (inside r) v (r.count * slots) at

  -- and so of each element the numbers in its slots
  pub columns_each : columns_fit v run ≡ every_element (λ e. every_element (λ s. inside r (setting_in run e s v)) slots) r.count
  columns_each = columns_run ∙ sym (every_flat (λ (k : ℕ). inside r (here k)) slots r.count)

  -- of words
  word_inside : (low high : ℕ) → r.kind ≡ U16 → r.low ≡ pos low → r.high ≡ pos high → (x : ℕ) → x < 65536 → (leb low x && leb x high) ≡ inside r x
  unfolding inside
  word_inside low high k l h x small = let m : x % 65536 ≡ x = mod-eq_of_lt small in rw (k, l, h, m)

  words_run : (low high : ℕ) → r.kind ≡ U16 → r.low ≡ pos low → r.high ≡ pos high → every_element (λ k. leb low (low_number 2 v (at + k * 2)) && leb (low_number 2 v (at + k * 2)) high) (r.count * slots) ≡ columns_fit v run
  words_run low high kind l h =
      every_same _ (λ (k : ℕ). inside r (here k)) (r.count * slots)
      (λ k below.
      word_inside low high kind l h (low_number 2 v (at + k * 2)) (low_small 2 v (at + k * 2))
      ∙ ap (λ (t : Kind). inside r (low_number (element_size t) v (at + k * element_size t))) (sym kind))
      ∙ sym columns_run

  -- of signed numbers of four bytes
  long_inside : r.kind ≡ I32 → (x : ℕ) → x < 256 ^ 4 → (le_z r.low (signed_of 4 x) && le_z (signed_of 4 x) r.high) ≡ inside r x
  unfolding inside
  long_inside k x small = let m : x % 256 ^ 4 ≡ x = mod-eq_of_lt small in rw (k, m)

  longs_run : r.kind ≡ I32 → every_element (λ k. le_z r.low (signed_of 4 (low_number 4 v (at + k * 4))) && le_z (signed_of 4 (low_number 4 v (at + k * 4))) r.high) (r.count * slots) ≡ columns_fit v run
  longs_run kind =
      every_same _ (λ (k : ℕ). inside r (here k)) (r.count * slots)
      (λ k below.
      long_inside kind (low_number 4 v (at + k * 4)) (low_small 4 v (at + k * 4))
      ∙ ap (λ (t : Kind). inside r (low_number (element_size t) v (at + k * element_size t))) (sym kind))
      ∙ sym columns_run

  -- a row of words whose limits leave nothing out takes every word
  free_run : r.kind ≡ U16 → le_z r.low (pos 0) ≡ true → le_z (pos 65535) r.high ≡ true → columns_fit v run ≡ true
  free_run k low high = columns_run ∙ every_is _ (r.count * slots) (λ i h. free_inside r k low high (here i))

-- the columns of the table: 9900 and 9901 take every word, the others are tested one by one
module _ (v : List ℕ) where
  abbrev fits_at : ℕ → Bool
  fits_at k = columns_fit v (columns_at k)

  third_on : (a b c d e f g : Bool) → a ≡ true → b ≡ true → (a && (b && (c && (d && (e && (f && (g && true))))))) ≡ (c && (d && (e && (f && g))))
  third_on a b c d e f g k l = rw (k, l, and-true g)

  all_columns : every_columns (columns_fit v) columns ≡ (fits_at 2 && (fits_at 3 && (fits_at 4 && (fits_at 5 && fits_at 6))))
  unfolding columns columns_at rows
  all_columns =
      third_on (fits_at 0) (fits_at 1) (fits_at 2) (fits_at 3) (fits_at 4) (fits_at 5) (fits_at 6)
      (free_run v (columns_at 0).row 0 refl refl refl) (free_run v (columns_at 1).row 32 refl refl refl)

  five : (p q r s t a b c d e : Bool) → p ≡ a → q ≡ b → r ≡ c → s ≡ d → t ≡ e → (p && (q && (r && (s && t)))) ≡ (a && (b && (c && (d && e))))
  five p q r s t a b c d e h i j k l = rw (h, i, j, k, l)

  -- whether n words from a place on lie between two numbers, and whether n signed numbers of four bytes do
  abbrev words_lie : ℕ → ℕ → ℕ → ℕ → Bool
  words_lie at n low high = every_element (λ k. leb low (low_number 2 v (at + k * 2)) && leb (low_number 2 v (at + k * 2)) high) n

  abbrev longs_lie : ℕ → ℕ → ℤ → ℤ → Bool
  longs_lie at n low high = every_element (λ k. le_z low (signed_of 4 (low_number 4 v (at + k * 4))) && le_z (signed_of 4 (low_number 4 v (at + k * 4))) high) n

  -- what five tests find, one for each row whose limits leave something out
  pub all_runs : (p q r s t : Bool)
      → p ≡ words_lie 288 16 1 60000
      → q ≡ words_lie 320 64 0 3000
      → r ≡ words_lie 448 16 0 16384
      → s ≡ words_lie 480 16 0 32767
      → t ≡ longs_lie 512 32 (negsuc 99999) (pos 100000)
      → (p && (q && (r && (s && t)))) ≡ every_columns (columns_fit v) columns
  unfolding columns columns_at rows
  all_runs p q r s t ep eq er es et =
      let p' : p ≡ fits_at 2 = ep ∙ words_run v (columns_at 2).row 288 1 60000 refl refl refl in
      let q' : q ≡ fits_at 3 = eq ∙ words_run v (columns_at 3).row 320 0 3000 refl refl refl in
      let r' : r ≡ fits_at 4 = er ∙ words_run v (columns_at 4).row 448 0 16384 refl refl refl in
      let s' : s ≡ fits_at 5 = es ∙ words_run v (columns_at 5).row 480 0 32767 refl refl refl in
      let t' : t ≡ fits_at 6 = et ∙ longs_run v (columns_at 6).row 512 refl in
      five p q r s t _ _ _ _ _ p' q' r' s' t' ∙ sym all_columns

  -- and so what `fit` answers: the size, and these five
  pub fit_is : versions_fit v ≡ (eqb (length v) version_bytes && (words_lie 288 16 1 60000 && (words_lie 320 64 0 3000 && (words_lie 448 16 0 16384 && (words_lie 480 16 0 32767 && longs_lie 512 32 (negsuc 99999) (pos 100000))))))
  unfolding versions_fit
  fit_is = ap (λ (b : Bool). eqb (length v) version_bytes && b) (sym (all_runs _ _ _ _ _ refl refl refl refl refl))
