-- A part some of whose bytes are changed: the elements and the tests of the rows that stand apart are as they were.
use Rattle.std.specs.Prelude.{Some}
use mathlib.Core.Path.{◌≡◌, refl, ◌∙◌, ap}
use mathlib.Core.Bool.{Bool, true, false, cond, not, ◌&&◌, ◌||◌, and-eq-true_iff}
use mathlib.Core.List.{List, [], ◌∷◌}
use Prim.Native.Nat.{ℕ, ◌<◌}
use native.Mathlib.Omega.{arith}
use lib.Dec.{eqb}
use borrow.Table.Steps.{cases}
use Rattle.codes.specs.Number.{number_at}
use Rattle.catalogue.specs.declared.Row.{Row}
use Rattle.catalogue.specs.Table.{rows, element_size, find_in, find_of}
use Rattle.catalogue.proofs.Every.{every_same, every_at}
use Rattle.catalogue.specs.Element.{inside, element_place, element_of, fresh_of, every_element, every_row}
use Rattle.part.specs.WellFormed.{limits_fit, fixed_fit}

-- a test that every row of the table passes
pub row_passes : (ok : Row → Bool) (pnu : ℕ) (r : Row) → every_row ok rows ≡ true → find_of pnu ≡ Some r → ok r ≡ true
unfolding find_of
row_passes ok pnu r = go rows
  where
    go : (rs : List Row) → every_row ok rs ≡ true → find_in rs pnu ≡ Some r → ok r ≡ true
    go [] e f = absurd (let z : ◌≡◌ {A = ℕ} 0 1 = cc in omega arith)
    go (s ∷ rs) e f =
        let b = (and-eq-true_iff (ok s) (every_row ok rs)).0 e in
        cases (eqb s.pnu pnu)
        (λ t. let same : Some s ≡ Some r = rw t at f in let q : s ≡ r = cc in rw (← q) b.0)
        (λ t. go rs b.1 (rw t at f))

pub same_asked : (asked : Bool) (ok also : ℕ → Bool) (n : ℕ) → (asked ≡ true → (i : ℕ) → i < n → ok i ≡ also i) → cond asked (every_element ok n) true ≡ cond asked (every_element also n) true
same_asked true ok also n h = every_same ok also n (h refl)
same_asked false ok also n h = refl

same_rows : (ok also need : Row → Bool) → ((r : Row) → need r ≡ true → ok r ≡ also r) → (rs : List Row) → every_row need rs ≡ true → every_row ok rs ≡ every_row also rs
same_rows ok also need h [] e = refl
same_rows ok also need h (r ∷ rs) e =
    let b = (and-eq-true_iff (need r) (every_row need rs)).0 e in
    ap (λ (t : Bool). t && every_row ok rs) (h r b.0) ∙ ap (λ (t : Bool). also r && t) (same_rows ok also need h rs b.1)

-- every element of a row stands where `safe` says
abbrev pub row_safe : (ℕ → ℕ → Bool) → Row → Bool
row_safe safe r = every_element (λ i. safe (element_size r.kind) (element_place r i)) r.count

-- a row that a well-formed part is tested for
abbrev tested : Row → Bool
tested r = r.writable || (eqb r.pnu 930 || eqb r.pnu 965)

abbrev pub tested_safe : (ℕ → ℕ → Bool) → Row → Bool
tested_safe safe r = not (tested r) || row_safe safe r

module _ (safe : ℕ → ℕ → Bool) (p q : List ℕ) (same : (w k : ℕ) → safe w k ≡ true → number_at w q k ≡ number_at w p k) where
  pub element_same : (r : Row) (i : ℕ) → row_safe safe r ≡ true → i < r.count → element_of r i q ≡ element_of r i p
  unfolding element_of
  element_same r i e h = same (element_size r.kind) (element_place r i) (every_at (λ (k : ℕ). safe (element_size r.kind) (element_place r k)) r.count i e h)

  -- a row that is tested is safe
  safe_tested : (r : Row) → tested_safe safe r ≡ true → tested r ≡ true → row_safe safe r ≡ true
  safe_tested r e t = rw t at e

  limits_row : (r : Row) → tested_safe safe r ≡ true → limits_fit q r ≡ limits_fit p r
  unfolding limits_fit
  limits_row r e =
      same_asked r.writable (λ i. inside r (element_of r i q)) (λ i. inside r (element_of r i p)) r.count
      (λ t i h. ap (inside r) (element_same r i (safe_tested r e (rw t)) h))

  fixed_row : (r : Row) → tested_safe safe r ≡ true → fixed_fit q r ≡ fixed_fit p r
  unfolding fixed_fit
  fixed_row r e =
      same_asked (eqb r.pnu 930 || eqb r.pnu 965) (λ i. eqb (element_of r i q) (fresh_of r i)) (λ i. eqb (element_of r i p) (fresh_of r i)) r.count
      (λ t i h. ap (λ (x : ℕ). eqb x (fresh_of r i)) (element_same r i (safe_tested r e (either r.writable (eqb r.pnu 930 || eqb r.pnu 965) t)) h))
    where
      either : (a b : Bool) → b ≡ true → (a || b) ≡ true
      either true b e = refl
      either false b e = e

  module _ (all_safe : every_row (tested_safe safe) rows ≡ true) where
    pub limits_same : every_row (limits_fit q) rows ≡ every_row (limits_fit p) rows
    limits_same = same_rows (limits_fit q) (limits_fit p) (tested_safe safe) limits_row rows all_safe

    pub fixed_same : every_row (fixed_fit q) rows ≡ every_row (fixed_fit p) rows
    fixed_same = same_rows (fixed_fit q) (fixed_fit p) (tested_safe safe) fixed_row rows all_safe
