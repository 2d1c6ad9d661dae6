-- A fresh part, made row by row.
use mathlib.Core.Path.{◌≡◌, refl, sym, ◌∙◌, ap}
use mathlib.Core.Bool.{Bool, cond}
use mathlib.Core.List.{List, [], ◌∷◌}
use Prim.Native.Nat.{ℕ, zero, suc, ◌+◌, ◌≤◌, ◌<◌}
use native.Mathlib.Numerals.{add-one}
use lib.ListN.{length, drop, replicate, drop_of_length-le}
use lib.Seq.{drop-cons}
use borrow.Author.Tests.{eq-eqb, ne_eqb}
use Rattle.codes.specs.Code.{word}
use Rattle.codes.specs.Number.{put}
use Rattle.catalogue.specs.declared.Row.{Row}
use Rattle.catalogue.specs.Table.{rows, no_row, row_at}
use Rattle.catalogue.specs.Element.{fresh_of}
use Rattle.catalogue.proofs.Elements.{element_length}
use Rattle.versions.specs.Keep.{filled_within}
use Rattle.part.specs.Layout.{state_at, versions_at, part_size}
use Rattle.part.specs.Fresh.{fresh_elements, fresh_rows, fresh_front, fresh_part, fresh_over}

module _ (r : Row) where
  pub elements_length : (n : ℕ) (p : List ℕ) → length (fresh_elements r n p) ≡ length p
  elements_length zero p = refl
  elements_length (suc n) p = element_length r n (fresh_of r n) (fresh_elements r n p) ∙ elements_length n p

pub rows_length : (rs : List Row) (p : List ℕ) → length (fresh_rows rs p) ≡ length p
rows_length [] p = refl
rows_length (r ∷ rs) p = rows_length rs (fresh_elements r r.count p) ∙ elements_length r r.count p

pub rows_next : (i : ℕ) (p : List ℕ) → i < length rows → fresh_rows (drop i rows) p ≡ fresh_rows (drop (i + 1) rows) (fresh_elements (row_at i) (row_at i).count p)
unfolding row_at
rows_next i p h = rw (drop-cons rows i no_row h, add-one i)

pub rows_done : (i : ℕ) (p : List ℕ) → length rows ≤ i → fresh_rows (drop i rows) p ≡ p
rows_done i p h = rw (drop_of_length-le rows {i = i} h)

module _ (p : List ℕ) where
  -- memory of another size
  pub left_alone : (length p ≡ part_size → ⊥) → p ≡ fresh_over p
  unfolding fresh_over
  left_alone n = sym (ap (λ (b : Bool). cond b fresh_part p) (ne_eqb (length p) part_size n))

  pub made_fresh : (n : ℕ) → length p ≡ part_size → n ≡ 1 → (q : List ℕ) → q ≡ replicate (length p) 0 → filled_within versions_at (fresh_rows rows (put q state_at ((word 1).write n))) ≡ fresh_over p
  unfolding fresh_over fresh_part fresh_front
  made_fresh n e one q cleared = rw (cleared, e, one) refl ∙ sym (ap (λ (b : Bool). cond b fresh_part p) (eq-eqb (length p) part_size e))
