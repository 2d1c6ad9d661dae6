-- Versions that stand in the part itself: a copy of the elements serves as well as the part.
use mathlib.Core.Path.{◌≡◌, refl, sym, ap, ◌∙◌}
use mathlib.Core.List.{List, [], ◌∷◌, ◌++◌, append-nil, Memᴰ}
use Prim.Native.Nat.{ℕ, zero, suc, ◌+◌, ◌-◌, ◌≤◌, ◌<◌}
use native.Mathlib.Omega.{arith}
use lib.ListN.{length, take, drop, length-drop, take-append-drop, drop_of_length-le}
use lib.Dec.{eqb}
use mathlib.Core.Bool.{Bool, true, false}
use borrow.Author.Tests.{eqb-true, eqb-false}
use lib.Seq.{take_all}
use borrow.Rule.Slice.PartMut.{post_of, put_mid, Post-is}
use Rattle.codes.specs.Number.{number_at}
use Rattle.codes.proofs.Number.{number_within}
use Rattle.catalogue.specs.declared.Row.{Row}
use Rattle.catalogue.specs.Table.{element_size, rows, parameter_bytes}
use Rattle.catalogue.specs.Element.{element_of, element_place}
use Rattle.catalogue.proofs.Rows.{element_inside}
use Rattle.versions.specs.declared.Columns.{Columns}
use Rattle.versions.specs.Layout.{columns, slots, last_at, version_bytes}
use Rattle.versions.specs.Keep.{put_setting, take_elements, take_columns, fill_slots, taken, filled, taken_within, filled_within, restored, restored_within}
use Rattle.versions.proofs.Slots.{taken_alone, filled_alone, restored_alone}
use Rattle.versions.proofs.Given.{column_row}

-- an element stands in the first bytes
pub element_front : (p : List ℕ) → parameter_bytes ≤ length p → (r : Row) → Memᴰ r rows → (i : ℕ) → i < r.count → element_of r i (take parameter_bytes p) ≡ element_of r i p
unfolding element_of
element_front p room r m i h = number_within (element_size r.kind) p 0 parameter_bytes (element_place r i) (element_inside r m i h) (omega arith) ∙ ap (number_at (element_size r.kind) p) (omega arith)

-- parts with the same elements
abbrev pub SameElements : List ℕ → List ℕ → Type 0
SameElements q p = (r : Row) → Memᴰ r rows → (i : ℕ) → i < r.count → element_of r i q ≡ element_of r i p

module _ (q p : List ℕ) (same : SameElements q p) (slot : ℕ) where
  elements_alike : (c : Columns) → Memᴰ c columns → (n : ℕ) → n ≤ c.row.count → (v : List ℕ) → take_elements c slot q n v ≡ take_elements c slot p n v
  elements_alike c m zero h v = refl
  elements_alike c m (suc n) h v =
      ap (λ (x : ℕ). put_setting c n slot x (take_elements c slot q n v)) (same c.row (column_row c m).0 n (omega arith))
      ∙ ap (put_setting c n slot (element_of c.row n p)) (elements_alike c m n (omega arith) v)

  columns_alike : (cs : List Columns) → ((c : Columns) → Memᴰ c cs → Memᴰ c columns) → (v : List ℕ) → take_columns cs slot q v ≡ take_columns cs slot p v
  columns_alike [] sub v = refl
  columns_alike (c ∷ cs) sub v =
      columns_alike cs (λ d m. sub d (Memᴰ.tail m)) (take_elements c slot q c.row.count v)
      ∙ ap (take_columns cs slot p) (elements_alike c (sub c (Memᴰ.head refl)) c.row.count (omega arith) v)

-- the same version is taken of both
pub taken_alike : (q p : List ℕ) → SameElements q p → (v : List ℕ) → taken q v ≡ taken p v
unfolding taken
taken_alike q p same v = rw (columns_alike q p same _ columns (λ c m. m) v)

slots_alike : (q p : List ℕ) → SameElements q p → (v : List ℕ) (n : ℕ) → fill_slots n q v ≡ fill_slots n p v
slots_alike q p same v zero = refl
slots_alike q p same v (suc n) =
    columns_alike q p same n columns (λ c m. m) (fill_slots n q v) ∙ ap (take_columns columns n p) (slots_alike q p same v n)

pub filled_alike : (q p : List ℕ) → SameElements q p → (v : List ℕ) → filled q v ≡ filled p v
unfolding filled
filled_alike q p same v = rw (slots_alike q p same v slots)

-- what the test of their place says
pub found : {b : Bool} (n m : ℕ) → b ≡ eqb n m → b ≡ true → n ≡ m
found n m e h = eqb-true n m (sym e ∙ h)

pub not_found : {b : Bool} (n m : ℕ) → b ≡ eqb n m → b ≡ false → n ≡ m → ⊥
not_found n m e h = eqb-false n m (sym e ∙ h)

-- no versions stand from `at` on
module _ (at : ℕ) (p : List ℕ) (elsewhere : length p ≡ at + version_bytes → ⊥) where
  other : length (drop at p) ≡ version_bytes → ⊥
  unfolding last_at rows
  other e = elsewhere (omega (arith, length-drop at p))

  pub within_alone : p ≡ taken_within at p
  unfolding taken_within
  within_alone = sym (take-append-drop at p) ∙ ap (λ (t : List ℕ). take at p ++ t) (taken_alone p (drop at p) other)

  pub filled_within_alone : p ≡ filled_within at p
  unfolding filled_within
  filled_within_alone = sym (take-append-drop at p) ∙ ap (λ (t : List ℕ). take at p ++ t) (filled_alone p (drop at p) other)

  pub back_alone : (n : ℕ) → p ≡ restored_within at n p
  unfolding restored_within
  back_alone n = restored_alone p (drop at p) other n

-- versions of the right size
module _ (at : ℕ) (p : List ℕ) (size : length p ≡ at + version_bytes) where
  pub rest_all : take (length p - at) (drop at p) ≡ drop at p
  rest_all = take_all (length p - at) (drop at p) (omega (arith, length-drop at p))

  none_after : post_of at (length p - at) p ≡ []
  none_after = Post-is at (length p) p (omega arith) ∙ drop_of_length-le p {i = length p} (omega arith)

  -- what is done to them with a copy of the elements, where the elements are all that it reads of a part
  pub within_is : (f : List ℕ → List ℕ → List ℕ) → ((v : List ℕ) → f (take parameter_bytes p) v ≡ f p v)
      → (copied ys : List ℕ) → copied ≡ take parameter_bytes p → ys ≡ f copied (take (length p - at) (drop at p)) → put_mid at (length p - at) p ys ≡ take at p ++ f p (drop at p)
  within_is f same copied ys c e =
      let y : ys ≡ f p (drop at p) = e ∙ (ap (f copied) rest_all ∙ (ap (λ (l : List ℕ). f l (drop at p)) c ∙ same (drop at p))) in
      ap (λ (t : List ℕ). take at p ++ (ys ++ t)) none_after ∙ (ap (λ (l : List ℕ). take at p ++ l) (append-nil ys ∙ y))

  pub back_is : (n : ℕ) (copied ys : List ℕ) → copied ≡ take (length p - at) (drop at p) → ys ≡ restored copied n p → ys ≡ restored_within at n p
  unfolding restored_within
  back_is n copied ys c e = e ∙ ap (λ (l : List ℕ). restored l n p) (c ∙ rest_all)
