-- Settings put into a slot, and got from it: one element more, where it stands, and how long the lists stay.
use mathlib.Core.Path.{◌≡◌, refl, ◌∙◌, ap}
use mathlib.Core.List.{List, [], ◌∷◌}
use Prim.Native.Nat.{ℕ, zero, suc, ◌+◌, ◌*◌, ◌%◌, ◌≤◌, ◌<◌}
use native.Mathlib.Omega.{arith}
use native.Mathlib.Numerals.{add-one}
use native.Mathlib.Nat.{suc-mul, mul-le-mul_right, mul_assoc}
use lib.ListN.{length, get_or}
use borrow.Author.Tests.{eq-eqb, ne_eqb, leb-true}
use lib.Dec.{leb}
use Rattle.codes.specs.Number.{put}
use Rattle.codes.proofs.Put.{put_length}
use Rattle.catalogue.specs.Table.{rows, no_row}
use Rattle.catalogue.specs.Element.{element_of}
use Rattle.catalogue.proofs.Elements.{element_length}
use Rattle.versions.specs.Low.{low_bytes}
use Rattle.versions.proofs.Every.{columns_each}
use Rattle.versions.specs.declared.Columns.{Columns}
use Rattle.versions.specs.Layout.{columns, columns_of, slots, last_at, version_bytes, last_used, slot_of}
use Rattle.versions.specs.Keep.{put_setting, over_columns, take_elements, take_columns, give_elements, give_columns, taken, restored, fill_slots, filled}

-- and inside them
pub place_inside : (e slot z n : ℕ) → e < n → slot < 16 → (e * 16 + slot) * z + z ≤ 16 * (n * z)
place_inside e slot z n h s =
    let m : suc (e * 16 + slot) ≤ 16 * n = omega arith in
    omega (arith, suc-mul (e * 16 + slot) z, mul-le-mul_right {m = suc (e * 16 + slot)} {n = 16 * n} z m, mul_assoc 16 n z)

module _ (c : Columns) (slot : ℕ) (p v : List ℕ) where
  pub take_next : (e : ℕ) → put_setting c e slot (element_of c.row e p) (take_elements c slot p e v) ≡ take_elements c slot p (e + 1) v
  take_next e = rw (add-one e)

  pub take-length : (e : ℕ) → length (take_elements c slot p e v) ≡ length v
  take-length zero = refl
  take-length (suc e) = put_length (take_elements c slot p e v) _ _ ∙ take-length e

  pub give_length : (e : ℕ) → length (give_elements c slot v e p) ≡ length p
  give_length zero = refl
  give_length (suc e) = element_length c.row e _ (give_elements c slot v e p) ∙ give_length e

-- what is done with each row leaves the length
pub over_length : (f : Columns → List ℕ → List ℕ) → ((c : Columns) (v : List ℕ) → length (f c v) ≡ length v) → (cs : List Columns) (v : List ℕ) → length (over_columns f cs v) ≡ length v
over_length f h [] v = refl
over_length f h (c ∷ cs) v = over_length f h cs (f c v) ∙ h c v

pub columns_length : (cs : List Columns) (slot : ℕ) (p v : List ℕ) → length (take_columns cs slot p v) ≡ length v
columns_length cs slot p = over_length _ (λ c v. take-length c slot p v c.row.count) cs

-- what stands past the last of them
abbrev pub no_columns : Columns
no_columns = record { row = no_row; at = 0 }

-- the columns of the k-th row that is a setting
unfoldable pub columns_at : ℕ → Columns
columns_at k = get_or columns k no_columns

-- the rows that are settings, one by one
module _ (f : Columns → List ℕ → List ℕ) (v0 v1 v2 v3 v4 v5 v6 v7 : List ℕ) where
  abbrev pub done : ℕ → List ℕ → List ℕ
  done k v = f (columns_at k) v

  pub each_row : v1 ≡ done 0 v0 → v2 ≡ done 1 v1 → v3 ≡ done 2 v2 → v4 ≡ done 3 v3 → v5 ≡ done 4 v4 → v6 ≡ done 5 v5 → v7 ≡ done 6 v6 → v7 ≡ over_columns f columns v0
  unfolding columns columns_at rows
  each_row e1 e2 e3 e4 e5 e6 e7 = e7 ∙ ap (done 6) (e6 ∙ ap (done 5) (e5 ∙ ap (done 4) (e4 ∙ ap (done 3) (e3 ∙ ap (done 2) (e2 ∙ ap (done 1) e1)))))

-- each stands before the last number
pub column_room : (i : ℕ) (d : Columns) (n : ℕ) → i < 7 → n ≡ version_bytes → (get_or columns i d).at + columns_of (get_or columns i d).row ≤ n
unfolding columns last_at rows
column_room i d n h e = omega (arith, leb-true _ _ (columns_each (λ c. leb (c.at + columns_of c.row) 640) columns i d refl h))

-- a list of another size is left as it is
module _ (p v : List ℕ) (other : length v ≡ version_bytes → ⊥) where
  pub taken_alone : v ≡ taken p v
  unfolding taken
  taken_alone = rw (ne_eqb (length v) version_bytes other)

  pub restored_alone : (n : ℕ) → p ≡ restored v n p
  unfolding restored
  restored_alone n = rw (ne_eqb (length v) version_bytes other)

  pub filled_alone : v ≡ filled p v
  unfolding filled
  filled_alone = rw (ne_eqb (length v) version_bytes other)

module _ (p v : List ℕ) (size : length v ≡ version_bytes) where
  pub taken_is : (last : ℕ) → last ≡ last_used v → put (take_columns columns (last % 16) p v) last_at (low_bytes 2 (last + 1)) ≡ taken p v
  unfolding taken
  taken_is last e =
      let s : last % 16 ≡ slot_of (last + 1) = ap (λ (k : ℕ). k % 16) (omega arith) in
      rw (eq-eqb (length v) version_bytes size, s, e)

  pub restored_is : (n : ℕ) → give_columns columns (slot_of n) v p ≡ restored v n p
  unfolding restored
  restored_is n = rw (eq-eqb (length v) version_bytes size)

  pub filled_is : put (fill_slots slots p v) last_at (low_bytes 2 0) ≡ filled p v
  unfolding filled
  filled_is = rw (eq-eqb (length v) version_bytes size)

pub fill_length : (p v : List ℕ) (n : ℕ) → length (fill_slots n p v) ≡ length v
fill_length p v zero = refl
fill_length p v (suc n) = columns_length columns n p (fill_slots n p v) ∙ fill_length p v n
