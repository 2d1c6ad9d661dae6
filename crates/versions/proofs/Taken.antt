-- A version that is taken is read back element by element; the other slots are as they were; the last number used is one more.
use mathlib.Core.Path.{◌≡◌, refl, sym, ap, ◌∙◌, subst}
use mathlib.Core.List.Memᴰ
use mathlib.Core.List.{List, [], ◌∷◌, Memᴰ}
use mathlib.Core.Logic.{◌⊎◌, inl, inr}
use Prim.Native.Nat.{ℕ, zero, suc, ◌+◌, ◌%◌, ◌≤◌, ◌<◌}
use native.Mathlib.Decide.{dec_lt}
use native.Mathlib.Omega.{arith}
use lib.ListN.{length}
use borrow.Author.Tests.{eq-eqb}
use Rattle.codes.specs.Number.{put}
use Rattle.codes.proofs.Put.{put_length}
use Rattle.catalogue.specs.Table.{element_size}
use Rattle.catalogue.specs.Element.{element_of}
use Rattle.catalogue.proofs.Elements.{element_small}
use Rattle.versions.specs.Low.{low_number, low_bytes}
use Rattle.versions.specs.declared.Columns.{Columns}
use Rattle.versions.specs.Layout.{columns, slots, last_at, version_bytes, place_in, setting_in, last_used, slot_of}
use Rattle.versions.specs.Keep.{put_setting, take_elements, take_columns, taken, fill_slots, filled}
use Rattle.versions.proofs.Slots.{take-length, columns_length, taken_is, filled_is, fill_length}
use Rattle.versions.proofs.Places.{low_put, low_before, setting_before, setting_elsewhere}

-- what each setting that is put keeps, a whole version keeps
module _ (p : List ℕ) (slot : ℕ) (P : List ℕ → Type 0) (one : (c : Columns) → Memᴰ c columns → (i : ℕ) → i < c.row.count → (v : List ℕ) → P v → P (put_setting c i slot (element_of c.row i p) v)) where
  keep_elements : (c : Columns) → Memᴰ c columns → (n : ℕ) → n ≤ c.row.count → (v : List ℕ) → P v → P (take_elements c slot p n v)
  keep_elements c m zero h v x = x
  keep_elements c m (suc n) h v x = one c m n (omega arith) (take_elements c slot p n v) (keep_elements c m n (omega arith) v x)

  keep_columns : (cs : List Columns) → ((c : Columns) → Memᴰ c cs → Memᴰ c columns) → (v : List ℕ) → P v → P (take_columns cs slot p v)
  keep_columns [] sub v x = x
  keep_columns (c ∷ cs) sub v x =
      keep_columns cs (λ d m. sub d (Memᴰ.tail m)) (take_elements c slot p c.row.count v)
      (keep_elements c (sub c (Memᴰ.head refl)) c.row.count (omega arith) v x)

module _ (p : List ℕ) (slot : ℕ) (hs : slot < slots) (q : Columns) (q_in : Memᴰ q columns) (j : ℕ) (h : j < q.row.count) where
  -- the setting is the part's
  record Right (v : List ℕ) : Type 0 where
    size : length v ≡ version_bytes
    is : setting_in q j slot v ≡ element_of q.row j p

  made : (v : List ℕ) → length v ≡ version_bytes → Right (put_setting q j slot (element_of q.row j p) v)
  made v n =
      record {
        size = put_length v (place_in q j slot) _ ∙ n;
        is = low_put (element_size q.row.kind) v (place_in q j slot) (element_of q.row j p) (omega (arith, setting_before q q_in j slot h hs)) (element_small q.row j p);
      }

  stays : (c : Columns) → Memᴰ c columns → (i : ℕ) → i < c.row.count → (v : List ℕ) → Right v → Right (put_setting c i slot (element_of c.row i p) v)
  stays c m i k v r = go (setting_elsewhere q c q_in m j slot i slot h hs k hs (element_of c.row i p) v)
    where
      go : ((q ≡ c) × (j ≡ i) × (slot ≡ slot)) ⊎ (setting_in q j slot (put_setting c i slot (element_of c.row i p) v) ≡ setting_in q j slot v) → Right (put_setting c i slot (element_of c.row i p) v)
      go (inl e) = rw (← e.0, ← e.1) (made v r.size)
      go (inr e) = record { size = put_length v (place_in c i slot) _ ∙ r.size; is = e ∙ r.is }

  in_elements : (n : ℕ) → j < n → n ≤ q.row.count → (v : List ℕ) → length v ≡ version_bytes → Right (take_elements q slot p n v)
  in_elements zero b k v size = absurd (omega arith)
  in_elements (suc n) b k v size = go (dec_lt j n) (in_elements n)
    where
      go : Dec (j < n) → (j < n → n ≤ q.row.count → (v : List ℕ) → length v ≡ version_bytes → Right (take_elements q slot p n v)) → Right (take_elements q slot p (suc n) v)
      go (yes y) ih = stays q q_in n (omega arith) (take_elements q slot p n v) (ih y (omega arith) v size)
      go (no y) ih =
          let e : j ≡ n = omega arith in
          subst (λ (i : ℕ). Right (put_setting q i slot (element_of q.row i p) (take_elements q slot p n v))) e (made (take_elements q slot p n v) (take-length q slot p v n ∙ size))

  in_columns : (cs : List Columns) → ((c : Columns) → Memᴰ c cs → Memᴰ c columns) → Memᴰ q cs → (v : List ℕ) → length v ≡ version_bytes → Right (take_columns cs slot p v)
  in_columns [] sub m v size = absurd (Memᴰ.not-nil m)
  in_columns (c ∷ cs) sub m v size = go (Memᴰ.cases_cons m) (in_columns cs (λ d k. sub d (Memᴰ.tail k)))
    where
      go : (q ≡ c) ⊎ Memᴰ q cs → (Memᴰ q cs → (v : List ℕ) → length v ≡ version_bytes → Right (take_columns cs slot p v)) → Right (take_columns (c ∷ cs) slot p v)
      go (inl e) ih =
          rw (← e)
          (keep_columns p slot Right stays cs (λ d k. sub d (Memᴰ.tail k)) (take_elements q slot p q.row.count v) (in_elements q.row.count h (omega arith) v size))
      go (inr k) ih = ih k (take_elements c slot p c.row.count v) (take-length c slot p v c.row.count ∙ size)

  -- after a part's settings are put into a slot, they stand there
  pub slot_taken : (v : List ℕ) → length v ≡ version_bytes → setting_in q j slot (take_columns columns slot p v) ≡ element_of q.row j p
  slot_taken v size = (in_columns columns (λ c m. m) q_in v size).is

  -- and the other slots are as they were
  pub slot_kept : (s : ℕ) → s < slots → (s ≡ slot → ⊥) → (v : List ℕ) → setting_in q j s (take_columns columns slot p v) ≡ setting_in q j s v
  slot_kept s ks other v = keep_columns p slot (λ (w : List ℕ). setting_in q j s w ≡ setting_in q j s v) one columns (λ c m. m) v refl
    where
      one : (c : Columns) → Memᴰ c columns → (i : ℕ) → i < c.row.count → (w : List ℕ) → setting_in q j s w ≡ setting_in q j s v → setting_in q j s (put_setting c i slot (element_of c.row i p) w) ≡ setting_in q j s v
      one c m i k w e = go (setting_elsewhere q c q_in m j s i slot h ks k hs (element_of c.row i p) w)
        where
          go : ((q ≡ c) × (j ≡ i) × (s ≡ slot)) ⊎ (setting_in q j s (put_setting c i slot (element_of c.row i p) w) ≡ setting_in q j s w) → setting_in q j s (put_setting c i slot (element_of c.row i p) w) ≡ setting_in q j s v
          go (inl x) = absurd (other x.2)
          go (inr x) = x ∙ e

-- the last number used stands after the settings
pub number_apart : (n : ℕ) (q : Columns) → Memᴰ q columns → (j s : ℕ) → j < q.row.count → s < slots → (v : List ℕ) → setting_in q j s (put v last_at (low_bytes 2 n)) ≡ setting_in q j s v
number_apart n q m j s h k v = low_before v last_at (low_bytes 2 n) (element_size q.row.kind) (place_in q j s) (setting_before q m j s h k)

module _ (p v : List ℕ) (size : length v ≡ version_bytes) where
  pub taken_length : length (taken p v) ≡ version_bytes
  taken_length =
      ap length (sym (taken_is p v size (last_used v) refl))
      ∙ (put_length (take_columns columns (last_used v % 16) p v) last_at (low_bytes 2 (last_used v + 1)) ∙ (columns_length columns (last_used v % 16) p v ∙ size))

  slot_is : last_used v % 16 ≡ slot_of (last_used v + 1)
  slot_is = ap (λ (k : ℕ). k % 16) (omega arith)

  module _ (q : Columns) (q_in : Memᴰ q columns) (j : ℕ) (h : j < q.row.count) where
    -- what was taken is read back
    pub taken_back : setting_in q j (slot_of (last_used v + 1)) (taken p v) ≡ element_of q.row j p
    taken_back =
        let s = slot_of (last_used v + 1) in
        let k : s < slots = omega arith in
        ap (setting_in q j s) (sym (taken_is p v size (last_used v) refl))
        ∙ (number_apart (last_used v + 1) q q_in j s h k (take_columns columns (last_used v % 16) p v)
        ∙ (ap (λ (i : ℕ). setting_in q j s (take_columns columns i p v)) slot_is ∙ slot_taken p s k q q_in j h v size))

    -- every other slot is as it was
    pub taken_kept : (s : ℕ) → s < slots → (s ≡ slot_of (last_used v + 1) → ⊥) → setting_in q j s (taken p v) ≡ setting_in q j s v
    taken_kept s k other =
        ap (setting_in q j s) (sym (taken_is p v size (last_used v) refl))
        ∙ (number_apart (last_used v + 1) q q_in j s h k (take_columns columns (last_used v % 16) p v)
        ∙ slot_kept p (last_used v % 16) (omega arith) q q_in j h s k (λ e. other (e ∙ slot_is)) v)

  counted : last_used (taken p v) ≡ low_number 2 (taken p v) last_at
  unfolding last_used
  counted = rw (eq-eqb (length (taken p v)) version_bytes taken_length)

  -- and the last number used is one more
  pub taken_last : last_used v < 65535 → last_used (taken p v) ≡ last_used v + 1
  taken_last less =
      counted
      ∙ (ap (λ (l : List ℕ). low_number 2 l last_at) (sym (taken_is p v size (last_used v) refl))
      ∙ low_put 2 (take_columns columns (last_used v % 16) p v) last_at (last_used v + 1) (omega (arith, columns_length columns (last_used v % 16) p v)) (omega arith))

-- slots that are filled: no number is used
module _ (p v : List ℕ) (size : length v ≡ version_bytes) where
  pub filled_length : length (filled p v) ≡ version_bytes
  filled_length = ap length (sym (filled_is p v size)) ∙ (put_length (fill_slots slots p v) last_at (low_bytes 2 0) ∙ (fill_length p v slots ∙ size))

  pub filled_last : last_used (filled p v) ≡ 0
  unfolding last_used
  filled_last =
      rw (eq-eqb (length (filled p v)) version_bytes filled_length)
      (ap (λ (l : List ℕ). low_number 2 l last_at) (sym (filled_is p v size))
      ∙ low_put 2 (fill_slots slots p v) last_at 0 (omega (arith, fill_length p v slots)) (omega arith))
