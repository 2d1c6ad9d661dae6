-- Where settings stand: every column after the one before it, so no two settings share a byte; what is put is read back, and no other changes.
use mathlib.Core.Path.{◌≡◌, refl, sym, ap, ◌∙◌}
use mathlib.Core.Bool.{Bool, true, ◌&&◌, and-eq-true_iff}
use mathlib.Core.List.Memᴰ
use mathlib.Core.List.{List, [], ◌∷◌, Memᴰ}
use mathlib.Core.Logic.{◌⊎◌, inl, inr}
use Prim.Native.Nat.{ℕ, zero, suc, ◌+◌, ◌*◌, ◌/◌, ◌%◌, ◌^◌, ◌≤◌, ◌<◌}
use native.Mathlib.Decide.{dec_lt}
use native.Mathlib.Nat.{suc-mul, mul-le-mul_right, pow-suc}
use native.Mathlib.Omega.{arith}
use lib.Dec.{eqb}
use lib.ListN.{length, get_or, set, length-set}
use lib.Seq.{get_or-drop, get_or-set_same}
use borrow.Author.Tests.{eqb-true}
use Rattle.codes.specs.Number.{put}
use Rattle.codes.proofs.Put.{put_before, put_drop}
use Rattle.catalogue.specs.Table.{element_size, rows}
use Rattle.catalogue.proofs.Rows.{Apart}
use Rattle.versions.specs.Low.{low_number, low_bytes}
use Rattle.versions.specs.declared.Columns.{Columns}
use Rattle.versions.specs.Layout.{columns, columns_of, slots, last_at, place_in, setting_in}
use Rattle.versions.specs.Keep.{put_setting}
use Rattle.versions.proofs.Bytewise.{bytes_length, put_next}
use Rattle.versions.proofs.Slots.{place_inside}

-- what is put is read back
pub low_put : (w : ℕ) (l : List ℕ) (at x : ℕ) → at + w ≤ length l → x < 256 ^ w → low_number w (put l at (low_bytes w x)) at ≡ x
low_put zero l at x room small = omega arith
low_put (suc w) l at x room small =
    let m = set l at (x % 256) in
    let n : length m ≡ length l = length-set l at (x % 256) in
    let h : x < 256 ^ w * 256 = rw pow-suc at small in
    let first = low_put w m (at + 1) (x / 256) (omega arith) (omega arith) in
    let here : get_or (put m (at + 1) (low_bytes w (x / 256))) at 0 ≡ x % 256 = put_before m (at + 1) _ at (omega arith) ∙ get_or-set_same l at (x % 256) 0 (omega arith) in
    ap (λ (s : List ℕ). low_number (suc w) s at) (sym (put_next l at x w room)) ∙ rw (first, here) (omega arith)

-- and a number elsewhere is as it was
module _ (l : List ℕ) (at : ℕ) (bs : List ℕ) where
  pub low_before : (w k : ℕ) → k + w ≤ at → low_number w (put l at bs) k ≡ low_number w l k
  low_before zero k h = refl
  low_before (suc w) k h = rw (low_before w (k + 1) (omega arith), put_before l at bs k (omega arith))

  byte_after : (k : ℕ) → at + length bs ≤ k → get_or (put l at bs) k 0 ≡ get_or l k 0
  byte_after k h =
      let z : k + 0 ≡ k = omega arith in
      ap (λ (i : ℕ). get_or (put l at bs) i 0) (sym z)
      ∙ (sym (get_or-drop k (put l at bs) 0 0) ∙ (ap (λ (m : List ℕ). get_or m 0 0) (put_drop l at bs k h) ∙ (get_or-drop k l 0 0 ∙ ap (λ (i : ℕ). get_or l i 0) z)))

  low_after : (w k : ℕ) → at + length bs ≤ k → low_number w (put l at bs) k ≡ low_number w l k
  low_after zero k h = refl
  low_after (suc w) k h = rw (low_after w (k + 1) (omega arith), byte_after k h)

-- columns that stand one after the other from a place on
abbrev tiled : ℕ → List Columns → Bool
tiled at [] = true
tiled at (c ∷ cs) = eqb c.at at && tiled (at + columns_of c.row) cs

columns_tiled : tiled 0 columns ≡ true
unfolding columns rows
columns_tiled = refl

abbrev bytes_in : List Columns → ℕ
bytes_in [] = 0
bytes_in (c ∷ cs) = columns_of c.row + bytes_in cs

columns_bytes : bytes_in columns ≡ last_at
unfolding columns last_at rows
columns_bytes = refl

tiled_parts : (at : ℕ) (c : Columns) (cs : List Columns) → tiled at (c ∷ cs) ≡ true → (c.at ≡ at) × (tiled (at + columns_of c.row) cs ≡ true)
tiled_parts at c cs e =
    let two = (and-eq-true_iff (eqb c.at at) (tiled (at + columns_of c.row) cs)).0 e in
    (eqb-true c.at at two.0, two.1)

stands : (at : ℕ) (cs : List Columns) → tiled at cs ≡ true → (q : Columns) → Memᴰ q cs → (at ≤ q.at) × (q.at + columns_of q.row ≤ at + bytes_in cs)
stands at [] e q m = absurd (Memᴰ.not-nil m)
stands at (c ∷ cs) e q m = go (Memᴰ.cases_cons m) (stands (at + columns_of c.row) cs two.1 q)
  where
    two : (c.at ≡ at) × (tiled (at + columns_of c.row) cs ≡ true)
    two = tiled_parts at c cs e

    go : (q ≡ c) ⊎ Memᴰ q cs → (Memᴰ q cs → (at + columns_of c.row ≤ q.at) × (q.at + columns_of q.row ≤ at + columns_of c.row + bytes_in cs)) → (at ≤ q.at) × (q.at + columns_of q.row ≤ at + (columns_of c.row + bytes_in cs))
    go (inl s) below = rw s (omega (arith, two.0), omega (arith, two.0))
    go (inr m) below = let b = below m in (omega arith, omega arith)

apart : (at : ℕ) (cs : List Columns) → tiled at cs ≡ true → (q r : Columns) → Memᴰ q cs → Memᴰ r cs → (q ≡ r) ⊎ Apart q.at (columns_of q.row) r.at (columns_of r.row)
apart at [] e q r m n = absurd (Memᴰ.not-nil m)
apart at (x ∷ cs) e q r m n = go (Memᴰ.cases_cons m) (Memᴰ.cases_cons n) (apart (at + columns_of x.row) cs two.1 q r)
  where
    two : (x.at ≡ at) × (tiled (at + columns_of x.row) cs ≡ true)
    two = tiled_parts at x cs e

    later : (y : Columns) → Memᴰ y cs → x.at + columns_of x.row ≤ y.at
    later y k = omega (arith, two.0, (stands (at + columns_of x.row) cs two.1 y k).0)

    go : (q ≡ x) ⊎ Memᴰ q cs → (r ≡ x) ⊎ Memᴰ r cs → (Memᴰ q cs → Memᴰ r cs → (q ≡ r) ⊎ Apart q.at (columns_of q.row) r.at (columns_of r.row)) → (q ≡ r) ⊎ Apart q.at (columns_of q.row) r.at (columns_of r.row)
    go (inl s) (inl t) below = inl (s ∙ sym t)
    go (inl s) (inr k) below = inr (inl (rw s (later r k)))
    go (inr k) (inl t) below = inr (inr (rw t (later q k)))
    go (inr k) (inr l) below = below k l

-- a setting: element j of a row's columns, in a slot
module _ (q : Columns) (q_in : Memᴰ q columns) (j s : ℕ) (h : j < q.row.count) (hs : s < slots) where
  abbrev size : ℕ
  size = element_size q.row.kind

  -- it stands inside its columns, before the last number used
  setting_inside : place_in q j s + size ≤ q.at + columns_of q.row
  setting_inside = omega (arith, place_inside j s size q.row.count h hs)

  pub setting_before : place_in q j s + size ≤ last_at
  setting_before = omega (arith, setting_inside, (stands 0 columns columns_tiled q q_in).1, columns_bytes)

-- two settings are the same one, or do not overlap
module _ (q r : Columns) (q_in : Memᴰ q columns) (r_in : Memᴰ r columns) (j s i t : ℕ) (h : j < q.row.count) (hs : s < slots) (k : i < r.row.count) (kt : t < slots) where
  Same : Type 0
  Same = (q ≡ r) × (j ≡ i) × (s ≡ t)

  same_columns : q ≡ r → Same ⊎ Apart (place_in q j s) (element_size q.row.kind) (place_in q i t) (element_size q.row.kind)
  unfolding Same
  same_columns e = go (dec_lt (j * 16 + s) (i * 16 + t)) (dec_lt (i * 16 + t) (j * 16 + s))
    where
      before : (a b : ℕ) → a < b → a * element_size q.row.kind + element_size q.row.kind ≤ b * element_size q.row.kind
      before a b l = omega (arith, suc-mul a (element_size q.row.kind), mul-le-mul_right {m = suc a} {n = b} (element_size q.row.kind) l)

      go : Dec (j * 16 + s < i * 16 + t) → Dec (i * 16 + t < j * 16 + s) → ((q ≡ r) × (j ≡ i) × (s ≡ t)) ⊎ Apart (place_in q j s) (element_size q.row.kind) (place_in q i t) (element_size q.row.kind)
      go (yes l) d = inr (inl (omega (arith, before (j * 16 + s) (i * 16 + t) l)))
      go (no n) (yes l) = inr (inr (omega (arith, before (i * 16 + t) (j * 16 + s) l)))
      go (no n) (no m) = inl (e, omega arith, omega arith)

  settings_apart : ((q ≡ r) × (j ≡ i) × (s ≡ t)) ⊎ Apart (place_in q j s) (element_size q.row.kind) (place_in r i t) (element_size r.row.kind)
  unfolding Same
  settings_apart = go (apart 0 columns columns_tiled q r q_in r_in)
    where
      one : q ≡ r → ((q ≡ r) × (j ≡ i) × (s ≡ t)) ⊎ Apart (place_in q j s) (element_size q.row.kind) (place_in q i t) (element_size q.row.kind) → ((q ≡ r) × (j ≡ i) × (s ≡ t)) ⊎ Apart (place_in q j s) (element_size q.row.kind) (place_in r i t) (element_size r.row.kind)
      one e (inl x) = inl x
      one e (inr a) = inr (rw (← e) a)

      go : (q ≡ r) ⊎ Apart q.at (columns_of q.row) r.at (columns_of r.row) → ((q ≡ r) × (j ≡ i) × (s ≡ t)) ⊎ Apart (place_in q j s) (element_size q.row.kind) (place_in r i t) (element_size r.row.kind)
      go (inl e) = one e (same_columns e)
      go (inr (inl a)) = inr (inl (omega (arith, setting_inside q q_in j s h hs)))
      go (inr (inr a)) = inr (inr (omega (arith, setting_inside r r_in i t k kt)))

  -- a setting that is put changes no other
  pub setting_elsewhere : (x : ℕ) (v : List ℕ) → ((q ≡ r) × (j ≡ i) × (s ≡ t)) ⊎ (setting_in q j s (put_setting r i t x v) ≡ setting_in q j s v)
  setting_elsewhere x v = go settings_apart
    where
      go : ((q ≡ r) × (j ≡ i) × (s ≡ t)) ⊎ Apart (place_in q j s) (element_size q.row.kind) (place_in r i t) (element_size r.row.kind) → ((q ≡ r) × (j ≡ i) × (s ≡ t)) ⊎ (setting_in q j s (put_setting r i t x v) ≡ setting_in q j s v)
      go (inl e) = inl e
      go (inr (inl a)) = inr (low_before v (place_in r i t) (low_bytes (element_size r.row.kind) x) (element_size q.row.kind) (place_in q j s) a)
      go (inr (inr a)) = inr (low_after v (place_in r i t) (low_bytes (element_size r.row.kind) x) (element_size q.row.kind) (place_in q j s) (omega (arith, bytes_length (element_size r.row.kind) x)))
