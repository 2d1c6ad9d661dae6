-- Going back makes the part's settings those of the version, and leaves every other element and every byte after the elements.
use mathlib.Core.Path.{◌≡◌, refl, sym, ap, ◌∙◌, subst}
use mathlib.Core.Bool.{Bool, true, false, cond}
use mathlib.Core.List.Memᴰ
use mathlib.Core.List.{List, [], ◌∷◌, Memᴰ}
use mathlib.Core.Logic.{◌⊎◌, inl, inr}
use Prim.Native.Nat.{ℕ, zero, suc, ◌+◌, ◌≤◌, ◌<◌}
use native.Mathlib.Decide.{dec_lt}
use native.Mathlib.Omega.{arith}
use lib.ListN.{length, drop}
use lib.Dec.{eqb}
use borrow.Author.Tests.{eqb-true}
use borrow.Table.Steps.{cases}
use Rattle.catalogue.specs.declared.Row.{Row}
use Rattle.catalogue.specs.Table.{element_size, rows, parameter_bytes}
use Rattle.catalogue.specs.Element.{element_of, put_element}
use Rattle.catalogue.proofs.Elements.{element_length, element_stored}
use Rattle.catalogue.proofs.Rows.{element_inside, element_elsewhere, element_rest}
use Rattle.versions.specs.declared.Columns.{Columns}
use Rattle.versions.specs.Layout.{columns, columns_from, columns_of, is_setting, version_bytes, place_in, setting_in, slot_of}
use Rattle.versions.specs.Fit.{every_columns}
use Rattle.versions.specs.Keep.{give_elements, give_columns, restored}
use Rattle.versions.proofs.Every.{columns_at_lem}
use Rattle.versions.proofs.Bytewise.{low_small}
use Rattle.versions.proofs.Slots.{over_length, give_length, restored_is}

abbrev made_of : Row → ℕ → Columns
made_of r k = record { row = r; at = k }

-- a row's columns are those of a row of the table, which is a setting
from_rows : (at : ℕ) (rs : List Row) (c : Columns) → Memᴰ c (columns_from at rs) → Memᴰ c.row rs × (is_setting c.row ≡ true)
from_rows at [] c m = absurd (Memᴰ.not-nil m)
from_rows at (r ∷ rs) c m =
    cases (is_setting r)
    (λ e. chosen e (from_rows (at + columns_of r) rs c) (Memᴰ.cases_cons (subst among e m)))
    (λ e. let k = from_rows at rs c (subst among e m) in (Memᴰ.tail k.0, k.1))
  where
    among : Bool → Type 0
    among t = Memᴰ c (cond t (made_of r at ∷ columns_from (at + columns_of r) rs) (columns_from at rs))

    chosen : is_setting r ≡ true → (Memᴰ c (columns_from (at + columns_of r) rs) → Memᴰ c.row rs × (is_setting c.row ≡ true)) → (c ≡ record { row = r; at = at }) ⊎ Memᴰ c (columns_from (at + columns_of r) rs) → Memᴰ c.row (r ∷ rs) × (is_setting c.row ≡ true)
    chosen e below (inl s) = let q : c.row ≡ r = ap (λ (k : Columns). k.row) s in (Memᴰ.head q, ap is_setting q ∙ e)
    chosen e below (inr k) = let b = below k in (Memᴰ.tail b.0, b.1)

pub column_row : (c : Columns) → Memᴰ c columns → Memᴰ c.row rows × (is_setting c.row ≡ true)
unfolding columns
column_row = from_rows 0 rows

-- what each element that is put keeps, going back keeps
module _ (v : List ℕ) (slot : ℕ) (P : List ℕ → Type 0) (one : (c : Columns) → Memᴰ c columns → (i : ℕ) → i < c.row.count → (p : List ℕ) → P p → P (put_element c.row i (setting_in c i slot v) p)) where
  keep_given : (c : Columns) → Memᴰ c columns → (n : ℕ) → n ≤ c.row.count → (p : List ℕ) → P p → P (give_elements c slot v n p)
  keep_given c m zero h p x = x
  keep_given c m (suc n) h p x = one c m n (omega arith) (give_elements c slot v n p) (keep_given c m n (omega arith) p x)

  keep_all : (cs : List Columns) → ((c : Columns) → Memᴰ c cs → Memᴰ c columns) → (p : List ℕ) → P p → P (give_columns cs slot v p)
  keep_all [] sub p x = x
  keep_all (c ∷ cs) sub p x =
      keep_all cs (λ d m. sub d (Memᴰ.tail m)) (give_elements c slot v c.row.count p)
      (keep_given c (sub c (Memᴰ.head refl)) c.row.count (omega arith) p x)

module _ (v : List ℕ) (slot : ℕ) where
  -- an element that is no setting stays
  others_stay : (r : Row) → Memᴰ r rows → is_setting r ≡ false → (j : ℕ) → j < r.count → (p : List ℕ) → element_of r j (give_columns columns slot v p) ≡ element_of r j p
  others_stay r m none j h p = keep_all v slot (λ (x : List ℕ). element_of r j x ≡ element_of r j p) one columns (λ c k. k) p refl
    where
      one : (c : Columns) → Memᴰ c columns → (i : ℕ) → i < c.row.count → (x : List ℕ) → element_of r j x ≡ element_of r j p → element_of r j (put_element c.row i (setting_in c i slot v) x) ≡ element_of r j p
      one c k i l x e = go (element_elsewhere r c.row m (column_row c k).0 j i h l (setting_in c i slot v) x)
        where
          go : ((r ≡ c.row) × (j ≡ i)) ⊎ (element_of r j (put_element c.row i (setting_in c i slot v) x) ≡ element_of r j x) → element_of r j (put_element c.row i (setting_in c i slot v) x) ≡ element_of r j p
          go (inl s) = absurd (let z : true ≡ false = sym (column_row c k).1 ∙ (ap is_setting (sym s.0) ∙ none) in let w : ◌≡◌ {A = ℕ} 0 1 = cc in omega arith)
          go (inr s) = s ∙ e

  -- and so does every byte after the elements
  rest_stays : (p : List ℕ) → drop parameter_bytes (give_columns columns slot v p) ≡ drop parameter_bytes p
  rest_stays p =
      keep_all v slot (λ (x : List ℕ). drop parameter_bytes x ≡ drop parameter_bytes p)
      (λ c k i l x e. element_rest c.row (column_row c k).0 i l (setting_in c i slot v) x ∙ e) columns (λ c k. k) p refl

-- the columns of a parameter are found by its number, so a row has no two
abbrev at_in : List Columns → ℕ → ℕ
at_in [] pnu = 0
at_in (c ∷ cs) pnu = cond (eqb c.row.pnu pnu) c.at (at_in cs pnu)

abbrev stands_as : Columns → Bool
stands_as c = eqb c.at (at_in columns c.row.pnu)

all_stand : every_columns stands_as columns ≡ true
unfolding columns rows
all_stand = refl

one_row : (q c : Columns) → Memᴰ q columns → Memᴰ c columns → q.row ≡ c.row → q ≡ c
one_row q c m n e =
    let a = eqb-true q.at (at_in columns q.row.pnu) (columns_at_lem stands_as columns all_stand q m) in
    let b = eqb-true c.at (at_in columns c.row.pnu) (columns_at_lem stands_as columns all_stand c n) in
    let f : q.at ≡ c.at = a ∙ (ap (λ (r : Row). at_in columns r.pnu) e ∙ sym b) in
    ap (λ (r : Row). made_of r q.at) e ∙ ap (λ (k : ℕ). made_of c.row k) f

module _ (v : List ℕ) (slot : ℕ) (q : Columns) (q_in : Memᴰ q columns) (j : ℕ) (h : j < q.row.count) where
  -- the element is the version's
  record Back (p : List ℕ) : Type 0 where
    room : parameter_bytes ≤ length p
    is : element_of q.row j p ≡ setting_in q j slot v

  stored : (p : List ℕ) → parameter_bytes ≤ length p → Back (put_element q.row j (setting_in q j slot v) p)
  stored p n =
      record {
        room = omega (arith, element_length q.row j (setting_in q j slot v) p);
        is = element_stored q.row j (setting_in q j slot v) p (omega (arith, element_inside q.row (column_row q q_in).0 j h)) (low_small (element_size q.row.kind) v (place_in q j slot));
      }

  stays : (c : Columns) → Memᴰ c columns → (i : ℕ) → i < c.row.count → (p : List ℕ) → Back p → Back (put_element c.row i (setting_in c i slot v) p)
  stays c m i k p r = go (element_elsewhere q.row c.row (column_row q q_in).0 (column_row c m).0 j i h k (setting_in c i slot v) p)
    where
      go : ((q.row ≡ c.row) × (j ≡ i)) ⊎ (element_of q.row j (put_element c.row i (setting_in c i slot v) p) ≡ element_of q.row j p) → Back (put_element c.row i (setting_in c i slot v) p)
      go (inl e) = let f : q ≡ c = one_row q c q_in m e.0 in rw (← f, ← e.1) (stored p r.room)
      go (inr e) = record { room = omega (arith, element_length c.row i (setting_in c i slot v) p, r.room); is = e ∙ r.is }

  in_elements : (n : ℕ) → j < n → n ≤ q.row.count → (p : List ℕ) → parameter_bytes ≤ length p → Back (give_elements q slot v n p)
  in_elements zero l k p room = absurd (omega arith)
  in_elements (suc n) l k p room = go (dec_lt j n) (in_elements n)
    where
      go : Dec (j < n) → (j < n → n ≤ q.row.count → (p : List ℕ) → parameter_bytes ≤ length p → Back (give_elements q slot v n p)) → Back (give_elements q slot v (suc n) p)
      go (yes y) ih = stays q q_in n (omega arith) (give_elements q slot v n p) (ih y (omega arith) p room)
      go (no y) ih =
          let e : j ≡ n = omega arith in
          subst (λ (i : ℕ). Back (put_element q.row i (setting_in q i slot v) (give_elements q slot v n p))) e (stored (give_elements q slot v n p) (omega (arith, give_length q slot p v n)))

  in_columns : (cs : List Columns) → ((c : Columns) → Memᴰ c cs → Memᴰ c columns) → Memᴰ q cs → (p : List ℕ) → parameter_bytes ≤ length p → Back (give_columns cs slot v p)
  in_columns [] sub m p room = absurd (Memᴰ.not-nil m)
  in_columns (c ∷ cs) sub m p room = go (Memᴰ.cases_cons m) (in_columns cs (λ d k. sub d (Memᴰ.tail k)))
    where
      go : (q ≡ c) ⊎ Memᴰ q cs → (Memᴰ q cs → (p : List ℕ) → parameter_bytes ≤ length p → Back (give_columns cs slot v p)) → Back (give_columns (c ∷ cs) slot v p)
      go (inl e) ih =
          rw (← e)
          (keep_all v slot Back stays cs (λ d k. sub d (Memᴰ.tail k)) (give_elements q slot v q.row.count p) (in_elements q.row.count h (omega arith) p room))
      go (inr k) ih = ih k (give_elements c slot v c.row.count p) (omega (arith, give_length c slot p v c.row.count))

  -- going back makes the settings those of the version
  slot_given : (p : List ℕ) → parameter_bytes ≤ length p → element_of q.row j (give_columns columns slot v p) ≡ setting_in q j slot v
  slot_given p room = (in_columns columns (λ c m. m) q_in p room).is

-- version n of versions of the right size
module _ (v : List ℕ) (size : length v ≡ version_bytes) (n : ℕ) (p : List ℕ) where
  pub restored_settings : parameter_bytes ≤ length p → (q : Columns) → Memᴰ q columns → (j : ℕ) → j < q.row.count → element_of q.row j (restored v n p) ≡ setting_in q j (slot_of n) v
  restored_settings room q m j h = ap (element_of q.row j) (sym (restored_is p v size n)) ∙ slot_given v (slot_of n) q m j h p room

  pub restored_others : (r : Row) → Memᴰ r rows → is_setting r ≡ false → (j : ℕ) → j < r.count → element_of r j (restored v n p) ≡ element_of r j p
  restored_others r m none j h = ap (element_of r j) (sym (restored_is p v size n)) ∙ others_stay v (slot_of n) r m none j h p

  pub restored_rest : drop parameter_bytes (restored v n p) ≡ drop parameter_bytes p
  restored_rest = ap (drop parameter_bytes) (sym (restored_is p v size n)) ∙ rest_stays v (slot_of n) p

  pub restored_length : length (restored v n p) ≡ length p
  restored_length = ap length (sym (restored_is p v size n)) ∙ over_length _ (λ c q. give_length c (slot_of n) q v c.row.count) columns p
