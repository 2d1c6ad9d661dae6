-- Versions that fit, setting by setting; taking a version of a part whose settings lie inside their limits keeps them fit, and slots that
-- all hold such settings fit.
use mathlib.Core.Path.{◌≡◌, refl, sym, ap, ◌∙◌, subst}
use mathlib.Core.Bool.{Bool, true, cond, ◌&&◌}
use mathlib.Core.List.{List, [], ◌∷◌, Memᴰ}
use Prim.Native.Nat.{ℕ, zero, suc, ◌+◌, ◌≤◌, ◌<◌}
use native.Mathlib.Decide.{dec_lt}
use native.Mathlib.Omega.{arith}
use lib.Dec.{eqb}
use lib.ListN.{length}
use borrow.Author.Tests.{eq-eqb, eqb-true}
use borrow.Table.Steps.{cases}
use Rattle.codes.specs.Number.{put}
use Rattle.codes.proofs.Put.{put_length}
use Rattle.catalogue.specs.declared.Row.{Row}
use Rattle.catalogue.specs.Table.{rows, parameter_bytes}
use Rattle.catalogue.proofs.Rows.{every_row_lem}
use Rattle.catalogue.proofs.Every.{every_at, every_is}
use Rattle.catalogue.specs.Element.{inside, element_of, every_element, every_row}
use Rattle.versions.specs.Low.{low_bytes}
use Rattle.versions.specs.declared.Columns.{Columns}
use Rattle.versions.specs.Layout.{columns, columns_from, columns_of, is_setting, slots, last_at, version_bytes, setting_in, last_used, slot_of}
use Rattle.versions.specs.Fit.{every_columns, columns_fit, versions_fit}
use Rattle.versions.specs.Keep.{taken, restored, fill_slots, filled}
use Rattle.codes.proofs.Demand.{both}
use Rattle.versions.proofs.Every.{columns_at_lem}
use Rattle.versions.proofs.Fits.{columns_each}
use Rattle.versions.proofs.Slots.{filled_is, fill_length}
use Rattle.versions.proofs.Given.{column_row, restored_settings}
use Rattle.versions.proofs.Taken.{slot_taken, slot_kept, number_apart, taken_length, taken_back, taken_kept}

pub dec_eq : (a b : ℕ) → Dec (a ≡ b)
dec_eq a b = go (dec_lt a b) (dec_lt b a)
  where
    go : Dec (a < b) → Dec (b < a) → Dec (a ≡ b)
    go (yes h) d = no (λ e. omega arith)
    go (no h) (yes k) = no (λ e. omega arith)
    go (no h) (no k) = yes (omega arith)

columns_is : (ok : Columns → Bool) (cs : List Columns) → ((q : Columns) → Memᴰ q cs → ok q ≡ true) → every_columns ok cs ≡ true
columns_is ok [] h = refl
columns_is ok (c ∷ cs) h = rw (h c (Memᴰ.head refl), columns_is ok cs (λ q m. h q (Memᴰ.tail m)))

-- every setting of every slot lies inside its row's limits
pub record Fitting (v : List ℕ) : Type 0 where
  pub size : length v ≡ version_bytes
  pub limits : (q : Columns) → Memᴰ q columns → (j : ℕ) → j < q.row.count → (s : ℕ) → s < slots → inside q.row (setting_in q j s v) ≡ true

module _ (v : List ℕ) where
  fitting_of : versions_fit v ≡ true → Fitting v
  unfolding versions_fit
  fitting_of e =
      let two = both (eqb (length v) version_bytes) (every_columns (columns_fit v) columns) e in
      record {
        size = eqb-true (length v) version_bytes two.0;
        limits = λ q m j h s k. every_at (λ (t : ℕ). inside q.row (setting_in q j t v)) slots s (every_at (λ (i : ℕ). every_element (λ t. inside q.row (setting_in q i t v)) slots) q.row.count j (sym (columns_each v q.row q.at) ∙ columns_at_lem (columns_fit v) columns two.1 q m) h) k;
      }

  fitting_is : Fitting v → versions_fit v ≡ true
  unfolding versions_fit
  fitting_is f =
      rw (eq-eqb (length v) version_bytes f.size)
      (columns_is (columns_fit v) columns (λ q m. columns_each v q.row q.at ∙ every_is _ q.row.count (λ j h. every_is _ slots (λ s k. f.limits q m j h s k))))

-- the settings of a part lie inside their limits
abbrev pub Inside : List ℕ → Type 0
Inside p = (q : Columns) → Memᴰ q columns → (j : ℕ) → j < q.row.count → inside q.row (element_of q.row j p) ≡ true

-- the test of a part's rows says so: a row that is a setting has its elements inside (part's `limits_fit`)
abbrev row_fits : List ℕ → Row → Bool
row_fits p r = cond (is_setting r) (every_element (λ i. inside r (element_of r i p)) r.count) true

pub rows_inside : (p : List ℕ) → every_row (row_fits p) rows ≡ true → Inside p
rows_inside p e q m j h =
    let r = column_row q m in
    let f = every_row_lem (row_fits p) rows e q.row r.0 in
    every_at (λ (i : ℕ). inside q.row (element_of q.row i p)) q.row.count j (ap (λ (b : Bool). cond b (every_element (λ i. inside q.row (element_of q.row i p)) q.row.count) true) (sym r.1) ∙ f) h

-- and the other way round
abbrev AllInside : List ℕ → List Columns → Type 0
AllInside p cs = (q : Columns) → Memᴰ q cs → (j : ℕ) → j < q.row.count → inside q.row (element_of q.row j p) ≡ true

rows_from : (p : List ℕ) (at : ℕ) (rs : List Row) → AllInside p (columns_from at rs) → every_row (row_fits p) rs ≡ true
rows_from p at [] h = refl
rows_from p at (r ∷ rs) h =
    cases (is_setting r)
    (λ e. go e (subst (λ (b : Bool). AllInside p (cond b (here ∷ columns_from (at + columns_of r) rs) (columns_from at rs))) e h) (rows_from p (at + columns_of r) rs))
    (λ e.
    let below = subst (λ (b : Bool). AllInside p (cond b (here ∷ columns_from (at + columns_of r) rs) (columns_from at rs))) e h in
    ap (λ (b : Bool). cond b (every_element (λ i. inside r (element_of r i p)) r.count) true && every_row (row_fits p) rs) e ∙ rows_from p at rs below)
  where
    here : Columns
    here = record { row = r; at = at }

    go : is_setting r ≡ true → AllInside p (here ∷ columns_from (at + columns_of r) rs) → (AllInside p (columns_from (at + columns_of r) rs) → every_row (row_fits p) rs ≡ true) → every_row (row_fits p) (r ∷ rs) ≡ true
    go e g below =
        let own = every_is (λ (i : ℕ). inside r (element_of r i p)) r.count (λ i k. g here (Memᴰ.head refl) i k) in
        ap (λ (b : Bool). cond b (every_element (λ i. inside r (element_of r i p)) r.count) true && every_row (row_fits p) rs) e
        ∙ (ap (λ (b : Bool). b && every_row (row_fits p) rs) own ∙ below (λ q m. g q (Memᴰ.tail m)))

pub inside_rows : (p : List ℕ) → Inside p → every_row (row_fits p) rows ≡ true
unfolding columns
inside_rows p h = rows_from p 0 rows h

-- going back to a version of versions that fit leaves settings that lie inside their limits
pub restored_inside : (v : List ℕ) → versions_fit v ≡ true → (n : ℕ) (p : List ℕ) → parameter_bytes ≤ length p → Inside (restored v n p)
restored_inside v e n p room q m j h =
    let f = fitting_of v e in
    ap (inside q.row) (restored_settings v f.size n p room q m j h) ∙ f.limits q m j h (slot_of n) (omega arith)

-- taking a version keeps them fit
pub taken_fits : (p v : List ℕ) → Inside p → versions_fit v ≡ true → versions_fit (taken p v) ≡ true
taken_fits p v within e = fitting_is (taken p v) (record { size = taken_length p v size; limits = here })
  where
    size : length v ≡ version_bytes
    size = (fitting_of v e).size

    here : (q : Columns) → Memᴰ q columns → (j : ℕ) → j < q.row.count → (s : ℕ) → s < slots → inside q.row (setting_in q j s (taken p v)) ≡ true
    here q m j h s k = go (dec_eq s (slot_of (last_used v + 1)))
      where
        go : Dec (s ≡ slot_of (last_used v + 1)) → inside q.row (setting_in q j s (taken p v)) ≡ true
        go (yes y) = ap (λ (i : ℕ). inside q.row (setting_in q j i (taken p v))) y ∙ (ap (inside q.row) (taken_back p v size q m j h) ∙ within q m j h)
        go (no y) = ap (inside q.row) (taken_kept p v size q m j h s k y) ∙ (fitting_of v e).limits q m j h s k

-- slots that all hold a part's settings: each is what was put there
filled_slot : (p v : List ℕ) → length v ≡ version_bytes → (q : Columns) → Memᴰ q columns → (j : ℕ) → j < q.row.count → (n : ℕ) → n ≤ slots → (s : ℕ) → s < n → setting_in q j s (fill_slots n p v) ≡ element_of q.row j p
filled_slot p v size q m j h zero k s l = absurd (omega arith)
filled_slot p v size q m j h (suc n) k s l = go (dec_eq s n) (filled_slot p v size q m j h n (omega arith) s)
  where
    go : Dec (s ≡ n) → (s < n → setting_in q j s (fill_slots n p v) ≡ element_of q.row j p) → setting_in q j s (fill_slots (suc n) p v) ≡ element_of q.row j p
    go (yes y) ih = ap (λ (i : ℕ). setting_in q j i (fill_slots (suc n) p v)) y ∙ slot_taken p n (omega arith) q m j h (fill_slots n p v) (fill_length p v n ∙ size)
    go (no y) ih = slot_kept p n (omega arith) q m j h s (omega arith) y (fill_slots n p v) ∙ ih (omega arith)

-- fresh versions fit: every slot holds the settings of a part whose settings lie inside their limits
pub filled_fits : (p v : List ℕ) → Inside p → length v ≡ version_bytes → versions_fit (filled p v) ≡ true
filled_fits p v within size =
    ap versions_fit (sym (filled_is p v size))
    ∙ fitting_is (put (fill_slots slots p v) last_at (low_bytes 2 0))
    (record {
      size = put_length (fill_slots slots p v) last_at _ ∙ (fill_length p v slots ∙ size);
      limits = λ q m j h s k. ap (inside q.row) (number_apart 0 q m j s h k (fill_slots slots p v) ∙ filled_slot p v size q m j h slots (omega arith) s k) ∙ within q m j h;
    })
