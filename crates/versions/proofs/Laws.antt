-- The laws of R-7, over any bytes of the right size.
use mathlib.Core.Path.{◌≡◌, refl, sym, ap, ◌∙◌}
use mathlib.Core.Bool.{true, and-eq-true_iff}
use mathlib.Core.List.{List, [], ◌∷◌, ◌++◌, Memᴰ}
use Prim.Native.Nat.{ℕ, zero, suc, ◌+◌, ◌-◌, ◌≤◌, ◌<◌}
use native.Mathlib.Decide.{dec_lt}
use native.Mathlib.Omega.{arith}
use lib.Dec.{leb}
use lib.ListN.{length, get_or, length-append, get_or-append}
use lib.Seq.{get_or-append-add}
use borrow.Author.Tests.{leb-true, le-leb}
use Rattle.catalogue.specs.Table.{rows, parameter_bytes}
use Rattle.versions.specs.declared.Columns.{Columns}
use Rattle.versions.specs.Layout.{columns, setting_count, version_bytes, last_used, kept_count, oldest, slot_of}
use Rattle.versions.specs.Keep.{taken, restored}
use Rattle.versions.specs.Laws.{Eighteen, NumbersRise, TakenAsIs, RestoredAsKept}
use Rattle.versions.specs.Version.{list_to, over_settings, settings_of, version_of, kept_numbers, is_kept}
use Rattle.versions.proofs.Taken.{taken_back, taken_kept, taken_last}
use Rattle.versions.proofs.Given.{column_row, restored_settings, restored_others, restored_rest}
use Rattle.versions.proofs.Inner.{SameElements}

-- "18 today"
pub eighteen : Eighteen
unfolding setting_count columns rows
eighteen = refl

-- lists that agree setting by setting are the same
to_same : (f g : ℕ → ℕ) (n : ℕ) → ((j : ℕ) → j < n → f j ≡ g j) → list_to f n ≡ list_to g n
to_same f g zero h = refl
to_same f g (suc n) h = rw (to_same f g n (λ j k. h j (omega arith)), h n (omega arith))

over_same : (f g : Columns → ℕ → ℕ) (cs : List Columns) → ((q : Columns) → Memᴰ q cs → (j : ℕ) → j < q.row.count → f q j ≡ g q j) → over_settings f cs ≡ over_settings g cs
over_same f g [] h = refl
over_same f g (c ∷ cs) h =
    rw (to_same (f c) (g c) c.row.count (h c (Memᴰ.head refl)), over_same f g cs (λ q m. h q (Memᴰ.tail m)))

-- parts with the same elements have the same settings
pub settings_alike : (q p : List ℕ) → SameElements q p → settings_of q ≡ settings_of p
unfolding settings_of
settings_alike q p same = over_same _ _ columns (λ c m j h. same c.row (column_row c m).0 j h)

to_length : (f : ℕ → ℕ) (n : ℕ) → length (list_to f n) ≡ n
to_length f zero = refl
to_length f (suc n) = omega (arith, length-append (list_to f n) (f n ∷ []), to_length f n)

module _ (v : List ℕ) where
  -- the kept numbers rise by 1, from the oldest to the last used: at most 16 of them, and each has a slot of its own
  kept_count_lem : (length (kept_numbers v) ≡ kept_count v) × (kept_count v ≤ 16)
  kept_count_lem = (to_length (λ (i : ℕ). oldest v + i) (kept_count v), omega arith)

  kept_last : 1 ≤ last_used v → oldest v + (kept_count v - 1) ≡ last_used v
  kept_last h = omega arith

  own_slot : (n m : ℕ) → is_kept n v ≡ true → is_kept m v ≡ true → slot_of n ≡ slot_of m → n ≡ m
  own_slot n m a b e =
      let p = (and-eq-true_iff (leb (oldest v) n) (leb n (last_used v))).0 a in
      let q = (and-eq-true_iff (leb (oldest v) m) (leb m (last_used v))).0 b in
      omega (arith, leb-true (oldest v) n p.0, leb-true n (last_used v) p.1, leb-true (oldest v) m q.0, leb-true m (last_used v) q.1)

module _ (p v : List ℕ) (size : length v ≡ version_bytes) where
  -- a version is what the settings were when it was taken
  pub version_taken : version_of (last_used v + 1) (taken p v) ≡ settings_of p
  unfolding version_of settings_of
  version_taken = over_same _ _ columns (λ q m j h. taken_back p v size q m j h)

  -- and stays so while it is kept
  pub version_kept : last_used v < 65535 → (n : ℕ) → is_kept n (taken p v) ≡ true → n ≤ last_used v → version_of n (taken p v) ≡ version_of n v
  unfolding version_of
  version_kept less n kept old =
      over_same _ _ columns
      (λ q m j h.
      let two = (and-eq-true_iff (leb (oldest (taken p v)) n) (leb n (last_used (taken p v)))).0 kept in
      let low = leb-true (oldest (taken p v)) n two.0 in
      taken_kept p v size q m j h (slot_of n) (omega arith) (λ e. omega (arith, low, taken_last p v size less)))

  -- going back makes the settings those of the version
  settings_restored : parameter_bytes ≤ length p → (n : ℕ) → settings_of (restored v n p) ≡ version_of n v
  unfolding version_of settings_of
  settings_restored room n = over_same _ _ columns (λ q m j h. restored_settings v size n p room q m j h)

-- the number at a place of a list made of numbers one after the other
to_at : (f : ℕ → ℕ) (n i : ℕ) → i < n → get_or (list_to f n) i 0 ≡ f i
to_at f zero i h = absurd (omega arith)
to_at f (suc n) i h = go (dec_lt i n) (to_at f n i)
  where
    go : Dec (i < n) → (i < n → get_or (list_to f n) i 0 ≡ f i) → get_or (list_to f (suc n)) i 0 ≡ f i
    go (yes y) ih = get_or-append (list_to f n) (f n ∷ []) 0 i (omega (arith, to_length f n)) ∙ ih y
    go (no y) ih =
        let e : length (list_to f n) + 0 ≡ i = omega (arith, to_length f n) in
        let last : n ≡ i = omega arith in
        ap (λ (k : ℕ). get_or (list_to f n ++ (f n ∷ [])) k 0) (sym e) ∙ (get_or-append-add (list_to f n) (f n ∷ []) 0 0 ∙ ap f last)

pub numbers_rise : NumbersRise
numbers_rise v =
    record {
      count = kept_count_lem v;
      each = to_at (λ (i : ℕ). oldest v + i) (kept_count v);
      last = kept_last v;
      exactly = λ n. (
        λ e.
            let two = (and-eq-true_iff (leb (oldest v) n) (leb n (last_used v))).0 e in
            (leb-true (oldest v) n two.0, omega (arith, leb-true (oldest v) n two.0, leb-true n (last_used v) two.1)),
        λ b. (and-eq-true_iff (leb (oldest v) n) (leb n (last_used v))).1 (le-leb (oldest v) n b.0, le-leb n (last_used v) (omega (arith, b.0, b.1))),
      );
      sixteen = λ n. (
        λ e.
            let two = (and-eq-true_iff (leb (oldest v) n) (leb n (last_used v))).0 e in
            let low = leb-true (oldest v) n two.0 in
            let high = leb-true n (last_used v) two.1 in
            (omega (arith, low), high, omega (arith, low, high)),
        λ b. (and-eq-true_iff (leb (oldest v) n) (leb n (last_used v))).1 (le-leb (oldest v) n (omega (arith, b.0, b.1, b.2)), le-leb n (last_used v) b.1),
      );
      apart = own_slot v;
    }

pub taken_as_is : TakenAsIs
taken_as_is p v size = record { next = taken_last p v size; version = version_taken p v size; others = version_kept p v size }

pub restored_as_kept : RestoredAsKept
restored_as_kept v n p size =
    record {
      settings = λ room. settings_restored p v size room n;
      others = restored_others v size n p;
      rest = restored_rest v size n p;
    }
