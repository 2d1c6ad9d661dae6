-- Rows of the table: each stands after the one before it, so all stand inside the parameter bytes and no two elements share a byte.
use Rattle.std.specs.Prelude.{Some}
use mathlib.Core.Path.{◌≡◌, refl, sym, ap, ◌∙◌}
use mathlib.Core.Bool.{Bool, true, ◌&&◌, and-eq-true_iff}
use mathlib.Core.List.Memᴰ
use mathlib.Core.List.{List, [], ◌∷◌, Memᴰ}
use mathlib.Core.Logic.{◌⊎◌, inl, inr}
use Prim.Native.Nat.{ℕ, suc, ◌+◌, ◌*◌, ◌≤◌, ◌<◌}
use native.Mathlib.Decide.{dec_lt}
use native.Mathlib.Nat.{suc-mul, mul-le-mul_right}
use native.Mathlib.Omega.{arith}
use lib.Dec.{eqb, leb}
use lib.ListN.{drop}
use borrow.Author.Tests.{eqb-true, leb-true}
use borrow.Table.Steps.{cases}
use Rattle.codes.specs.Code.{word}
use Rattle.codes.proofs.Number.{number_before, number_after}
use Rattle.codes.proofs.Put.{word_length, put_drop}
use Rattle.catalogue.specs.declared.Row.{Row}
use Rattle.catalogue.specs.Table.{element_size, bytes_of, rows, bytes_in, parameter_bytes, find_in, find_of}
use Rattle.catalogue.specs.Element.{element_place, element_of, put_element, every_row}

-- a parameter that is found is a row of the table
found_in : (rs : List Row) (pnu : ℕ) (r : Row) → find_in rs pnu ≡ Some r → Memᴰ r rs
found_in [] pnu r e = absurd (let z : ◌≡◌ {A = ℕ} 0 1 = cc in omega arith)
found_in (x ∷ rs) pnu r e =
    cases (eqb x.pnu pnu)
    (λ t. let same : Some x ≡ Some r = rw t at e in Memᴰ.head (cc))
    (λ t. Memᴰ.tail (found_in rs pnu r (rw t at e)))

pub found_row : (pnu : ℕ) (r : Row) → find_of pnu ≡ Some r → Memᴰ r rows
unfolding find_of
found_row pnu r e = found_in rows pnu r e

-- a test that every row of a list passes
pub every_row_lem : (ok : Row → Bool) (rs : List Row) → every_row ok rs ≡ true → (q : Row) → Memᴰ q rs → ok q ≡ true
every_row_lem ok [] e q m = absurd (Memᴰ.not-nil m)
every_row_lem ok (r ∷ rs) e q m = go (every_row_lem ok rs) (Memᴰ.cases_cons m)
  where
    two : (ok r ≡ true) × (every_row ok rs ≡ true)
    two = (and-eq-true_iff (ok r) (every_row ok rs)).0 e

    go : (every_row ok rs ≡ true → (q : Row) → Memᴰ q rs → ok q ≡ true) → (q ≡ r) ⊎ Memᴰ q rs → ok q ≡ true
    go below (inl s) = ap ok s ∙ two.0
    go below (inr m) = below two.1 q m

-- every parameter has an element
pub row_some : (q : Row) → Memᴰ q rows → 1 ≤ q.count
unfolding rows
row_some q m = leb-true 1 q.count (every_row_lem (λ r. leb 1 r.count) rows refl q m)

-- rows that stand one after the other from a place on
abbrev tiled : ℕ → List Row → Bool
tiled at [] = true
tiled at (r ∷ rs) = eqb r.offset at && tiled (at + bytes_of r) rs

rows_tiled : tiled 0 rows ≡ true
unfolding rows
rows_tiled = refl

tiled_parts : (at : ℕ) (r : Row) (rs : List Row) → tiled at (r ∷ rs) ≡ true → (r.offset ≡ at) × (tiled (at + bytes_of r) rs ≡ true)
tiled_parts at r rs e =
    let two = (and-eq-true_iff (eqb r.offset at) (tiled (at + bytes_of r) rs)).0 e in
    (eqb-true r.offset at two.0, two.1)

-- where a row stands among them
stands : (at : ℕ) (rs : List Row) → tiled at rs ≡ true → (q : Row) → Memᴰ q rs → (at ≤ q.offset) × (q.offset + bytes_of q ≤ at + bytes_in rs)
stands at [] e q m = absurd (Memᴰ.not-nil m)
stands at (r ∷ rs) e q m = go (Memᴰ.cases_cons m) (stands (at + bytes_of r) rs two.1 q)
  where
    two : (r.offset ≡ at) × (tiled (at + bytes_of r) rs ≡ true)
    two = tiled_parts at r rs e

    go : (q ≡ r) ⊎ Memᴰ q rs → (Memᴰ q rs → (at + bytes_of r ≤ q.offset) × (q.offset + bytes_of q ≤ at + bytes_of r + bytes_in rs)) → (at ≤ q.offset) × (q.offset + bytes_of q ≤ at + (bytes_of r + bytes_in rs))
    go (inl s) below = rw s (omega (arith, two.0), omega (arith, two.0))
    go (inr m) below = let b = below m in (omega arith, omega arith)

-- two numbers of bytes, from two places on, that do not overlap
abbrev pub Apart : ℕ → ℕ → ℕ → ℕ → Type 0
Apart at n from m = (at + n ≤ from) ⊎ (from + m ≤ at)

apart : (at : ℕ) (rs : List Row) → tiled at rs ≡ true → (q r : Row) → Memᴰ q rs → Memᴰ r rs → (q ≡ r) ⊎ Apart q.offset (bytes_of q) r.offset (bytes_of r)
apart at [] e q r m n = absurd (Memᴰ.not-nil m)
apart at (x ∷ rs) e q r m n = go (Memᴰ.cases_cons m) (Memᴰ.cases_cons n) (apart (at + bytes_of x) rs two.1 q r)
  where
    two : (x.offset ≡ at) × (tiled (at + bytes_of x) rs ≡ true)
    two = tiled_parts at x rs e

    later : (y : Row) → Memᴰ y rs → x.offset + bytes_of x ≤ y.offset
    later y k = omega (arith, two.0, (stands (at + bytes_of x) rs two.1 y k).0)

    go : (q ≡ x) ⊎ Memᴰ q rs → (r ≡ x) ⊎ Memᴰ r rs → (Memᴰ q rs → Memᴰ r rs → (q ≡ r) ⊎ Apart q.offset (bytes_of q) r.offset (bytes_of r)) → (q ≡ r) ⊎ Apart q.offset (bytes_of q) r.offset (bytes_of r)
    go (inl s) (inl t) below = inl (s ∙ sym t)
    go (inl s) (inr k) below = inr (inl (rw s (later r k)))
    go (inr k) (inl t) below = inr (inr (rw t (later q k)))
    go (inr k) (inr l) below = below k l

-- an element stands inside its row
element_in_row : (q : Row) (j : ℕ) → j < q.count → j * element_size q.kind + element_size q.kind ≤ bytes_of q
element_in_row q j h = omega (arith, suc-mul j (element_size q.kind), mul-le-mul_right {m = suc j} {n = q.count} (element_size q.kind) h)

-- and inside the parameter bytes
pub element_inside : (q : Row) → Memᴰ q rows → (j : ℕ) → j < q.count → element_place q j + element_size q.kind ≤ parameter_bytes
unfolding parameter_bytes
element_inside q m j h = omega (arith, element_in_row q j h, (stands 0 rows rows_tiled q m).1)

-- two elements of one row
same_row : (q : Row) (j i : ℕ) → (j ≡ i) ⊎ Apart (element_place q j) (element_size q.kind) (element_place q i) (element_size q.kind)
same_row q j i = go (dec_lt j i) (dec_lt i j)
  where
    before : (k l : ℕ) → k < l → element_place q k + element_size q.kind ≤ element_place q l
    before k l h = omega (arith, suc-mul k (element_size q.kind), mul-le-mul_right {m = suc k} {n = l} (element_size q.kind) h)

    go : Dec (j < i) → Dec (i < j) → (j ≡ i) ⊎ Apart (element_place q j) (element_size q.kind) (element_place q i) (element_size q.kind)
    go (yes h) d = inr (inl (before j i h))
    go (no n) (yes h) = inr (inr (before i j h))
    go (no n) (no k) = inl (omega arith)

module _ (q r : Row) (q_in : Memᴰ q rows) (r_in : Memᴰ r rows) (j i : ℕ) (h : j < q.count) (k : i < r.count) where
  -- two elements of the table are the same one, or do not overlap
  pub elements_apart : ((q ≡ r) × (j ≡ i)) ⊎ Apart (element_place q j) (element_size q.kind) (element_place r i) (element_size r.kind)
  elements_apart = go (apart 0 rows rows_tiled q r q_in r_in)
    where
      one : q ≡ r → (j ≡ i) ⊎ Apart (element_place q j) (element_size q.kind) (element_place q i) (element_size q.kind) → ((q ≡ r) × (j ≡ i)) ⊎ Apart (element_place q j) (element_size q.kind) (element_place r i) (element_size r.kind)
      one s (inl e) = inl (s, e)
      one s (inr a) = inr (rw (← s) a)

      go : (q ≡ r) ⊎ Apart q.offset (bytes_of q) r.offset (bytes_of r) → ((q ≡ r) × (j ≡ i)) ⊎ Apart (element_place q j) (element_size q.kind) (element_place r i) (element_size r.kind)
      go (inl s) = one s (same_row q j i)
      go (inr (inl a)) = inr (inl (omega (arith, element_in_row q j h)))
      go (inr (inr a)) = inr (inr (omega (arith, element_in_row r i k)))

  -- an element that is stored changes no other
  pub element_elsewhere : (x : ℕ) (p : List ℕ) → ((q ≡ r) × (j ≡ i)) ⊎ (element_of q j (put_element r i x p) ≡ element_of q j p)
  unfolding element_of put_element
  element_elsewhere x p = go elements_apart
    where
      bs : List ℕ
      bs = (word (element_size r.kind)).write x

      go : ((q ≡ r) × (j ≡ i)) ⊎ Apart (element_place q j) (element_size q.kind) (element_place r i) (element_size r.kind) → ((q ≡ r) × (j ≡ i)) ⊎ (element_of q j (put_element r i x p) ≡ element_of q j p)
      go (inl s) = inl s
      go (inr (inl a)) = inr (number_before (element_size q.kind) p (element_place r i) bs (element_place q j) a)
      go (inr (inr a)) = inr (number_after (element_size q.kind) p (element_place r i) bs (element_place q j) (omega (arith, word_length (element_size r.kind) x)))

-- and no byte after the parameters
pub element_rest : (r : Row) → Memᴰ r rows → (i : ℕ) → i < r.count → (x : ℕ) (p : List ℕ) → drop parameter_bytes (put_element r i x p) ≡ drop parameter_bytes p
unfolding put_element
element_rest r m i h x p =
    put_drop p (element_place r i) ((word (element_size r.kind)).write x) parameter_bytes (omega (arith, element_inside r m i h, word_length (element_size r.kind) x))
