-- Counts added to totals, each to its own, and whether one reaches 2^64.
use mathlib.Core.Path.{◌≡◌, refl, ap}
use mathlib.Core.Bool.{true, false}
use mathlib.Core.List.{List, [], ◌∷◌}
use Prim.Native.Nat.{ℕ, zero, suc, ◌+◌, ◌≤◌, ◌<◌, ◌^◌}
use native.Mathlib.Omega.{arith}
use native.Mathlib.Numerals.{add-one}
use lib.Dec.{leb}
use lib.ListN.{length, get_or, drop}
use lib.Seq.{drop-cons}
use borrow.Author.Tests.{le-leb, lt-leb}
use borrow.Table.Steps.{cases}
use Rattle.season.specs.Season.{plus, reaches}

pub plus_length : (ms ns : List ℕ) → length ms ≡ length ns → length (plus ms ns) ≡ length ns
plus_length [] [] e = refl
plus_length [] (n ∷ ns) e = absurd (omega arith)
plus_length (m ∷ ms) [] e = absurd (omega arith)
plus_length (m ∷ ms) (n ∷ ns) e = ap suc (plus_length ms ns (omega arith))

pub plus_at : (ms ns : List ℕ) → length ms ≡ length ns → (i : ℕ) → i < length ns → get_or (plus ms ns) i 0 ≡ get_or ms i 0 + get_or ns i 0
plus_at [] [] e i h = absurd (omega arith)
plus_at [] (n ∷ ns) e i h = absurd (omega arith)
plus_at (m ∷ ms) [] e i h = absurd (omega arith)
plus_at (m ∷ ms) (n ∷ ns) e zero h = refl
plus_at (m ∷ ms) (n ∷ ns) e (suc i) h = plus_at ms ns (omega arith) i (omega arith)

-- the counts tested from a place on
pub reach_next : (l : List ℕ) (i : ℕ) → i < length l → get_or l i 0 < 2 ^ 64 → reaches (drop i l) ≡ reaches (drop (i + 1) l)
reach_next l i h small = rw (drop-cons l i 0 h, lt-leb (2 ^ 64) (get_or l i 0) small, add-one i)

pub reach_end : (l : List ℕ) (i : ℕ) → length l ≤ i → reaches (drop i l) ≡ false
reach_end [] zero h = refl
reach_end [] (suc i) h = refl
reach_end (n ∷ l) zero h = absurd (omega arith)
reach_end (n ∷ l) (suc i) h = reach_end l i (omega arith)

-- all of them
pub some_reaches : (l : List ℕ) (i : ℕ) → i < length l → 2 ^ 64 ≤ get_or l i 0 → reaches l ≡ true
some_reaches [] i h big = absurd (omega arith)
some_reaches (n ∷ l) zero h big = rw (le-leb (2 ^ 64) n big)
some_reaches (n ∷ l) (suc i) h big = cases (leb (2 ^ 64) n) (λ is. rw is) (λ isnt. rw (isnt, some_reaches l i (omega arith) big))

pub all_below : (l : List ℕ) → ((i : ℕ) → i < length l → get_or l i 0 < 2 ^ 64) → reaches l ≡ false
all_below [] small = refl
all_below (n ∷ l) small = rw (lt-leb (2 ^ 64) n (small zero (omega arith)), all_below l (λ i h. small (suc i) (omega arith)))
