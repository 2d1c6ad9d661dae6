-- The table is sorted, so a search may halve it: for a number below that of row k the rows before k say all, for another those from k on.
use Rattle.std.specs.Prelude.{Some, None}
use mathlib.Core.Path.{◌≡◌, refl, sym, ap, ◌∙◌}
use mathlib.Core.Bool.{Bool, true, ◌&&◌, cond, and-eq-true_iff}
use mathlib.Core.List.{List, [], ◌∷◌}
use Prim.Native.Nat.{ℕ, zero, suc, ◌≤◌, ◌<◌}
use native.Mathlib.Omega.{arith}
use lib.Dec.{eqb, ltb}
use lib.ListN.{length, get_or, take, drop}
use borrow.Author.Tests.{ltb-true, ne_eqb}
use Rattle.catalogue.specs.declared.Row.{Row}
use Rattle.catalogue.specs.Table.{rows, no_row, find_in}
use Rattle.catalogue.specs.Element.{every_row}

-- the number of a row is above n
abbrev past : ℕ → Row → Bool
past n r = ltb n r.pnu

-- each number is below all those after it
abbrev sorted : List Row → Bool
sorted [] = true
sorted (r ∷ rs) = every_row (past r.pnu) rs && sorted rs

pub rows_sorted : sorted rows ≡ true
unfolding rows
rows_sorted = refl

every_cons : (ok : Row → Bool) (r : Row) (rs : List Row) → every_row ok (r ∷ rs) ≡ true → (ok r ≡ true) × (every_row ok rs ≡ true)
every_cons ok r rs e = (and-eq-true_iff (ok r) (every_row ok rs)).0 e

sorted_cons : (r : Row) (rs : List Row) → sorted (r ∷ rs) ≡ true → (every_row (past r.pnu) rs ≡ true) × (sorted rs ≡ true)
sorted_cons r rs s = (and-eq-true_iff (every_row (past r.pnu) rs) (sorted rs)).0 s

pub sorted_drop : (k : ℕ) (rs : List Row) → sorted rs ≡ true → sorted (drop k rs) ≡ true
sorted_drop zero rs s = s
sorted_drop (suc k) [] s = refl
sorted_drop (suc k) (r ∷ rs) s = sorted_drop k rs (sorted_cons r rs s).1

-- a row with another number has nothing to add
other_row : (r : Row) (rs : List Row) (pnu : ℕ) → (pnu ≡ r.pnu → ⊥) → find_in rs pnu ≡ find_in (r ∷ rs) pnu
other_row r rs pnu h = rw (ne_eqb r.pnu pnu (λ q. h (sym q)))

-- every row has another number
abbrev Others : List Row → ℕ → Type 0
Others [] pnu = Unit {0}
Others (r ∷ rs) pnu = (pnu ≡ r.pnu → ⊥) × Others rs pnu

pub none : (rs : List Row) (pnu : ℕ) → Others rs pnu → None ≡ find_in rs pnu
none [] pnu o = refl
none (r ∷ rs) pnu o = none rs pnu o.1 ∙ other_row r rs pnu o.0

others_past : (n pnu : ℕ) → pnu ≤ n → (rs : List Row) → every_row (past n) rs ≡ true → Others rs pnu
others_past n pnu h [] e = tt
others_past n pnu h (r ∷ rs) e = let two = every_cons (past n) r rs e in (λ q. omega (arith, ltb-true n r.pnu two.0), others_past n pnu h rs two.1)

past_at : (n k : ℕ) (rs : List Row) → every_row (past n) rs ≡ true → k < length rs → n < (get_or rs k no_row).pnu
past_at n k [] e h = absurd (omega arith)
past_at n zero (r ∷ rs) e h = ltb-true n r.pnu (every_cons (past n) r rs e).0
past_at n (suc k) (r ∷ rs) e h = past_at n k rs (every_cons (past n) r rs e).1 (omega arith)

-- a number below that of row k
pub lower_half : (k : ℕ) (rs : List Row) → sorted rs ≡ true → (pnu : ℕ) → pnu < (get_or rs k no_row).pnu → find_in (take k rs) pnu ≡ find_in rs pnu
lower_half k [] s pnu h = absurd (omega arith)
lower_half zero (r ∷ rs) s pnu h = none (r ∷ rs) pnu (λ q. omega arith, others_past r.pnu pnu (omega arith) rs (sorted_cons r rs s).0)
lower_half (suc k) (r ∷ rs) s pnu h = ap (cond (eqb r.pnu pnu) (Some r)) (lower_half k rs (sorted_cons r rs s).1 pnu h)

-- and one that is not
pub upper_half : (k : ℕ) (rs : List Row) → sorted rs ≡ true → k < length rs → (pnu : ℕ) → (get_or rs k no_row).pnu ≤ pnu → find_in (drop k rs) pnu ≡ find_in rs pnu
upper_half k [] s l pnu h = absurd (omega arith)
upper_half zero (r ∷ rs) s l pnu h = refl
upper_half (suc k) (r ∷ rs) s l pnu h =
    let two = sorted_cons r rs s in
    upper_half k rs two.1 (omega arith) pnu h ∙ other_row r rs pnu (λ q. omega (arith, past_at r.pnu k rs two.0 (omega arith)))
