-- The elements that an address names stand inside their row, and no row has more of them than the fault buffer.
use Rattle.access.specs.declared.error.ParameterError.TheVariants.{NoSuchParameter}
use Rattle.access.specs.declared.error.ParameterError.{ParameterError}
use Rattle.std.specs.Prelude.{Option, Some, None, Result, Ok, Err}
use mathlib.Core.Path.{◌≡◌, refl, ap, subst, sym, ◌∙◌}
use mathlib.Core.Bool.{Bool, true, false, cond, not, ◌&&◌, ◌||◌}
use mathlib.Core.List.{List, [], ◌∷◌, Memᴰ}
use mathlib.Mathlib.Data.Bool.Basic.{or-eq-false-eq-eq-false-and-eq-false as or-eq-false-iff}
use Prim.Native.Nat.{ℕ, ◌+◌, ◌≤◌}
use native.Mathlib.Omega.{arith}
use lib.Dec.{eqb, leb, ltb, lit≤}
use borrow.Author.Tests.{leb-true, ltb-false, eqb-true, eqb-false, not-false}
use Rattle.codes.proofs.Demand.{both}
use Rattle.drive.specs.Faults.{buffer_codes}
use Rattle.blocks.specs.declared.reader.Address.{Address}
use Rattle.checker.specs.Check.{elements_asked}
use Rattle.catalogue.specs.declared.Row.{Row}
use Rattle.catalogue.specs.Table.{rows, find_in, find_of}
use Rattle.catalogue.proofs.Rows.{found_row, row_some}
use Rattle.access.specs.Address.{checked_in, checked}

-- what holds of both sides of a test
pub pick : {A : Type 0} (P : A → Type 0) (b : Bool) {x y : A} → (b ≡ true → P x) → (b ≡ false → P y) → P (cond b x y)
pick P true f g = f refl
pick P false f g = g refl

-- the table's rule, as one test of all its rows
abbrev small : List Row → Bool
small [] = true
small (r ∷ rs) = leb r.count buffer_codes && small rs

rows_small : small rows ≡ true
unfolding rows
rows_small = refl

find_small : (rs : List Row) (pnu : ℕ) (r : Row) → small rs ≡ true → find_in rs pnu ≡ Some r → r.count ≤ buffer_codes
find_small [] pnu r s e = absurd (let z : ◌≡◌ {A = ℕ} 0 1 = cc in omega arith)
find_small (q ∷ rs) pnu r s e = go (eqb q.pnu pnu) (find_small rs pnu r) e
  where
    go : (b : Bool) → (small rs ≡ true → find_in rs pnu ≡ Some r → r.count ≤ buffer_codes) → cond b (Some q) (find_in rs pnu) ≡ Some r → r.count ≤ buffer_codes
    go true more h = let z : q ≡ r = cc in omega (arith, leb-true q.count buffer_codes (both (leb q.count buffer_codes) (small rs) s).0, ap (λ (x : Row). x.count) z)
    go false more h = more (both (leb q.count buffer_codes) (small rs) s).1 h

pub found_small : (pnu : ℕ) (r : Row) → find_of pnu ≡ Some r → r.count ≤ buffer_codes
unfolding find_of
found_small pnu r e = find_small rows pnu r rows_small e

-- what the tests of an address leave: elements of a row of the table, or an error word
pub record Named (a : Address) (r : Row) (n : ℕ) : Type 0 where
  pub found : find_of a.pnu ≡ Some r
  pub row : Memᴰ r rows
  pub some : 1 ≤ n
  pub room : a.subindex + n ≤ r.count
  pub short : r.count ≤ buffer_codes
  pub asked : n ≡ elements_asked a.elements

abbrev pub CheckedFits : Address → Result (Row × ℕ) ParameterError → Type 0
CheckedFits a (Ok (r, n)) = Named a r n
CheckedFits a (Err e) = Unit {0}

one_asked : (n : ℕ) → n ≤ 1 → 1 ≡ elements_asked n
one_asked n few = pick (λ x. 1 ≡ x) (eqb n 0) (λ t. refl) (λ t. let some = eqb-false n 0 t in omega arith)

module _ (a : Address) where
  module _ (r : Row) (e : find_of a.pnu ≡ Some r) where
    named : (n : ℕ) → 1 ≤ n → a.subindex + n ≤ r.count → n ≡ elements_asked a.elements → CheckedFits a (Ok (r, n))
    named n some room asked =
        record { found = e; row = found_row a.pnu r e; some = some; room = room; short = found_small a.pnu r e; asked = asked }

    one : not (eqb a.subindex 0) || ltb 1 a.elements ≡ false → CheckedFits a (Ok (r, 1))
    one t =
        let tests = (or-eq-false-iff (not (eqb a.subindex 0)) (ltb 1 a.elements)).0 t in
        let first = not-false (eqb a.subindex 0) tests.0 in
        named 1 (lit≤ tt) (omega (arith, eqb-true a.subindex 0 first, row_some r (found_row a.pnu r e)))
        (one_asked a.elements (ltb-false 1 a.elements tests.1))

    row_fits : CheckedFits a (checked_in a (Some r))
    row_fits =
        pick (CheckedFits a) (eqb a.attribute 0x20) (λ t. tt) (λ t.
        pick (CheckedFits a) (eqb a.attribute 0x30) (λ u. tt) (λ u.
        pick (CheckedFits a) (not (eqb a.attribute 0x10)) (λ v. tt) (λ v.
        pick (CheckedFits a) (r.simple && (not (eqb a.subindex 0) || ltb 1 a.elements)) (λ w. tt) (λ w.
        pick (CheckedFits a) r.simple (λ x. one (rw x at w)) (λ x.
        pick (CheckedFits a) (eqb a.elements 0) (λ y. tt) (λ y.
        pick (CheckedFits a) (ltb r.count (a.subindex + a.elements)) (λ z. tt) (λ z.
        let nonzero = eqb-false a.elements 0 y in
        named a.elements (omega arith) (ltb-false r.count (a.subindex + a.elements) z) (rw y))))))))

  pub checked_fits : CheckedFits a (checked a)
  unfolding checked
  checked_fits = go (find_of a.pnu) refl
    where
      go : (found : Option Row) → find_of a.pnu ≡ found → CheckedFits a (checked_in a found)
      go None e = tt
      go (Some r) e = row_fits r e

  pub checked_named : (r : Row) (n : ℕ) → checked a ≡ Ok (r, n) → Named a r n
  checked_named r n e = subst (CheckedFits a) e checked_fits

  pub checked_inside : (r : Row) (n : ℕ) → checked a ≡ Ok (r, n) → a.subindex + n ≤ buffer_codes
  checked_inside r n e = let it = checked_named r n e in omega (arith, it.room, it.short)

-- what the catalogue found decides, for a read and for a change
module _ (a : Address) (f : Option Row) (e : f ≡ find_of a.pnu) where
  pub check_nothing : f ≡ None → Err NoSuchParameter ≡ checked a
  unfolding checked
  check_nothing n = ap (checked_in a) (sym n ∙ e)

  pub check_row : (r : Row) (q : Result (Row × ℕ) ParameterError) → f ≡ Some r → q ≡ checked_in a (Some r) → q ≡ checked a
  unfolding checked
  check_row r q n w = w ∙ ap (checked_in a) (sym n ∙ e)
