-- The search of situation 0 in the terms of `first_in`: the library's `position` finds the same place. Assumes nothing.
use Rattle.std.proofs.Common.{ℕ, ◌≡◌, refl, ap, arith, ◌<◌, ◌≤◌, List, length, take, false, cond, Some, None}
use lib.Dec.{eqb, ltb}
use borrow.Author.Tests.{le-ltb, lt-ltb, ne_eqb}
use lib.Seq.{length-take-le}
use Rattle.std.specs.List.{position, position_or_len}
use Rattle.std.specs.Option.{is_some}
use Rattle.std.proofs.lemmas.List.Recursion.{is_position_or_len}
use Rattle.drive.specs.declared.faults.Faults.{Faults}
use Rattle.drive.specs.Faults.{situation_codes, buffer_codes, first_in, put_of}
use Rattle.drive.specs.Cycle.{after_code}

pub first_is : (x : ℕ) (s : List ℕ) → first_in x s ≡ position_or_len (λ y. eqb y x) s
first_is x s = is_position_or_len (first_in x) (λ y. eqb y x) refl (λ y ys. ap (cond (eqb y x) 0) (omega arith)) s

-- what the library answers where a place is below a length, and where not
some_at : (a n i : ℕ) → cond (ltb a n) (Some a) None ≡ Some i → (a ≡ i) × (a < n)
some_at a n i e = grind arith

none_at : (a n : ℕ) → is_some (cond (ltb a n) (Some a) None) ≡ false → n ≤ a
none_at a n e = grind arith

-- a code that situation 0 lacks, put where its first 0 stands
pub put_found : (code end : ℕ) (f : Faults) → length f.buffer ≡ buffer_codes → (code ≡ 0 → ⊥)
    → is_some (position (λ c. eqb c code) (take situation_codes f.buffer)) ≡ false
    → position (λ c. eqb c 0) (take situation_codes f.buffer) ≡ Some end
    → put_of f end code ≡ after_code code f
unfolding after_code
put_found code end f long some lacks room =
    let s = take situation_codes f.buffer in
    let size : length s ≡ situation_codes = length-take-le situation_codes f.buffer (omega arith) in
    let no = none_at (position_or_len (λ c. eqb c code) s) (length s) lacks in
    let at = some_at (position_or_len (λ c. eqb c 0) s) (length s) end room in
    rw (
      ne_eqb code 0 some,
      le-ltb (first_in code s) situation_codes (rw (first_is code s) (omega arith)),
      lt-ltb (first_in 0 s) situation_codes (rw (first_is 0 s) (omega arith)),
      first_is 0 s,
      at.0,
    )
