-- What a cycle keeps of the fault buffer: its length, and that it is proper. Assumes nothing.
use Rattle.std.proofs.lemmas.List.{drop-take}
use Prim.Native.Nat.{ℕ, zero, suc, ◌+◌, ◌-◌, ◌*◌, ◌≤◌}
use native.Mathlib.Omega.{arith}
use mathlib.Core.Path.{◌≡◌, refl, sym, ap, ◌∙◌}
use mathlib.Core.Bool.{Bool, true, false, not, and-eq-true_iff}
use mathlib.Core.List.{List, [], ◌∷◌}
use mathlib.Mathlib.Data.Bool.Basic.{or-eq-false-eq-eq-false-and-eq-false as or-eq-false-iff}
use lib.Dec.{eqb}
use lib.ListN.{length, take, drop, set, length-set, length-take}
use lib.Seq.{take-take, take-set-lt, drop-set-lt, length-take-le}
use borrow.Author.Tests.{ltb-true, ltb-false, eqb-false, ne_eqb, not-true}
use borrow.Table.Steps.{cases}
use Rattle.drive.specs.declared.faults.Faults.{Faults}
use Rattle.drive.specs.declared.Drive.{Drive}
use Rattle.drive.specs.declared.Input.{Input}
use Rattle.drive.specs.Faults.{situations, situation_codes, buffer_codes, acknowledged_of, first_in, code_place, holds, end_of, has_room, put_of, is_in, zeros, proper, all_proper, proper_faults}
use Rattle.drive.specs.Cycle.{after_ack, after_code, cycle_of}
use Rattle.drive.specs.Laws.{KeepsLength, KeepsProper}

-- what holds of a buffer, and still does once a situation is acknowledged or a code is put, holds after a cycle
module _ (P : Faults → Type 0)
    (acked : (f : Faults) → P f → P (acknowledged_of f))
    (put : (x : ℕ) (f : Faults) → eqb x 0 ≡ false → holds x f ≡ false → has_room f ≡ true → P f → P (put_of f (end_of f) x)) where
  after_ack_lem : (acknowledged : Bool) (f : Faults) → P f → P (after_ack acknowledged f)
  unfolding after_ack
  after_ack_lem true f p = acked f p
  after_ack_lem false f p = p

  after_code_lem : (x : ℕ) (f : Faults) → P f → P (after_code x f)
  unfolding after_code
  after_code_lem x f p =
      cases (eqb x 0) (λ e. rw e p)
      (λ some. rw some
      (cases (holds x f) (λ e. rw e p)
      (λ lacks. rw lacks
      (cases (has_room f) (λ room. rw room (put x f some lacks room p))
      (λ e. rw e p)))))

  after_cycle : (d : Drive) (i : Input) → P d.faults → P (cycle_of d i).drive.faults
  unfolding cycle_of
  after_cycle d i p = after_code_lem i.fault _ (after_ack_lem _ d.faults p)

pub keeps_length : KeepsLength
keeps_length =
    after_cycle (λ (f : Faults). length f.buffer ≡ buffer_codes)
    (λ f long. omega (arith, length-take-le (buffer_codes - situation_codes) f.buffer (omega arith)))
    (λ x f some lacks room long. length-set f.buffer (end_of f) x ∙ long)

-- a search that finds nothing
absent : (x : ℕ) (s : List ℕ) → length s ≤ first_in x s → is_in x s ≡ false
absent x [] h = refl
absent x (y ∷ ys) h =
    cases (eqb y x)
    (λ e. let no : ⊥ = omega (arith, rw e at h) in absurd no)
    (λ e. rw e (absent x ys (omega (arith, rw e at h))))

zeros_proper : (s : List ℕ) → zeros s ≡ true → proper s ≡ true
zeros_proper [] h = refl
zeros_proper (y ∷ ys) h =
    let both = (and-eq-true_iff (eqb y 0) (zeros ys)).0 h in
    rw both.0 both.1

set_absent : (y x k : ℕ) (s : List ℕ) → is_in y s ≡ false → eqb x y ≡ false → is_in y (set s k x) ≡ false
set_absent y x k [] h e = refl
set_absent y x zero (z ∷ zs) h e = rw e ((or-eq-false-iff (eqb z y) (is_in y zs)).0 h).1
set_absent y x (suc k) (z ∷ zs) h e =
    let neither = (or-eq-false-iff (eqb z y) (is_in y zs)).0 h in
    rw neither.0 (set_absent y x k zs neither.1 e)

-- a code that the situation lacks, put at its end
put_proper : (x : ℕ) (s : List ℕ) → eqb x 0 ≡ false → is_in x s ≡ false → proper s ≡ true → proper (set s (first_in 0 s) x) ≡ true
put_proper x [] nz h p = refl
put_proper x (y ∷ ys) nz h p =
    let neither = (or-eq-false-iff (eqb y x) (is_in x ys)).0 h in
    cases (eqb y 0)
    (λ e. rw (e, nz, neither.1) (zeros_proper ys (rw e at p)))
    (λ e.
    let both = (and-eq-true_iff (not (is_in y ys)) (proper ys)).0 (rw e at p) in
    let other : eqb x y ≡ false = ne_eqb x y (λ z. eqb-false y x neither.0 (sym z)) in
    let no : is_in y (set ys (first_in 0 ys) x) ≡ false = set_absent y x (first_in 0 ys) ys (not-true (is_in y ys) both.0) other in
    rw (e, e, no) (put_proper x ys nz neither.1 both.1))

-- the first n of n + 1 situations
firsts : (n : ℕ) (b : List ℕ) → all_proper (suc n) b ≡ true → all_proper n (take (situation_codes * n) b) ≡ true
firsts zero b p = refl
firsts (suc n) b p =
    let e : situation_codes * suc n ≡ situation_codes + situation_codes * n = omega arith in
    let both = (and-eq-true_iff (proper (take situation_codes b)) (all_proper (suc n) (drop situation_codes b))).0 p in
    rw (ap (λ (k : ℕ). take k b) e, take-take situation_codes (situation_codes + situation_codes * n) b (omega arith), drop-take situation_codes (situation_codes * n) b)
    ((and-eq-true_iff (proper (take situation_codes b)) (all_proper n (take (situation_codes * n) (drop situation_codes b)))).1 (both.0, firsts n (drop situation_codes b) both.1))

put_all_proper : (x : ℕ) (f : Faults) → eqb x 0 ≡ false → holds x f ≡ false → has_room f ≡ true → proper_faults f ≡ true
    → proper_faults (put_of f (end_of f) x) ≡ true
put_all_proper x f some lacks room p =
    let s = take situation_codes f.buffer in
    let at = ltb-true (end_of f) situation_codes room in
    let both = (and-eq-true_iff (proper s) (all_proper (situations - 1) (drop situation_codes f.buffer))).0 p in
    let new = absent x s (omega (arith, ltb-false (code_place x f.buffer) situation_codes lacks, length-take situation_codes f.buffer)) in
    rw (take-set-lt situation_codes f.buffer (end_of f) x at, drop-set-lt situation_codes f.buffer (end_of f) x at)
    ((and-eq-true_iff (proper (set s (first_in 0 s) x)) (all_proper (situations - 1) (drop situation_codes f.buffer))).1 (put_proper x s some new both.0, both.1))

pub keeps_proper : KeepsProper
keeps_proper =
    after_cycle (λ (f : Faults). proper_faults f ≡ true)
    (λ f p. firsts (situations - 1) f.buffer p)
    put_all_proper
