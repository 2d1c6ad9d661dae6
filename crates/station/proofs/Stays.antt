-- A fresh station's parts are fresh; every call keeps every part well-formed; so from a fresh station on no call is refused by number 2.
use mathlib.Core.Path.{◌≡◌, refl, sym, ap, subst, ◌∙◌}
use mathlib.Core.Bool.{Bool, true, false, ◌&&◌}
use mathlib.Core.List.{List, [], ◌∷◌}
use Prim.Native.Nat.{ℕ, zero, suc, ◌+◌, ◌-◌, ◌*◌, ◌<◌}
use native.Mathlib.Omega.{arith}
use native.Mathlib.Nat.{zero-mul, suc-mul}
use lib.Dec.{eqb, leb}
use lib.ListN.{length, take, drop, length-append}
use lib.Seq.{take_at, drop-append-add}
use borrow.Author.Tests.{eq-eqb, eqb-true, eqb-false, leb-true}
use Rattle.codes.specs.Code.{AllOf}
use Rattle.codes.proofs.Demand.{both}
use Rattle.part.proofs.FreshPart.{fresh_length, fresh_well_formed}
use Rattle.part.specs.Layout.{part_size}
use Rattle.part.specs.Fresh.{fresh_part}
use Rattle.part.specs.WellFormed.{well_formed}
use Rattle.station.specs.Parts.{farms, station_size, window, part_of, fresh_parts, fresh_station}
use Rattle.station.specs.Runs.{run_answers, run_end}
use Rattle.station.specs.Isolation.{answer, after, machine}
use Rattle.station.specs.Calls.{Call, number_in, kind_of, owner, kinds}
use Rattle.station.specs.Laws.{table_number, FreshParts, WellFormedStation, CallKeepsWellFormed, NeverIllFormed}
use Rattle.station.proofs.Isolation.{Right, length_after, own, other}
use Rattle.station.proofs.Owes.{owes, sized}
use Rattle.station.proofs.Refusals.{numbered_by_table}

-- fresh parts, one after the other
pub parts_length : (n : ℕ) → length (fresh_parts n) ≡ n * part_size
parts_length zero = sym (zero-mul part_size)
parts_length (suc n) = omega (arith, length-append fresh_part (fresh_parts n), fresh_length, parts_length n, suc-mul n part_size)

pub fresh_at : (j n : ℕ) → j < n → window (j * part_size) part_size (fresh_parts n) ≡ fresh_part
unfolding window
fresh_at j zero h = absurd (omega arith)
fresh_at zero (suc n) h = rw zero-mul (take_at fresh_part (fresh_parts n) part_size fresh_length)
fresh_at (suc j) (suc n) h =
    let e : suc j * part_size ≡ length fresh_part + j * part_size = omega (arith, suc-mul j part_size, fresh_length) in
    ap (λ (a : ℕ). take part_size (drop a (fresh_parts (suc n)))) e
    ∙ (ap (take part_size) (drop-append-add fresh_part (fresh_parts n) (j * part_size)) ∙ fresh_at j n (omega arith))

pub made : (s : List ℕ) → length s ≡ station_size → fresh_station s ≡ fresh_parts farms
unfolding fresh_station
made s h = rw (eq-eqb (length s) station_size h)

pub fresh_parts_lem : FreshParts
fresh_parts_lem s h k low high = ap (part_of k) (made s h) ∙ fresh_at (k - 1) farms (omega arith)

fresh_well : (s : List ℕ) → length s ≡ station_size → WellFormedStation (fresh_station s)
fresh_well s h =
    record {
      size = ap length (made s h) ∙ parts_length farms;
      parts = λ k low high. rw (fresh_parts_lem s h k low high) (fresh_well_formed k);
    }

-- a call on its owner's part
abbrev Well : ℕ → List ℕ → Type 0
Well k p = well_formed k p ≡ true

pub stays : CallKeepsWellFormed
stays c s fits w =
    record {
      size = length_after kinds sized c s ∙ w.size;
      parts = λ k low high. go k (record { low = low; high = high; size = w.size }) (eqb (owner c) k) refl;
    }
  where
    go : (k : ℕ) → Right k (length s) → (b : Bool) → eqb (owner c) k ≡ b → Well k (part_of k (after kinds c s))
    go k g true e =
        let same : owner c ≡ k = eqb-true (owner c) k e in
        let mine : Right (owner c) (length s) = subst (λ (j : ℕ). Right j (length s)) (sym same) g in
        subst (λ (j : ℕ). Well j (part_of j (after kinds c s))) same
        (rw (own kinds sized c s mine) ((owes c).formed (part_of (owner c) s) fits (w.parts (owner c) mine.low mine.high)))
    go k g false e = rw (other kinds sized c s k g (eqb-false (owner c) k e)) (w.parts k g.low g.high)

-- number 2 is given to no call on well-formed parts
abbrev Not2 : ℕ → Type 0
Not2 n = n ≡ 2 → ⊥

call_not2 : (c : Call) (s : List ℕ) → WellFormedStation s → Not2 (number_in (answer kinds c s))
call_not2 c s w two = go (leb 1 (owner c) && leb (owner c) farms) refl
  where
    number : table_number c s ≡ 2
    number = sym (numbered_by_table c s) ∙ two

    go : (b : Bool) → leb 1 (owner c) && leb (owner c) farms ≡ b → ⊥
    go false e = let one : ◌≡◌ {A = ℕ} 1 2 = rw e at number in omega arith
    go true e =
        let here = both (leb 1 (owner c)) (leb (owner c) farms) e in
        let well = w.parts (owner c) (leb-true 1 (owner c) here.0) (leb-true (owner c) farms here.1) in
        let tests : (kind_of c).tests (part_of (owner c) s) ≡ 2 = rw (e, eq-eqb (length s) station_size w.size, well) at number in
        let none = (owes c).later (part_of (owner c) s) (omega arith) in
        omega arith

-- a run of calls on well-formed parts
run_stays : (cs : List Call) (s : List ℕ) → AllOf (λ c. (kind_of c).Fits) cs → WellFormedStation s → WellFormedStation (run_end (machine kinds) cs s)
unfolding run_end
run_stays [] s fits w = w
run_stays (c ∷ cs) s fits w = run_stays cs (after kinds c s) fits.1 (stays c s fits.0 w)

run_not2 : (cs : List Call) (s : List ℕ) → AllOf (λ c. (kind_of c).Fits) cs → WellFormedStation s
    → AllOf (λ a. Not2 (number_in a)) (run_answers (machine kinds) cs s)
unfolding run_answers
run_not2 [] s fits w = tt
run_not2 (c ∷ cs) s fits w = (call_not2 c s w, run_not2 cs (after kinds c s) fits.1 (stays c s fits.0 w))

pub never_ill_formed : NeverIllFormed
never_ill_formed cs s fits h =
    let w = fresh_well s h in
    record { ends = run_stays cs (fresh_station s) fits w; never2 = run_not2 cs (fresh_station s) fits w }
