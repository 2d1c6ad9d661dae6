-- What adding the counts of a record comes to, for each way that the code goes, and what it makes of the record's step.
use mathlib.Core.Path.{◌≡◌, refl, sym, ap, ◌∙◌}
use mathlib.Core.Bool.{Bool, true, false, ◌&&◌, false≢true}
use mathlib.Core.List.{List, []}
use Prim.Native.Nat.{ℕ, ◌+◌, ◌-◌, ◌*◌, ◌≤◌, ◌<◌}
use native.Mathlib.Omega.{arith}
use lib.Dec.{leb}
use lib.ListN.{length, get_or, take, drop}
use borrow.Author.Tests.{leb-true, le-leb, lt-leb}
use borrow.Rule.Slice.PartMut.{put_mid}
use borrow.Table.Steps.{cases}
use Rattle.codes.proofs.Demand.{both}
use Rattle.station.specs.Parts.{farms, window, with_window}
use Rattle.station.specs.Calls.{Answer, to_cycle, to_frame, to_list, to_return, owner, kinds}
use Rattle.station.specs.Isolation.{answer}
use Rattle.station.proofs.Windows.{length_window}
use Rattle.station.proofs.Isolation.{ends}
use Rattle.journal.specs.declared.Acted.{Acted}
use Rattle.journal.specs.declared.Acted.TheVariants.{Cycle, Frame, Return}
use Rattle.journal.specs.Line.{is_record, call_of}
use Rattle.journal.specs.History.{acted_by, acted_of}
use Rattle.journal.proofs.Records.{none_lists}
use Rattle.std.specs.Prelude.{Option, Some, None, Result, Ok, Err}
use Rattle.season.specs.declared.Stop.{Stop}
use Rattle.season.specs.declared.Stop.TheVariants.{Bad, Over}
use Rattle.season.specs.Season.{answer_counts, farm_counts, with_counts, plus, reaches, Season, added, tally, next, and_then, count, step_of}
use Rattle.season.specs.Laws.{Limit, Limits, EndsAtOver}
use Rattle.season.proofs.Sums.{plus_length, plus_at, some_reaches, all_below}

ten : (k : ℕ) → (k - 1) * 10 + 10 - (k - 1) * 10 ≡ 10
ten k = omega arith

-- the counts of farm k, as the code lends them
abbrev pub lent_counts : ℕ → List ℕ → List ℕ
lent_counts k totals = take ((k - 1) * 10 + 10 - (k - 1) * 10) (drop ((k - 1) * 10) totals)

module _ (k : ℕ) (counts totals : List ℕ) where
  abbrev pub Comes : Result Unit Stop → List ℕ → Type 0
  Comes last after = (last ≡ (added k counts totals).last) × (after ≡ (added k counts totals).totals)

  pub below : k ≡ 0 → Comes (Ok tt) totals
  unfolding added
  below e = rw e (refl, refl)

  pub above : 16 < k → Comes (Ok tt) totals
  unfolding added
  above h = rw (le-leb 1 k (omega arith), lt-leb k farms h) (refl, refl)

  module _ (low : 1 ≤ k) (high : k ≤ 16) where
    pub over : reaches (plus (lent_counts k totals) counts) ≡ true → Comes (Err Over) totals
    unfolding added window
    over e = rw (le-leb 1 k low, le-leb k farms high, rw (ten k) at e) (refl, refl)

    pub within : reaches (plus (lent_counts k totals) counts) ≡ false → (ns : List ℕ) → ns ≡ plus (lent_counts k totals) counts
        → Comes (Ok tt) (put_mid ((k - 1) * 10) ((k - 1) * 10 + 10 - (k - 1) * 10) totals ns)
    unfolding added window with_window
    within e ns sums = rw (ten k, sums, ten k, le-leb 1 k low, le-leb k farms high, rw (ten k) at e) (refl, refl)

-- what is counted of what a record did
abbrev pub of_acted : Option Acted → List ℕ → Season
of_acted (Some (Cycle k c)) totals = added k (answer_counts (to_cycle c)) totals
of_acted (Some (Frame k f)) totals = added k (answer_counts (to_frame f [])) totals
of_acted (Some (Return k r)) totals = added k (answer_counts (to_return r)) totals
of_acted None totals = record { totals = totals; last = Err Bad }

of_acted_lem : (r s totals : List ℕ) (a : Answer) → answer kinds (call_of r) s ≡ a → added (owner (call_of r)) (answer_counts a) totals ≡ of_acted (acted_by (call_of r) a) totals
of_acted_lem r s totals (to_cycle d) e = refl
of_acted_lem r s totals (to_frame f reply) e = refl
of_acted_lem r s totals (to_list l) e = absurd (none_lists r s l e)
of_acted_lem r s totals (to_return d) e = refl

pub step_of_lem : (r s totals : List ℕ) → step_of r s totals ≡ of_acted (acted_of r s) totals
unfolding step_of acted_of tally
step_of_lem r s totals =
    cases (is_record r) (λ is. rw is (of_acted_lem r s totals (answer kinds (call_of r) s) refl)) (λ isnt. rw isnt)

-- a farm's counts begin and end within the totals
pub inside : (k : ℕ) (totals : List ℕ) → 1 ≤ k → k ≤ farms → length totals ≡ farms * 10 → (k - 1) * 10 + 10 ≤ length totals
inside k totals low high size = omega (arith, ends k farms 10 low high)

-- and ten more are added to them, each to its own
module _ (k : ℕ) (counts totals : List ℕ) (low : 1 ≤ k) (high : k ≤ farms) (ten : length counts ≡ 10) (size : length totals ≡ farms * 10) where
  abbrev both_ten : length (farm_counts k totals) ≡ length counts
  both_ten = length_window ((k - 1) * 10) 10 totals (inside k totals low high size) ∙ sym ten

  pub sums_ten : length (plus (farm_counts k totals) counts) ≡ 10
  sums_ten = plus_length (farm_counts k totals) counts both_ten ∙ ten

  sum_at : (i : ℕ) → i < 10 → get_or (plus (farm_counts k totals) counts) i 0 ≡ get_or (farm_counts k totals) i 0 + get_or counts i 0
  sum_at i h = plus_at (farm_counts k totals) counts both_ten i (rw ten h)

  limit : Limit k counts totals
  unfolding added
  limit =
      record {
        below = λ small.
            let none = all_below (plus (farm_counts k totals) counts) (λ i h. let h10 = rw sums_ten at h in rw (sum_at i h10) (small i h10)) in
            rw (le-leb 1 k low, le-leb k farms high, none);
        reached = λ i h big.
            let one = some_reaches (plus (farm_counts k totals) counts) i (rw sums_ten h) (rw (sum_at i h) big) in
            rw (le-leb 1 k low, le-leb k farms high, one);
      }

pub limits : Limits
limits k low high counts totals ten size = limit k counts totals low high ten size

abbrev pub is_counted : Result Unit Stop → Bool
is_counted (Ok done) = true
is_counted (Err Bad) = false
is_counted (Err Over) = false

-- the three ways that adding goes
module _ (k : ℕ) (counts totals : List ℕ) (P : Season → Type 0)
    (as_was : (l : Result Unit Stop) → P (record { totals = totals; last = l }))
    (grown : 1 ≤ k → k ≤ farms → P (record { totals = with_counts k (plus (farm_counts k totals) counts) totals; last = Ok tt })) where
  pub ways : P (added k counts totals)
  unfolding added
  ways =
      cases (leb 1 k && leb k farms)
      (λ is.
      let b = both (leb 1 k) (leb k farms) is in
      rw is
      (cases (reaches (plus (farm_counts k totals) counts)) (λ over. rw over (as_was (Err Over)))
      (λ fits. rw fits (grown (leb-true 1 k b.0) (leb-true k farms b.1)))))
      (λ isnt. rw isnt (as_was (Ok tt)))

pub ends_at_over : EndsAtOver
unfolding count tally
ends_at_over e es totals over =
    ways (owner e.call) (answer_counts e.answer) totals
    (λ c. c.last ≡ Err Over → and_then c (count es) ≡ record { totals = totals; last = Err Over })
    (λ l at. ap (λ (x : Result Unit Stop). next x totals (count es)) at)
    (λ low high at. absurd (false≢true (ap is_counted (sym at))))
    over
