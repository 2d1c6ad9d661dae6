-- The counts of one farm: those of its own calls' answers, added up; so the others' do not matter.
use mathlib.Core.Path.{◌≡◌, refl, sym, ap, ◌∙◌}
use mathlib.Core.Bool.{false≢true}
use mathlib.Core.List.{List, [], ◌∷◌}
use Prim.Native.Nat.{ℕ, ◌-◌, ◌*◌, ◌≤◌, ◌<◌}
use native.Mathlib.Omega.{arith}
use native.Mathlib.Decide.{dec_lt}
use lib.Dec.{eqb}
use lib.ListN.{length}
use borrow.Author.Tests.{eqb-true, eqb-false, le-leb}
use borrow.Table.Steps.{cases}
use Rattle.station.specs.Parts.{farms}
use Rattle.station.specs.Runs.{run_answers, answers_to, SameSeen}
use Rattle.station.specs.Isolation.{answer, after, machine, Isolated}
use Rattle.station.specs.Calls.{Call, Answer, to_cycle, to_frame, to_list, to_return, owner, kinds}
use Rattle.station.proofs.Windows.{length_with, window_same, window_before, window_after}
use Rattle.station.proofs.Isolation.{ends}
use Rattle.station.proofs.Owes.{isolated_station}
use Rattle.journal.specs.History.{event_of, history}
use Rattle.std.specs.Prelude.{Result, Ok, Err}
use Rattle.season.specs.declared.Stop.{Stop}
use Rattle.season.specs.declared.Stop.TheVariants.{Bad, Over}
use Rattle.season.specs.Season.{answer_counts, farm_counts, with_counts, plus, reaches, Season, added, tally, next, count}
use Rattle.season.specs.Laws.{summed, CountsSummed, FarmsApart}
use Rattle.season.proofs.Adds.{inside, sums_ten, is_counted, ways}

ten_counts : (a : Answer) → length (answer_counts a) ≡ 10
ten_counts (to_cycle c) = refl
ten_counts (to_frame f reply) = refl
ten_counts (to_list l) = refl
ten_counts (to_return r) = refl

-- what adding the ten counts of an answer for farm j does to those of farm k
module _ (j : ℕ) (counts totals : List ℕ) (ten : length counts ≡ 10) (size : length totals ≡ farms * 10) where
  abbrev sums : List ℕ
  sums = plus (farm_counts j totals) counts

  abbrev long : 1 ≤ j → j ≤ farms → length sums ≡ 10
  long low high = sums_ten j counts totals low high ten size

  same_size : length (added j counts totals).totals ≡ farms * 10
  same_size =
      ways j counts totals (λ c. length c.totals ≡ farms * 10) (λ l. size)
      (λ low high. length_with ((j - 1) * 10) 10 sums totals (inside j totals low high size) (long low high) ∙ size)

  -- another farm's
  apart : (k : ℕ) → 1 ≤ k → k ≤ farms → (j ≡ k → ⊥) → farm_counts k (added j counts totals).totals ≡ farm_counts k totals
  apart k low high differs = ways j counts totals (λ c. farm_counts k c.totals ≡ farm_counts k totals) (λ l. refl) (λ lo hi. beside lo hi (dec_lt j k) (dec_lt k j))
    where
      beside : 1 ≤ j → j ≤ farms → Dec (j < k) → Dec (k < j) → farm_counts k (with_counts j sums totals) ≡ farm_counts k totals
      beside lo hi (yes h) m =
          window_after ((j - 1) * 10) 10 sums totals (inside j totals lo hi size) (long lo hi) ((k - 1) * 10) 10
          (ends j (k - 1) 10 lo (omega arith)) (inside k totals low high size)
      beside lo hi (no h) (yes m) =
          window_before ((j - 1) * 10) 10 sums totals (inside j totals lo hi size) (long lo hi) ((k - 1) * 10) 10
          (ends k (j - 1) 10 low (omega arith))
      beside lo hi (no h) (no m) = absurd (differs (omega arith))

  -- its own
  own : 1 ≤ j → j ≤ farms → (added j counts totals).last ≡ Ok tt → farm_counts j (added j counts totals).totals ≡ sums
  unfolding added
  own low high e =
      cases (reaches (plus (farm_counts j totals) counts))
      (λ over.
      let at : (added j counts totals).last ≡ Err Over = rw (le-leb 1 j low, le-leb j farms high, over) in
      absurd (false≢true (ap is_counted (sym at ∙ e))))
      (λ fits. rw (le-leb 1 j low, le-leb j farms high, fits)
      (window_same ((j - 1) * 10) 10 sums totals (inside j totals low high size) (long low high)))

-- what came to its end went on
went_on : (l : Result Unit Stop) (totals : List ℕ) (more : List ℕ → Season) → (next l totals more).last ≡ Ok tt → (l ≡ Ok tt) × (next l totals more ≡ more totals)
went_on (Ok done) totals more e = (refl, refl)
went_on (Err Bad) totals more e = absurd (false≢true (ap is_counted e))
went_on (Err Over) totals more e = absurd (false≢true (ap is_counted e))

module _ (k : ℕ) (low : 1 ≤ k) (high : k ≤ farms) where
  abbrev answers_of : List Call → List ℕ → List Answer
  answers_of cs s = answers_to (machine kinds) (λ c. eqb (owner c) k) cs (run_answers (machine kinds) cs s)

  -- one turn, of the farm's own call and of another's
  tally_own : (c : Call) (s totals : List ℕ) → length totals ≡ farms * 10 → owner c ≡ k → (tally (event_of c s) totals).last ≡ Ok tt
      → farm_counts k (tally (event_of c s) totals).totals ≡ plus (farm_counts k totals) (answer_counts (answer kinds c s))
  unfolding tally
  tally_own c s totals size mine e =
      ap (λ (x : ℕ). farm_counts x (added (owner c) (answer_counts (answer kinds c s)) totals).totals) (sym mine)
      ∙ (own (owner c) (answer_counts (answer kinds c s)) totals (ten_counts (answer kinds c s)) size (rw mine low) (rw mine high) e
      ∙ ap (λ (x : ℕ). plus (farm_counts x totals) (answer_counts (answer kinds c s))) mine)

  tally_other : (c : Call) (s totals : List ℕ) → length totals ≡ farms * 10 → (owner c ≡ k → ⊥) → farm_counts k (tally (event_of c s) totals).totals ≡ farm_counts k totals
  unfolding tally
  tally_other c s totals size other = apart (owner c) (answer_counts (answer kinds c s)) totals (ten_counts (answer kinds c s)) size k low high other

  tally_size : (c : Call) (s totals : List ℕ) → length totals ≡ farms * 10 → length (tally (event_of c s) totals).totals ≡ farms * 10
  unfolding tally
  tally_size c s totals size = same_size (owner c) (answer_counts (answer kinds c s)) totals (ten_counts (answer kinds c s)) size

  -- so the farm's counts are its answers, summed
  folded : (cs : List Call) (s totals : List ℕ) → length totals ≡ farms * 10 → (count (history cs s) totals).last ≡ Ok tt
      → farm_counts k (count (history cs s) totals).totals ≡ summed (answers_of cs s) (farm_counts k totals)
  unfolding count history answers_to run_answers summed
  folded [] s totals size e = refl
  folded (c ∷ cs) s totals size e =
      let t = tally (event_of c s) totals in
      let w = went_on t.last t.totals (count (history cs (after kinds c s))) e in
      let rest = ap (λ (x : Season). farm_counts k x.totals) w.1 ∙ folded cs (after kinds c s) t.totals (tally_size c s totals size) (ap (λ (x : Season). x.last) (sym w.1) ∙ e) in
      cases (eqb (owner c) k)
      (λ mine. rw mine (rest ∙ ap (summed (answers_of cs (after kinds c s))) (tally_own c s totals size (eqb-true (owner c) k mine) w.0)))
      (λ other. rw other (rest ∙ ap (summed (answers_of cs (after kinds c s))) (tally_other c s totals size (eqb-false (owner c) k other))))

pub counts_summed : CountsSummed
counts_summed k low high cs s totals size e = folded k low high cs s totals size e

pub farms_apart : FarmsApart
unfolding Isolated SameSeen
farms_apart k low high cs s totals a ds t others b parts counts calls =
    let seen = isolated_station k low high s t a.station b.station parts cs ds calls in
    counts_summed k low high cs s totals a.size a.all
    ∙ ((λ j. summed (seen.0 j) (counts j))
    ∙ sym (counts_summed k low high ds t others b.size b.all))
