-- The laws of specs/Laws.antt at work: one that is made weaker fails here.
use mathlib.Core.Path.{Path, ◌≡◌, refl, sym, ap, ◌∙◌}
use mathlib.Core.List.{List, [], ◌∷◌, ◌++◌, map}
use Prim.Native.Nat.{ℕ, ◌+◌, ◌≤◌, ◌<◌, ◌^◌}
use native.Mathlib.Omega.{arith}
use lib.Dec.{eqb, lit≤}
use lib.ListN.{length, get_or, take, drop, replicate}
use Rattle.station.specs.Parts.{window, station_size, fresh_station}
use Rattle.station.specs.declared.Sent.{Sent}
use Rattle.station.specs.Runs.{calls_by}
use Rattle.station.specs.Isolation.{answer}
use Rattle.station.specs.Calls.{Call, cycle, frame, exchange, number_in, kinds}
use Rattle.station.specs.Worked.{marks_frame, worked_calls}
use Rattle.journal.specs.Line.{next_record, past_record, is_record}
use Rattle.journal.specs.History.{Event, history}
use Rattle.journal.specs.Laws.{pieces}
use Rattle.std.specs.Prelude.{Ok, Err}
use Rattle.season.specs.declared.Stop.TheVariants.{Bad, Over}
use Rattle.season.specs.Season.{one, answer_counts, farm_counts, Season, added, tally, count, season_from, step_of}
use Rattle.season.specs.Report.{farm_line, last_line, report_text, report_of}
use Rattle.season.specs.Laws.{stepped, sum, Tallied, frame_with, return_with}
use Rattle.season.proofs.Adds.{limits, ends_at_over}
use Rattle.season.proofs.Whole.{counts_whole, reports_whole}
use Rattle.season.proofs.Farms.{farms_apart}
use Rattle.season.proofs.Worked.{one_state, counts_alike, worked_season, worked_counts, worked_lines}

-- CountsWhole: a kind that is none ends the season with the totals so far, whatever follows it
bad_ends : (s totals : List ℕ) → Path Season (season_from (0x00 ∷ 0x01 ∷ []) s totals) (record { totals = totals; last = Err Bad })
unfolding stepped step_of pieces next_record past_record is_record
bad_ends s totals = sym (counts_whole (0x00 ∷ 0x01 ∷ []) s totals)

-- ReportsWhole: a journal of no record
no_record : report_of [] ≡ report_text (replicate 160 0) (Ok tt)
unfolding stepped pieces
no_record = sym (reports_whole [])

-- EndsAtOver: what comes after it does not count
nothing_after : (d e : Event) (totals : List ℕ) → (tally d totals).last ≡ Err Over → (count (d ∷ e ∷ []) totals).totals ≡ totals
nothing_after d e totals over = ap (λ (c : Season). c.totals) (ends_at_over d (e ∷ []) totals over)

-- Limits: both sides, in the first place of the first farm and in the last of the last
module _ (counts totals : List ℕ) (ten : length counts ≡ 10) (size : length totals ≡ 160) where
  fits_1 : ((i : ℕ) → i < 10 → get_or (farm_counts 1 totals) i 0 + get_or counts i 0 < 2 ^ 64) → (added 1 counts totals).last ≡ Ok tt
  fits_1 small = (limits 1 (lit≤ tt) (lit≤ tt) counts totals ten size).below small

  fits_16 : ((i : ℕ) → i < 10 → get_or (farm_counts 16 totals) i 0 + get_or counts i 0 < 2 ^ 64) → (added 16 counts totals).last ≡ Ok tt
  fits_16 small = (limits 16 (lit≤ tt) (lit≤ tt) counts totals ten size).below small

  over_1 : 2 ^ 64 ≤ get_or (farm_counts 1 totals) 0 0 + get_or counts 0 0 → (added 1 counts totals).last ≡ Err Over
  over_1 big = ap (λ (c : Season). c.last) ((limits 1 (lit≤ tt) (lit≤ tt) counts totals ten size).reached 0 (omega arith) big)

  over_16 : 2 ^ 64 ≤ get_or (farm_counts 16 totals) 9 0 + get_or counts 9 0 → (added 16 counts totals).totals ≡ totals
  over_16 big = ap (λ (c : Season). c.totals) ((limits 16 (lit≤ tt) (lit≤ tt) counts totals ten size).reached 9 (omega arith) big)

-- OneState: both ways
module _ (i : Sent) (s : List ℕ) where
  in_one : number_in (answer kinds (cycle 16 i) s) ≡ 0 → sum (take 6 (answer_counts (answer kinds (cycle 16 i) s))) ≡ 1
  in_one e = one_state 16 i s ∙ ap (λ (n : ℕ). one (eqb n 0)) e

  in_none : number_in (answer kinds (cycle 16 i) s) ≡ 12 → sum (take 6 (answer_counts (answer kinds (cycle 16 i) s))) ≡ 0
  in_none e = one_state 16 i s ∙ ap (λ (n : ℕ). one (eqb n 0)) e

-- CountsAlike: a denied write of the last farm, and any of the first
module _ (m s : List ℕ) where
  denied_alike : answer_counts (answer kinds (exchange 16 marks_frame m) s) ≡ answer_counts (answer kinds (frame 16 marks_frame m) s)
  denied_alike = counts_alike 16 marks_frame m s refl

  stored_alike : (block : List ℕ) → answer_counts (answer kinds (exchange 1 (0x5F ∷ block) m) s) ≡ answer_counts (answer kinds (frame 1 (0x5F ∷ block) m) s)
  stored_alike block = counts_alike 1 (0x5F ∷ block) m s refl

-- FarmsApart: farm 2's frames and cycles leave no trace in the counts of farms 1 and 16
module _ (f m : List ℕ) (i : Sent) (cs : List Call) (s totals : List ℕ)
    (beside : Tallied (frame 2 f m ∷ cycle 2 i ∷ cs) s totals) (alone : Tallied cs s totals) where
  first : farm_counts 1 (count (history (frame 2 f m ∷ cycle 2 i ∷ cs) s) totals).totals ≡ farm_counts 1 (count (history cs s) totals).totals
  unfolding calls_by
  first = farms_apart 1 (lit≤ tt) (lit≤ tt) (frame 2 f m ∷ cycle 2 i ∷ cs) s totals beside cs s totals alone refl refl refl

  sixteenth : farm_counts 16 (count (history (frame 2 f m ∷ cycle 2 i ∷ cs) s) totals).totals ≡ farm_counts 16 (count (history cs s) totals).totals
  unfolding calls_by
  sixteenth = farms_apart 16 (lit≤ tt) (lit≤ tt) (frame 2 f m ∷ cycle 2 i ∷ cs) s totals beside cs s totals alone refl refl refl

  -- what is asked of them: sizes, and that none came to 13
  asked : Tallied cs s totals
  asked = record { station = alone.station; size = alone.size; all = alone.all }

-- WorkedSeason: nine calls, and the counts of farms 1, 2 and 16
module _ (s : List ℕ) (size : length s ≡ station_size) where
  abbrev nine : List Call
  nine = map (λ w. w.call) worked_calls

  abbrev counted : List ℕ
  counted = (count (history nine (fresh_station s)) (replicate 160 0)).totals

  calls_9 : length nine ≡ 9
  calls_9 = refl

  counts_1 : farm_counts 1 counted ≡ 1 ∷ 1 ∷ 1 ∷ 1 ∷ 0 ∷ 0 ∷ 1 ∷ 0 ∷ 0 ∷ 0 ∷ []
  unfolding window
  counts_1 = ap (λ (c : Season). farm_counts 1 c.totals) (worked_season s size)

  counts_2 : farm_counts 2 counted ≡ 0 ∷ 0 ∷ 0 ∷ 0 ∷ 0 ∷ 0 ∷ 0 ∷ 0 ∷ 1 ∷ 0 ∷ []
  unfolding window
  counts_2 = ap (λ (c : Season). farm_counts 2 c.totals) (worked_season s size)

  counts_16 : farm_counts 16 counted ≡ replicate 10 0
  unfolding window
  counts_16 = ap (λ (c : Season). farm_counts 16 c.totals) (worked_season s size)

-- WorkedCounts: the last kinds of answer are a denied frame, a going back, and a refused one
last_three : Path (List (List ℕ)) (answer_counts (frame_with 0 11) ∷ answer_counts (return_with 18 0) ∷ answer_counts (return_with 0 14) ∷ [])
    ((0 ∷ 0 ∷ 0 ∷ 0 ∷ 0 ∷ 0 ∷ 0 ∷ 0 ∷ 1 ∷ 0 ∷ []) ∷ (replicate 9 0 ++ (18 ∷ [])) ∷ replicate 10 0 ∷ [])
last_three = ap (drop 8) worked_counts

-- WorkedLines: the one ends in 21, the other is all of it
two_lines :
    (drop 22 (farm_line 2 (replicate 10 9 ++ (1 ∷ 1 ∷ 1 ∷ 1 ∷ 0 ∷ 0 ∷ 1 ∷ 0 ∷ 0 ∷ 21 ∷ []) ++ replicate 140 9)) ≡ 0x32 ∷ 0x31 ∷ 0x0A ∷ [])
    × (last_line (Err Over) ≡ 0x78 ∷ 0x20 ∷ 0x31 ∷ 0x33 ∷ 0x0A ∷ [])
two_lines = (ap (drop 22) worked_lines.farm, worked_lines.over)
