-- What callers may cite of a season in place of its text: from document 02, R-1, and demand 2. Each is a statement here and a proof in proofs/.
use Rattle.std.specs.Prelude.{◌≡◌, Bool, true, false, List, [], ◌∷◌, ◌++◌, map, ℕ, ◌+◌, ◌*◌, ◌^◌, ◌≤◌, ◌<◌, eqb, pos, length, get_or, take, replicate, Ok, Err}
use Rattle.station.specs.Parts.{farms, station_size, part_of, fresh_parts, fresh_station}
use Rattle.station.specs.declared.Sent.{Sent}
use Rattle.station.specs.Runs.{calls_by, run_answers, answers_to}
use Rattle.station.specs.Isolation.{answer, machine}
use Rattle.station.specs.Frame.{is_read}
use Rattle.station.specs.Calls.{Call, cycle, frame, exchange, Answer, to_cycle, to_frame, to_return, number_in, owner, kinds}
use Rattle.station.specs.Worked.{worked_calls}
use Rattle.journal.specs.Line.{record_after}
use Rattle.journal.specs.History.{Event, history}
use Rattle.journal.specs.Laws.{pieces}
use Rattle.season.specs.declared.Stop.TheVariants.{Over}
use Rattle.season.specs.Season.{one, answer_counts, farm_counts, plus, Season, added, tally, and_then, count, season_from, step_of}
use Rattle.season.specs.Report.{farm_line, last_line, report_text, report_of}

-- A program counts a journal by the piece: what `step` counts of pieces one after the other, up to the first that does not count,
unfoldable pub stepped : List (List ℕ) → List ℕ → List ℕ → Season
stepped [] s totals = record { totals = totals; last = Ok tt }
stepped (r ∷ rs) s totals = and_then (step_of r s totals) (stepped rs (record_after r s))

-- is what the whole journal counts; and from a fresh station and no counts, as text, the whole report
abbrev pub CountsWhole : Type 0
CountsWhole = (bs s totals : List ℕ) → stepped (pieces bs) s totals ≡ season_from bs s totals

abbrev pub ReportsWhole : Type 0
ReportsWhole = (bs : List ℕ) → let c = stepped (pieces bs) (fresh_parts farms) (replicate (farms * 10) 0) in report_text c.totals c.last ≡ report_of bs

-- "13, a count would reach 2^64; it ends with the totals before that record", whatever comes after it
abbrev pub EndsAtOver : Type 0
EndsAtOver =
    (e : Event) (es : List Event) (totals : List ℕ) → (tally e totals).last ≡ Err Over
    → count (e ∷ es) totals ≡ record { totals = totals; last = Err Over }

-- it comes where one of the farm's ten sums reaches 2^64, whichever one, and nowhere else
pub record Limit (k : ℕ) (counts totals : List ℕ) : Type 0 where
  pub below : ((i : ℕ) → i < 10 → get_or (farm_counts k totals) i 0 + get_or counts i 0 < 2 ^ 64) → (added k counts totals).last ≡ Ok tt
  pub reached : (i : ℕ) → i < 10 → 2 ^ 64 ≤ get_or (farm_counts k totals) i 0 + get_or counts i 0 → added k counts totals ≡ record { totals = totals; last = Err Over }

abbrev pub Limits : Type 0
Limits = (k : ℕ) → 1 ≤ k → k ≤ farms → (counts totals : List ℕ) → length counts ≡ 10 → length totals ≡ farms * 10 → Limit k counts totals

-- a cycle that is not refused counts in one state, a refused one in none
abbrev pub sum : List ℕ → ℕ
sum [] = 0
sum (n ∷ ns) = n + sum ns

abbrev pub OneState : Type 0
OneState =
    (axis : ℕ) (i : Sent) (s : List ℕ)
    → let a = answer kinds (cycle axis i) s in sum (take 6 (answer_counts a)) ≡ one (eqb (number_in a) 0)

-- Document 02, R-3: a merged call counts as its write by itself would: what that stores, and whether it is denied
abbrev pub CountsAlike : Type 0
CountsAlike =
    (k : ℕ) (f m s : List ℕ) → is_read f ≡ false
    → answer_counts (answer kinds (exchange k f m) s) ≡ answer_counts (answer kinds (frame k f m) s)

-- a farm's counts are those of the answers to its own calls, added up
unfoldable pub summed : List Answer → List ℕ → List ℕ
summed [] counts = counts
summed (a ∷ more) counts = summed more (plus counts (answer_counts a))

abbrev pub CountsSummed : Type 0
CountsSummed =
    (k : ℕ) → 1 ≤ k → k ≤ farms → (cs : List Call) (s totals : List ℕ) → length totals ≡ farms * 10
    → (count (history cs s) totals).last ≡ Ok tt
    → farm_counts k (count (history cs s) totals).totals
    ≡ summed (answers_to (machine kinds) (λ c. eqb (owner c) k) cs (run_answers (machine kinds) cs s)) (farm_counts k totals)

-- the calls of farm k among others
abbrev pub calls_of : ℕ → List Call → List Call
calls_of k cs = calls_by (machine kinds) (λ c. eqb (owner c) k) cs

-- calls counted from a station and totals; none of them came to 13
pub record Tallied (cs : List Call) (s totals : List ℕ) : Type 0 where
  pub station : length s ≡ station_size
  pub size : length totals ≡ farms * 10
  pub all : (count (history cs s) totals).last ≡ Ok tt

-- Demand 2, of the counts: runs that agree on one farm's part, counts and calls give it the same counts, whatever the others do
abbrev pub FarmsApart : Type 0
FarmsApart =
    (k : ℕ) → 1 ≤ k → k ≤ farms
    → (cs : List Call) (s totals : List ℕ) → Tallied cs s totals
    → (ds : List Call) (t others : List ℕ) → Tallied ds t others
    → part_of k s ≡ part_of k t → farm_counts k totals ≡ farm_counts k others → calls_of k cs ≡ calls_of k ds
    → farm_counts k (count (history cs s) totals).totals ≡ farm_counts k (count (history ds t) others).totals

-- the worked calls of 01, on a fresh station: farm 1's counts, and farm 2's
abbrev pub WorkedSeason : Type 0
WorkedSeason =
    (s : List ℕ) → length s ≡ station_size
    → count (history (map (λ w. w.call) worked_calls) (fresh_station s)) (replicate (farms * 10) 0)
    ≡ record {
      totals = (1 ∷ 1 ∷ 1 ∷ 1 ∷ 0 ∷ 0 ∷ 1 ∷ 0 ∷ 0 ∷ 0 ∷ []) ++ (0 ∷ 0 ∷ 0 ∷ 0 ∷ 0 ∷ 0 ∷ 0 ∷ 0 ∷ 1 ∷ 0 ∷ []) ++ replicate 140 0;
      last = Ok tt;
    }

-- each kind of answer in its place: a cycle that ended in a state, acknowledged or entered; a frame, and a going back (R-7), with its
-- elements stored and number
abbrev pub cycle_to : ℕ → Bool → Bool → Answer
cycle_to state acknowledged entered =
    to_cycle (record { told = record { rpm = pos 0; status = 0; state = state; number = 0 }; acknowledged = acknowledged; entered = entered })

abbrev pub frame_with : ℕ → ℕ → Answer
frame_with stored number = to_frame (record { length = 4; stored = stored; number = number }) []

abbrev pub return_with : ℕ → ℕ → Answer
return_with stored number = to_return (record { stored = stored; version = 3; number = number })

abbrev pub WorkedCounts : Type 0
WorkedCounts =
    map answer_counts
    (cycle_to 1 false false
    ∷ cycle_to 2 true false
    ∷ cycle_to 3 false false
    ∷ cycle_to 4 false true
    ∷ cycle_to 51 false false
    ∷ cycle_to 52 false false
    ∷ frame_with 7 0
    ∷ frame_with 0 10
    ∷ frame_with 0 11
    ∷ return_with 18 0
    ∷ return_with 0 14
    ∷ [])
    ≡ (1 ∷ 0 ∷ 0 ∷ 0 ∷ 0 ∷ 0 ∷ 0 ∷ 0 ∷ 0 ∷ 0 ∷ [])
    ∷ (0 ∷ 1 ∷ 0 ∷ 0 ∷ 0 ∷ 0 ∷ 0 ∷ 1 ∷ 0 ∷ 0 ∷ [])
    ∷ (0 ∷ 0 ∷ 1 ∷ 0 ∷ 0 ∷ 0 ∷ 0 ∷ 0 ∷ 0 ∷ 0 ∷ [])
    ∷ (0 ∷ 0 ∷ 0 ∷ 1 ∷ 0 ∷ 0 ∷ 1 ∷ 0 ∷ 0 ∷ 0 ∷ [])
    ∷ (0 ∷ 0 ∷ 0 ∷ 0 ∷ 1 ∷ 0 ∷ 0 ∷ 0 ∷ 0 ∷ 0 ∷ [])
    ∷ (0 ∷ 0 ∷ 0 ∷ 0 ∷ 0 ∷ 1 ∷ 0 ∷ 0 ∷ 0 ∷ 0 ∷ [])
    ∷ (0 ∷ 0 ∷ 0 ∷ 0 ∷ 0 ∷ 0 ∷ 0 ∷ 0 ∷ 0 ∷ 7 ∷ [])
    ∷ (0 ∷ 0 ∷ 0 ∷ 0 ∷ 0 ∷ 0 ∷ 0 ∷ 0 ∷ 0 ∷ 0 ∷ [])
    ∷ (0 ∷ 0 ∷ 0 ∷ 0 ∷ 0 ∷ 0 ∷ 0 ∷ 0 ∷ 1 ∷ 0 ∷ [])
    ∷ (0 ∷ 0 ∷ 0 ∷ 0 ∷ 0 ∷ 0 ∷ 0 ∷ 0 ∷ 0 ∷ 18 ∷ [])
    ∷ (0 ∷ 0 ∷ 0 ∷ 0 ∷ 0 ∷ 0 ∷ 0 ∷ 0 ∷ 0 ∷ 0 ∷ [])
    ∷ []

-- the lines `r 2 1 1 1 1 0 0 1 0 0 21` and `x 13`, byte by byte
pub record WorkedLines : Type 0 where
  pub farm :
      farm_line 2 (replicate 10 9 ++ (1 ∷ 1 ∷ 1 ∷ 1 ∷ 0 ∷ 0 ∷ 1 ∷ 0 ∷ 0 ∷ 21 ∷ []) ++ replicate 140 9)
      ≡ 0x72 ∷ 0x20 ∷ 0x32 ∷ 0x20 ∷ 0x31 ∷ 0x20 ∷ 0x31 ∷ 0x20 ∷ 0x31 ∷ 0x20 ∷ 0x31 ∷ 0x20 ∷ 0x30 ∷ 0x20 ∷ 0x30 ∷ 0x20 ∷ 0x31
      ∷ 0x20 ∷ 0x30 ∷ 0x20 ∷ 0x30 ∷ 0x20 ∷ 0x32 ∷ 0x31 ∷ 0x0A ∷ []
  pub over : last_line (Err Over) ≡ 0x78 ∷ 0x20 ∷ 0x31 ∷ 0x33 ∷ 0x0A ∷ []
