-- Document 02, R-1: "for each of the 16 farms the cycles spent in each of S1, S2, S3, S4, S51 and S52, entries into S4, acknowledged fault
-- situations, frames denied with number 11, and elements stored." These ten counts for each farm, over the history of a journal.
use Rattle.std.specs.Prelude.{Bool, false, cond, not, ◌&&◌, ◌||◌, List, [], ◌∷◌, ℕ, ◌+◌, ◌-◌, ◌*◌, ◌^◌, eqb, leb, replicate, Result, Ok, Err}
use Rattle.station.specs.Parts.{farms, window, with_window, fresh_parts}
use Rattle.station.specs.Calls.{Answer, to_cycle, to_frame, to_list, to_return, owner}
use Rattle.journal.specs.Line.{is_record, call_of}
use Rattle.journal.specs.History.{parted, Event, event_of, history, calls}
use Rattle.season.specs.declared.Stop.{Stop}
use Rattle.season.specs.declared.Stop.TheVariants.{Bad, Over}

-- 1 where a test holds
abbrev pub one : Bool → ℕ
one b = cond b 1 0

-- What an answer counts. "A cycle counts for its axis's farm in the state it ends in": a refused one ends in none, and did nothing. R-7:
-- "R-1 counts kinds 3 and 4."; no record lists versions, and a list stores nothing.
abbrev pub answer_counts : Answer → List ℕ
answer_counts (to_cycle c) =
    one (eqb c.told.state 1)
    ∷ one (eqb c.told.state 2)
    ∷ one (eqb c.told.state 3)
    ∷ one (eqb c.told.state 4)
    ∷ one (eqb c.told.state 51)
    ∷ one (eqb c.told.state 52)
    ∷ one c.entered
    ∷ one c.acknowledged
    ∷ 0
    ∷ 0
    ∷ []
answer_counts (to_frame f reply) = 0 ∷ 0 ∷ 0 ∷ 0 ∷ 0 ∷ 0 ∷ 0 ∷ 0 ∷ one (eqb f.number 11) ∷ f.stored ∷ []
answer_counts (to_list l) = replicate 10 0
answer_counts (to_return r) = 0 ∷ 0 ∷ 0 ∷ 0 ∷ 0 ∷ 0 ∷ 0 ∷ 0 ∷ 0 ∷ r.stored ∷ []

-- the ten counts of farm k among the totals of all farms, and the totals with others for them
abbrev pub farm_counts : ℕ → List ℕ → List ℕ
farm_counts k totals = window ((k - 1) * 10) 10 totals

abbrev pub with_counts : ℕ → List ℕ → List ℕ → List ℕ
with_counts k ns totals = with_window ((k - 1) * 10) 10 ns totals

-- counts added, each to its own
abbrev pub plus : List ℕ → List ℕ → List ℕ
plus [] ns = []
plus (m ∷ ms) [] = []
plus (m ∷ ms) (n ∷ ns) = (m + n) ∷ plus ms ns

-- "a count would reach 2^64"
abbrev pub reaches : List ℕ → Bool
reaches [] = false
reaches (n ∷ ns) = leb (2 ^ 64) n || reaches ns

-- the totals so far, and how the last record came out
pub record Season : Type 0 where
  pub totals : List ℕ
  pub last : Result Unit Stop

-- Counts added for farm k; nowhere where there is no such farm. "Refusals: 13, a count would reach 2^64": then none of them is added.
unfoldable pub added : ℕ → List ℕ → List ℕ → Season
added k counts totals =
    let ns = plus (farm_counts k totals) counts in
    cond (not (leb 1 k && leb k farms)) (record { totals = totals; last = Ok tt })
    (cond (reaches ns) (record { totals = totals; last = Err Over })
    (record { totals = with_counts k ns totals; last = Ok tt }))

-- One turn: what a record did is counted for its farm: a cycle's is "its axis's farm", a frame's "its sender".
unfoldable pub tally : Event → List ℕ → Season
tally e totals = added (owner e.call) (answer_counts e.answer) totals

-- what comes next is counted only where the last record was
abbrev pub next : Result Unit Stop → List ℕ → (List ℕ → Season) → Season
next (Ok done) totals more = more totals
next (Err Bad) totals more = record { totals = totals; last = Err Bad }
next (Err Over) totals more = record { totals = totals; last = Err Over }

abbrev pub and_then : Season → (List ℕ → Season) → Season
and_then c more = next c.last c.totals more

-- the counts of a history, added to the totals given
unfoldable pub count : List Event → List ℕ → Season
count [] totals = record { totals = totals; last = Ok tt }
count (e ∷ es) totals = and_then (tally e totals) (count es)

-- "A `bad` record ends the report with the totals so far and that word."
abbrev pub ending : List ℕ → List ℕ → Season
ending [] totals = record { totals = totals; last = Ok tt }
ending (b ∷ left) totals = record { totals = totals; last = Err Bad }

-- a whole journal, from the station s and the totals given
unfoldable pub season_from : List ℕ → List ℕ → List ℕ → Season
season_from bs s totals = and_then (count (history (calls (parted bs)) s) totals) (ending (parted bs).left)

-- from a fresh station and no counts
unfoldable pub season_of : List ℕ → Season
season_of bs = season_from bs (fresh_parts farms) (replicate (farms * 10) 0)

-- one record: a turn, where it is one
unfoldable pub step_of : List ℕ → List ℕ → List ℕ → Season
step_of r s totals = cond (is_record r) (tally (event_of (call_of r) s) totals) (record { totals = totals; last = Err Bad })
