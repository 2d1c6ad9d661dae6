-- Document 01, "Journal program", the whole of it: a journal's bytes are parted into records, up to its end or to what is bad; the
-- history is the call of each record with its answer; the lines are those of the history, then `bad`. Document 02, R-1, counts over
-- the same history.
use Rattle.std.specs.Prelude.{cond, List, [], ◌∷◌, ◌++◌, map, ℕ, zero, suc, length, Option, Some, None}
use Rattle.station.specs.Parts.{farms, fresh_parts}
use Rattle.station.specs.Calls.{Call, Answer, to_cycle, to_frame, to_list, to_return, owner, kinds}
use Rattle.station.specs.Isolation.{answer, after}
use Rattle.journal.specs.declared.Acted.{Acted}
use Rattle.journal.specs.declared.Acted.TheVariants.{Cycle, Frame, Return}
use Rattle.journal.specs.Line.{next_record, past_record, is_record, call_of, line_of, bad_line}

-- the records of a journal, and what is left from the first on that is bad: nothing, where the journal ends with a record
pub record Parted : Type 0 where
  pub records : List (List ℕ)
  pub left : List ℕ

abbrev with_record : List ℕ → Parted → Parted
with_record r p = record { records = r ∷ p.records; left = p.left }

-- at most n records, and what is left
abbrev pub parted_in : ℕ → List ℕ → Parted
parted_in zero bs = record { records = []; left = bs }
parted_in (suc n) bs =
    cond (is_record (next_record bs)) (with_record (next_record bs) (parted_in n (past_record bs))) (record { records = []; left = bs })

-- a record has a byte at least, so that a journal has no more records than bytes
unfoldable pub parted : List ℕ → Parted
parted bs = parted_in (length bs) bs

-- a call, and its answer
pub record Event : Type 0 where
  pub call : Call
  pub answer : Answer

abbrev pub event_of : Call → List ℕ → Event
event_of c s = record { call = c; answer = answer kinds c s }

-- the history of calls, from the station s on
unfoldable pub history : List Call → List ℕ → List Event
history [] s = []
history (c ∷ cs) s = event_of c s ∷ history cs (after kinds c s)

-- a record makes its call
abbrev pub calls : Parted → List Call
calls p = map call_of p.records

-- a line for each
abbrev pub lines : List Event → List ℕ
lines [] = []
lines (e ∷ es) = line_of e.call e.answer ++ lines es

-- "Anything else, or a cut body, writes `bad` and ends"
abbrev pub end_line : List ℕ → List ℕ
end_line [] = []
end_line (b ∷ left) = bad_line

-- the output of a replay of a journal, from the station s on
unfoldable pub replay_from : List ℕ → List ℕ → List ℕ
replay_from bs s = lines (history (calls (parted bs)) s) ++ end_line (parted bs).left

-- "Whole output of a fresh run"
abbrev pub replay_of : List ℕ → List ℕ
replay_of bs = replay_from bs (fresh_parts farms)

-- whose call it was, and its answer but for the reply; no record lists versions
abbrev pub acted_by : Call → Answer → Option Acted
acted_by c (to_cycle d) = Some (Cycle (owner c) d)
acted_by c (to_frame f reply) = Some (Frame (owner c) f)
acted_by c (to_list l) = None
acted_by c (to_return r) = Some (Return (owner c) r)

-- what the bytes r do on the station s, told by `act`
unfoldable pub acted_of : List ℕ → List ℕ → Option Acted
acted_of r s = cond (is_record r) (acted_by (call_of r) (answer kinds (call_of r) s)) None
