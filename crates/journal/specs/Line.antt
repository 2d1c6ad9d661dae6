-- Document 01, "Journal program", with kind 3 of document 02, R-3, and kind 4 of R-7: one record, the line that it writes, and the
-- station after it.
use Rattle.std.specs.Prelude.{Bool, true, false, cond, ◌&&◌, ◌||◌, List, [], ◌∷◌, ◌++◌, ℕ, ◌+◌, eqb, leb, length, take, drop, get_or, replicate}
use Rattle.codes.specs.Number.{number_at, signed_of}
use Rattle.drive.specs.Faults.{zeros}
use Rattle.station.specs.declared.Cycled.{Cycled}
use Rattle.station.specs.declared.Framed.{Framed}
use Rattle.station.specs.declared.Returned.{Returned}
use Rattle.station.specs.Calls.{Call, cycle, frame, exchange, list, go_back, frame_by, Answer, to_cycle, to_frame, to_list, to_return, owner, kinds}
use Rattle.station.specs.Isolation.{answer, after}
use Rattle.journal.specs.Text.{decimal, signed, hex_word, hex_bytes}

-- "Kind 1, 10 bytes: axis, flags, STW1, NSOLL_A, NIST_A, fault."
abbrev pub cycle_record : ℕ
cycle_record = 11

-- "Kind 2, 246 bytes: farm, frame length 0..244, 244 bytes, zero past the length."; R-3: "Journal kind 3, body as kind 2"
abbrev pub frame_record : ℕ
frame_record = 247

abbrev pub holds_frame : ℕ → Bool
holds_frame kind = eqb kind 2 || eqb kind 3

-- R-7: "Journal kind 4, farm and number (2 bytes), goes back"
abbrev pub return_record : ℕ
return_record = 4

-- "Records: one byte of kind, then a body": how long a record of a kind is; anything else is bad by its kind byte
abbrev pub record_length : ℕ → ℕ
record_length kind = cond (eqb kind 1) cycle_record (cond (holds_frame kind) frame_record (cond (eqb kind 4) return_record 1))

-- the longest of them
abbrev pub longest_record : ℕ
longest_record = frame_record

-- the next record of what is left of a journal, "or a cut body"; and what is left past it
unfoldable pub next_record : List ℕ → List ℕ
next_record bs = take (record_length (get_or bs 0 0)) bs

unfoldable pub past_record : List ℕ → List ℕ
past_record bs = drop (record_length (get_or bs 0 0)) bs

abbrev pub cycle_call : List ℕ → Call
cycle_call r =
    cycle (get_or r 1 0)
    (record {
      flags = get_or r 2 0;
      stw1 = number_at 2 r 3;
      nsoll = signed_of 2 (number_at 2 r 5);
      nist = signed_of 2 (number_at 2 r 7);
      fault = number_at 2 r 9;
    })

abbrev pub frame_length : List ℕ → ℕ
frame_length r = get_or r 2 0

-- the reply memory of a replay
abbrev pub reply_room : List ℕ
reply_room = replicate 244 0

-- R-3: kind 3 "is the merged call"
abbrev pub is_merged : List ℕ → Bool
is_merged r = eqb (get_or r 0 0) 3

abbrev pub frame_call : List ℕ → Call
frame_call r = frame_by (is_merged r) (get_or r 1 0) (take (frame_length r) (drop 3 r)) reply_room

abbrev pub return_call : List ℕ → Call
return_call r = go_back (get_or r 1 0) (number_at 2 r 2)

abbrev pub is_cycle : List ℕ → Bool
is_cycle r = eqb (length r) cycle_record && eqb (get_or r 0 0) 1

abbrev pub is_frame : List ℕ → Bool
is_frame r =
    eqb (length r) frame_record && (holds_frame (get_or r 0 0) && (leb (frame_length r) 244 && zeros (drop (3 + frame_length r) r)))

abbrev pub is_return : List ℕ → Bool
is_return r = eqb (length r) return_record && eqb (get_or r 0 0) 4

-- the state's name
abbrev pub state_name : ℕ → List ℕ
state_name n = 0x53 ∷ decimal n

abbrev pub space : ℕ
space = 0x20

-- "`x` and its number", R-7: "or `x` and a refusal"
abbrev pub refused_line : ℕ → List ℕ
refused_line n = 0x78 ∷ space ∷ decimal n

-- "`c`, axis, state, ZSW1 in hex, rpm in decimal"; "A refused cycle writes `x` and its number."
abbrev pub cycle_line : ℕ → Cycled → List ℕ
cycle_line axis r =
    cond (eqb r.number 0)
    (0x63 ∷ space ∷ decimal axis ++ (space ∷ state_name r.state ++ (space ∷ hex_word r.status ++ (space ∷ signed r.rpm))))
    (refused_line r.number)

-- "`f`, farm, elements stored, reply in hex. An empty reply prints `-`."; of the merged call, R-3: "its line starts with `e`"
abbrev pub reply_text : List ℕ → List ℕ
reply_text bs = cond (eqb (length bs) 0) (0x2D ∷ []) (hex_bytes bs)

abbrev pub frame_letter : Bool → ℕ
frame_letter merged = cond merged 0x65 0x66

abbrev pub frame_line : Bool → ℕ → Framed → List ℕ → List ℕ
frame_line merged farm r reply =
    frame_letter merged ∷ space ∷ decimal farm ++ (space ∷ decimal r.stored ++ (space ∷ reply_text (take r.length reply)))

-- R-7: "its line is `g`, farm, elements stored, new number, or `x` and a refusal"
abbrev pub return_line : ℕ → Returned → List ℕ
return_line farm r =
    cond (eqb r.number 0)
    (0x67 ∷ space ∷ decimal farm ++ (space ∷ decimal r.stored ++ (space ∷ decimal r.version)))
    (refused_line r.number)

-- whether a call is a merged one
abbrev pub merged_call : Call → Bool
merged_call (cycle axis i) = false
merged_call (frame farm f m) = false
merged_call (exchange farm f m) = true
merged_call (list farm) = false
merged_call (go_back farm n) = false

-- the line of a call and its answer; no record lists versions
abbrev pub line_of : Call → Answer → List ℕ
line_of c (to_cycle d) = cycle_line (owner c) d.told ++ (0x0A ∷ [])
line_of c (to_frame f reply) = frame_line (merged_call c) (owner c) f reply ++ (0x0A ∷ [])
line_of c (to_list l) = []
line_of c (to_return r) = return_line (owner c) r ++ (0x0A ∷ [])

-- "Anything else, or a cut body, writes `bad` and ends"
abbrev pub bad_line : List ℕ
bad_line = 0x62 ∷ 0x61 ∷ 0x64 ∷ 0x0A ∷ []

unfoldable pub is_record : List ℕ → Bool
is_record r = is_cycle r || is_return r || is_frame r

-- the call of a record
unfoldable pub call_of : List ℕ → Call
call_of r = cond (is_cycle r) (cycle_call r) (cond (is_return r) (return_call r) (frame_call r))

-- the line that the bytes r write on the station s, and the station after them
unfoldable pub record_line : List ℕ → List ℕ → List ℕ
record_line r s = cond (is_record r) (line_of (call_of r) (answer kinds (call_of r) s)) bad_line

unfoldable pub record_after : List ℕ → List ℕ → List ℕ
record_after r s = cond (is_record r) (after kinds (call_of r) s) s
