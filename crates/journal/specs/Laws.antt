-- What callers may cite of a journal in place of its text: from document 01, "Journal program", and document 02, R-3 and R-7. Each is a
-- statement here and a proof in proofs/.
use Rattle.std.specs.Prelude.{◌≡◌, true, false, cond, List, [], ◌∷◌, ◌++◌, ℕ, zero, suc, ◌+◌, ◌*◌, ◌≤◌, ◌<◌, length, take, drop}
use Rattle.codes.specs.Code.{AllOf}
use Rattle.station.specs.declared.Framed.{Framed}
use Rattle.station.specs.declared.Listed.{Listed}
use Rattle.station.specs.declared.Returned.{Returned}
use Rattle.station.specs.Parts.{farms, fresh_parts}
use Rattle.station.specs.Calls.{frame, exchange, go_back, to_frame, to_list, to_return, kinds}
use Rattle.station.specs.Isolation.{answer}
use Rattle.journal.specs.Text.{decimal}
use Rattle.journal.specs.Line.{record_length, longest_record, next_record, past_record, reply_room, space, frame_line, line_of, is_record, call_of, record_line, record_after}
use Rattle.journal.specs.History.{parted, replay_from, replay_of}

-- records one after the other
abbrev pub joined : List (List ℕ) → List ℕ
joined [] = []
joined (r ∷ rs) = r ++ joined rs

-- whatever records a journal is written from, it is parted into them, where what follows them begins with none
abbrev pub PartedAsWritten : Type 0
PartedAsWritten =
    (rs : List (List ℕ)) (left : List ℕ) → AllOf (λ r. is_record r ≡ true) rs → is_record (next_record left) ≡ false
    → parted (joined rs ++ left) ≡ record { records = rs; left = left }

-- and every journal is written so
pub record Written (bs : List ℕ) : Type 0 where
  pub bytes : joined (parted bs).records ++ (parted bs).left ≡ bs
  pub each : AllOf (λ r. is_record r ≡ true) (parted bs).records
  pub stops : is_record (next_record (parted bs).left) ≡ false

abbrev pub EveryJournal : Type 0
EveryJournal = (bs : List ℕ) → Written bs

-- A program reads a journal by the piece. As many bytes as its kind byte says are enough to tell the next record, and no record is longer
-- than the longest;
abbrev pub EnoughBytes : Type 0
EnoughBytes = (b : ℕ) (bs more : List ℕ) → record_length b ≤ length (b ∷ bs) → next_record (b ∷ (bs ++ more)) ≡ next_record (b ∷ bs)

abbrev pub NoneLonger : Type 0
NoneLonger = (b : ℕ) → record_length b ≤ longest_record

-- the pieces are the next record of what is left, again and again, to the end;
abbrev pub pieces_in : ℕ → List ℕ → List (List ℕ)
pieces_in zero bs = []
pieces_in (suc n) [] = []
pieces_in (suc n) (b ∷ bs) = next_record (b ∷ bs) ∷ pieces_in n (past_record (b ∷ bs))

unfoldable pub pieces : List ℕ → List (List ℕ)
pieces bs = pieces_in (length bs) bs

-- what `play` writes of them one after the other, up to the first that is bad,
unfoldable pub played : List (List ℕ) → List ℕ → List ℕ
played [] s = []
played (r ∷ rs) s = record_line r s ++ cond (is_record r) (played rs (record_after r s)) []

-- is the output of the whole journal, from any station, and so from a fresh one
abbrev pub PlaysWhole : Type 0
PlaysWhole = (bs s : List ℕ) → played (pieces bs) s ≡ replay_from bs s

abbrev pub ReplaysWhole : Type 0
ReplaysWhole = (bs : List ℕ) → played (pieces bs) (fresh_parts farms) ≡ replay_of bs

-- Document 02, R-3: "Journal kind 3, body as kind 2, is the merged call; its line starts with `e`." The record of a farm, a length and bytes:
pub record MergedRecord (farm n : ℕ) (bytes : List ℕ) : Type 0 where
  -- what is bad in one kind is bad in the other,
  pub alike : is_record (3 ∷ farm ∷ n ∷ bytes) ≡ is_record (2 ∷ farm ∷ n ∷ bytes)
  -- the call of one is the frame, of the other the merged call of that frame,
  pub alone : call_of (2 ∷ farm ∷ n ∷ bytes) ≡ frame farm (take n bytes) reply_room
  pub merged : call_of (3 ∷ farm ∷ n ∷ bytes) ≡ exchange farm (take n bytes) reply_room
  -- and for the same answer their lines are, but for the letter, the same: `f` and `e`
  pub lines :
      (a : Framed) (reply : List ℕ)
      → let rest = drop 1 (frame_line false farm a reply) ++ (0x0A ∷ []) in
      (line_of (frame farm (take n bytes) reply_room) (to_frame a reply) ≡ 0x66 ∷ rest)
      × (line_of (exchange farm (take n bytes) reply_room) (to_frame a reply) ≡ 0x65 ∷ rest)

abbrev pub MergedRecords : Type 0
MergedRecords = (farm n : ℕ) (bytes : List ℕ) → MergedRecord farm n bytes

-- R-7: "Journal kind 4, farm and number (2 bytes), goes back; its line is `g`, farm, elements stored, new number, or `x` and a refusal". The
-- record of a farm and of the two bytes of a number, the high one first:
pub record ReturnRecord (farm hi lo : ℕ) : Type 0 where
  -- it is one, whatever they are,
  pub whole : is_record (4 ∷ farm ∷ hi ∷ lo ∷ []) ≡ true
  -- its call is the going back to that number,
  pub call : call_of (4 ∷ farm ∷ hi ∷ lo ∷ []) ≡ go_back farm (hi * 256 + lo)
  -- its line is `g` and the three numbers,
  pub done :
      (a : Returned) → a.number ≡ 0
      → line_of (go_back farm (hi * 256 + lo)) (to_return a)
      ≡ 0x67 ∷ space ∷ decimal farm ++ (space ∷ decimal a.stored ++ (space ∷ decimal a.version ++ (0x0A ∷ [])))
  -- or `x` and the number of the refusal
  pub refused :
      (a : Returned) → (a.number ≡ 0 → ⊥)
      → line_of (go_back farm (hi * 256 + lo)) (to_return a) ≡ 0x78 ∷ space ∷ decimal a.number ++ (0x0A ∷ [])

abbrev pub ReturnRecords : Type 0
ReturnRecords = (farm hi lo : ℕ) → hi < 256 → lo < 256 → ReturnRecord farm hi lo

-- No record lists versions: what is said of a list where lines and acts are said holds of no journal.
abbrev pub NoneLists : Type 0
NoneLists = (r s : List ℕ) (l : Listed) → answer kinds (call_of r) s ≡ to_list l → ⊥
