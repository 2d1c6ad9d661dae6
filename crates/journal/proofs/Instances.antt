-- The laws of specs/Laws.antt at work: one that is made weaker fails here.
use mathlib.Core.Path.{Path, ◌≡◌, refl, sym, ap, ◌∙◌}
use mathlib.Core.Bool.{true, false}
use mathlib.Core.List.{List, [], ◌∷◌, ◌++◌, append-nil}
use Prim.Native.Nat.{ℕ}
use native.Mathlib.Omega.{arith}
use lib.Dec.{lit<}
use lib.ListN.{length}
use Rattle.codes.specs.Code.{AllOf}
use Rattle.station.specs.declared.Listed.{Listed}
use Rattle.station.specs.Parts.{farms, fresh_parts}
use Rattle.station.specs.Calls.{frame, exchange, go_back, to_frame, to_list, to_return, kinds}
use Rattle.station.specs.Isolation.{answer}
use Rattle.journal.specs.Text.{decimal}
use Rattle.journal.specs.Line.{next_record, past_record, reply_room, line_of, is_record, call_of, record_line, bad_line}
use Rattle.journal.specs.History.{Parted, parted, replay_from, replay_of}
use Rattle.journal.specs.Laws.{joined, pieces, played}
use Rattle.journal.proofs.Records.{merged_records, return_records, none_lists}
use Rattle.journal.proofs.Whole.{parted_as_written, every_journal, enough_bytes, none_longer, plays_whole, replays_whole}

-- PartedAsWritten: two records and a byte that is none
module _ (q r : List ℕ) (first : is_record q ≡ true) (second : is_record r ≡ true) where
  two_and_bad : Path Parted (parted ((q ++ (r ++ [])) ++ (0xFF ∷ []))) (record { records = q ∷ r ∷ []; left = 0xFF ∷ [] })
  unfolding next_record is_record
  two_and_bad = parted_as_written (q ∷ r ∷ []) (0xFF ∷ []) (first, (second, tt)) refl

  two_and_end : Path Parted (parted ((q ++ (r ++ [])) ++ [])) (record { records = q ∷ r ∷ []; left = [] })
  unfolding next_record is_record
  two_and_end = parted_as_written (q ∷ r ∷ []) [] (first, (second, tt)) refl

-- EveryJournal: where nothing is left the records are all of it, each is one, and what is left begins with none
module _ (bs : List ℕ) where
  all_of_it : (parted bs).left ≡ [] → joined (parted bs).records ≡ bs
  all_of_it none = sym (append-nil (joined (parted bs).records)) ∙ (ap (λ (l : List ℕ). joined (parted bs).records ++ l) (sym none) ∙ (every_journal bs).bytes)

  records_all : AllOf (λ r. is_record r ≡ true) (parted bs).records
  records_all = (every_journal bs).each

  left_begins_bad : is_record (next_record (parted bs).left) ≡ false
  left_begins_bad = (every_journal bs).stops

-- EnoughBytes: 11 bytes of a cycle, whatever follows; NoneLonger: 247 bytes of anything
enough : (bs more : List ℕ) → length bs ≡ 10 → next_record (1 ∷ (bs ++ more)) ≡ next_record (1 ∷ bs)
enough bs more long = enough_bytes 1 bs more (omega arith)

enough_of_any : (b : ℕ) (bs more : List ℕ) → length bs ≡ 246 → next_record (b ∷ (bs ++ more)) ≡ next_record (b ∷ bs)
enough_of_any b bs more long = enough_bytes b bs more (omega (arith, none_longer b))

-- PlaysWhole and ReplaysWhole: a kind that is none ends the run with its word, whatever follows it
bad_ends : (s : List ℕ) → replay_from (0x00 ∷ 0x01 ∷ []) s ≡ bad_line
unfolding played pieces next_record past_record is_record record_line
bad_ends s = sym (plays_whole (0x00 ∷ 0x01 ∷ []) s)

fresh_bad_ends : replay_of (0x00 ∷ 0x01 ∷ []) ≡ bad_line
unfolding played pieces next_record past_record is_record record_line
fresh_bad_ends = sym (replays_whole (0x00 ∷ 0x01 ∷ []))

-- from fresh parts, and from nothing else
from_fresh : (bs : List ℕ) → replay_of bs ≡ replay_from bs (fresh_parts farms)
from_fresh bs = sym (replays_whole bs) ∙ plays_whole bs (fresh_parts farms)

-- MergedRecords: a frame of one byte, in both kinds; and the start of the line of each
module _ (zeros : List ℕ) where
  one_byte : is_record (3 ∷ 1 ∷ 1 ∷ 0x5F ∷ zeros) ≡ is_record (2 ∷ 1 ∷ 1 ∷ 0x5F ∷ zeros)
  one_byte = (merged_records 1 1 (0x5F ∷ zeros)).alike

  its_frame : call_of (2 ∷ 1 ∷ 1 ∷ 0x5F ∷ zeros) ≡ frame 1 (0x5F ∷ []) reply_room
  its_frame = (merged_records 1 1 (0x5F ∷ zeros)).alone

  its_merged : call_of (3 ∷ 1 ∷ 1 ∷ 0x5F ∷ zeros) ≡ exchange 1 (0x5F ∷ []) reply_room
  its_merged = (merged_records 1 1 (0x5F ∷ zeros)).merged

-- `e 1 0 -` of a merged call that is refused with an empty reply
refused_line_lem : line_of (exchange 1 [] reply_room) (to_frame (record { length = 0; stored = 0; number = 4 }) []) ≡ 0x65 ∷ 0x20 ∷ 0x31 ∷ 0x20 ∷ 0x30 ∷ 0x20 ∷ 0x2D ∷ 0x0A ∷ []
unfolding decimal
refused_line_lem = ((merged_records 1 0 []).lines (record { length = 0; stored = 0; number = 4 }) []).1

-- ReturnRecords: a record of both bytes of its number; and the lines `g 1 18 5` and `x 14`
back_record : (is_record (4 ∷ 1 ∷ 2 ∷ 3 ∷ []) ≡ true) × (call_of (4 ∷ 1 ∷ 2 ∷ 3 ∷ []) ≡ go_back 1 515)
back_record = let r = return_records 1 2 3 (lit< tt) (lit< tt) in (r.whole, r.call)

back_line : line_of (go_back 1 2) (to_return (record { stored = 18; version = 5; number = 0 })) ≡ 0x67 ∷ 0x20 ∷ 0x31 ∷ 0x20 ∷ 0x31 ∷ 0x38 ∷ 0x20 ∷ 0x35 ∷ 0x0A ∷ []
unfolding decimal
back_line = (return_records 1 0 2 (lit< tt) (lit< tt)).done (record { stored = 18; version = 5; number = 0 }) refl

not_kept_line : line_of (go_back 1 2) (to_return (record { stored = 0; version = 0; number = 14 })) ≡ 0x78 ∷ 0x20 ∷ 0x31 ∷ 0x34 ∷ 0x0A ∷ []
unfolding decimal
not_kept_line = (return_records 1 0 2 (lit< tt) (lit< tt)).refused (record { stored = 0; version = 0; number = 14 }) (λ e. omega arith)

-- NoneLists: not even of bytes that are no record
no_list : (s : List ℕ) (l : Listed) → answer kinds (call_of []) s ≡ to_list l → ⊥
no_list s l = none_lists [] s l
