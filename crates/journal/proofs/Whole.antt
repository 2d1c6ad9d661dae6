-- The laws of a whole journal: how it is parted, and that the records played one after the other are its replay.
use mathlib.Core.Path.{◌≡◌, refl, sym, ap, ◌∙◌}
use mathlib.Core.Bool.{true, false}
use mathlib.Core.List.{List, [], ◌∷◌, ◌++◌, append_assoc}
use Prim.Native.Nat.{ℕ, zero, suc, ◌≤◌}
use native.Mathlib.Omega.{arith}
use lib.Dec.{eqb, lit≤}
use lib.ListN.{length, get_or, length-append, length-drop, take-append-drop, get_or-append}
use lib.Seq.{take-append-le, take_at, drop_at}
use borrow.Table.Steps.{cases}
use Rattle.codes.specs.Code.{AllOf}
use Rattle.station.specs.Parts.{farms, fresh_parts}
use Rattle.station.specs.Calls.{kinds}
use Rattle.station.specs.Isolation.{answer, after}
use Rattle.station.proofs.Tests.{one_of}
use Rattle.journal.specs.Line.{holds_frame, record_length, longest_record, next_record, past_record, is_record, call_of, line_of, record_line, record_after}
use Rattle.journal.specs.History.{parted_in, parted, history, calls, lines, end_line, replay_from}
use Rattle.journal.specs.Laws.{joined, PartedAsWritten, EveryJournal, EnoughBytes, NoneLonger, pieces_in, pieces, played, PlaysWhole, ReplaysWhole}
use Rattle.journal.proofs.Records.{record_whole}

-- a record has a byte at least, and no more than the longest
pub record_sizes : (kind : ℕ) → (1 ≤ record_length kind) × (record_length kind ≤ longest_record)
record_sizes kind =
    let by = one_of (λ n. (1 ≤ n) × (n ≤ longest_record)) in
    by (eqb kind 1) _ _ (lit≤ tt, lit≤ tt)
    (by (holds_frame kind) _ _ (lit≤ tt, lit≤ tt)
    (by (eqb kind 4) _ _ (lit≤ tt, lit≤ tt) (lit≤ tt, lit≤ tt)))

record_some : (r : List ℕ) → is_record r ≡ true → 1 ≤ length r
record_some r is = omega (arith, record_whole r is, (record_sizes (get_or r 0 0)).0)

-- what is left grows shorter
shorter : (bs : List ℕ) (n : ℕ) → length bs ≤ suc n → length (past_record bs) ≤ n
unfolding past_record
shorter bs n h = omega (arith, length-drop (record_length (get_or bs 0 0)) bs, (record_sizes (get_or bs 0 0)).0)

-- a record at the start of bytes is the next one
module _ (r bs : List ℕ) (is : is_record r ≡ true) where
  kind : get_or (r ++ bs) 0 0 ≡ get_or r 0 0
  kind = get_or-append r bs 0 0 (record_some r is)

  size : length r ≡ record_length (get_or (r ++ bs) 0 0)
  size = sym (ap record_length kind ∙ record_whole r is)

  next_is : next_record (r ++ bs) ≡ r
  unfolding next_record
  next_is = take_at r bs _ size

  past_is : past_record (r ++ bs) ≡ bs
  unfolding past_record
  past_is = drop_at r bs _ size

pub none : is_record (next_record []) ≡ false
unfolding next_record is_record
none = refl

-- enough to part all of it
written_in : (n : ℕ) (rs : List (List ℕ)) (left : List ℕ) → AllOf (λ r. is_record r ≡ true) rs → is_record (next_record left) ≡ false
    → length (joined rs ++ left) ≤ n → parted_in n (joined rs ++ left) ≡ record { records = rs; left = left }
written_in zero [] left are stops h = refl
written_in (suc n) [] left are stops h = rw stops
written_in zero (r ∷ rs) left are stops h = absurd (omega (arith, length-append (r ++ joined rs) left, length-append r (joined rs), record_some r are.0))
written_in (suc n) (r ∷ rs) left are stops h =
    let rest = joined rs ++ left in
    let short : length rest ≤ n =
    omega (arith, length-append (r ++ joined rs) left, length-append r (joined rs), length-append (joined rs) left, record_some r are.0) in
    rw (append_assoc r (joined rs) left, next_is r rest are.0, past_is r rest are.0, are.0, written_in n rs left are.1 stops short)

pub parted_as_written : PartedAsWritten
unfolding parted
parted_as_written rs left are stops = written_in (length (joined rs ++ left)) rs left are stops (omega arith)

-- parted by at most n records, each of its own
record WrittenIn (n : ℕ) (bs : List ℕ) : Type 0 where
  bytes : joined (parted_in n bs).records ++ (parted_in n bs).left ≡ bs
  each : AllOf (λ r. is_record r ≡ true) (parted_in n bs).records
  stops : length bs ≤ n → is_record (next_record (parted_in n bs).left) ≡ false

with_next : (bs : List ℕ) → next_record bs ++ past_record bs ≡ bs
unfolding next_record past_record
with_next bs = take-append-drop (record_length (get_or bs 0 0)) bs

more_in : (n : ℕ) (bs : List ℕ) → is_record (next_record bs) ≡ true → WrittenIn n (past_record bs) → WrittenIn (suc n) bs
more_in n bs is rest =
    record {
      bytes = rw is (append_assoc (next_record bs) _ _ ∙ (ap (λ (l : List ℕ). next_record bs ++ l) rest.bytes ∙ with_next bs));
      each = rw is (is, rest.each);
      stops = λ h. rw is (rest.stops (shorter bs n h));
    }

every_in : (n : ℕ) (bs : List ℕ) → WrittenIn n bs
every_in zero [] = record { bytes = refl; each = tt; stops = λ h. none }
every_in zero (b ∷ bs) = record { bytes = refl; each = tt; stops = λ h. absurd (omega arith) }
every_in (suc n) bs =
    cases (is_record (next_record bs)) (λ is. more_in n bs is (every_in n (past_record bs)))
    (λ isnt. record { bytes = rw isnt; each = rw isnt tt; stops = λ h. rw (isnt, isnt) })

pub every_journal : EveryJournal
unfolding parted
every_journal bs = let w = every_in (length bs) bs in record { bytes = w.bytes; each = w.each; stops = w.stops (omega arith) }

pub enough_bytes : EnoughBytes
unfolding next_record
enough_bytes b bs more long = take-append-le (record_length b) (b ∷ bs) more long

pub none_longer : NoneLonger
none_longer b = (record_sizes b).1

-- what holds of no bytes, of a record where it holds past it, and of what is bad, holds of every journal
module _ (P : ℕ → List ℕ → List ℕ → Type 0)
    (at_end : (n : ℕ) (s : List ℕ) → P n [] s)
    (at_record : (n b : ℕ) (bs s : List ℕ) → let r = next_record (b ∷ bs) in is_record r ≡ true → P n (past_record (b ∷ bs)) (after kinds (call_of r) s) → P (suc n) (b ∷ bs) s)
    (at_bad : (n b : ℕ) (bs s : List ℕ) → is_record (next_record (b ∷ bs)) ≡ false → P (suc n) (b ∷ bs) s) where
  pub by_pieces : (n : ℕ) (bs s : List ℕ) → length bs ≤ n → P n bs s
  by_pieces zero [] s h = at_end zero s
  by_pieces zero (b ∷ bs) s h = absurd (omega arith)
  by_pieces (suc n) [] s h = at_end (suc n) s
  by_pieces (suc n) (b ∷ bs) s h =
      let r = next_record (b ∷ bs) in
      cases (is_record r) (λ is. at_record n b bs s is (by_pieces n (past_record (b ∷ bs)) (after kinds (call_of r) s) (shorter (b ∷ bs) n h))) (at_bad n b bs s)

-- pieces played, by at most n of them
abbrev Plays : ℕ → List ℕ → List ℕ → Type 0
Plays n bs s = played (pieces_in n bs) s ≡ lines (history (calls (parted_in n bs)) s) ++ end_line (parted_in n bs).left

play_end : (n : ℕ) (s : List ℕ) → Plays n [] s
unfolding played history
play_end zero s = refl
play_end (suc n) s = rw none

play_record : (n b : ℕ) (bs s : List ℕ) → let r = next_record (b ∷ bs) in is_record r ≡ true
    → Plays n (past_record (b ∷ bs)) (after kinds (call_of r) s) → Plays (suc n) (b ∷ bs) s
unfolding record_line record_after played history
play_record n b bs s is rest = rw (is, rest) (sym (append_assoc (line_of (call_of (next_record (b ∷ bs))) (answer kinds (call_of (next_record (b ∷ bs))) s)) _ _))

play_bad : (n b : ℕ) (bs s : List ℕ) → is_record (next_record (b ∷ bs)) ≡ false → Plays (suc n) (b ∷ bs) s
unfolding record_line played history
play_bad n b bs s isnt = rw isnt

pub plays_whole : PlaysWhole
unfolding replay_from parted pieces
plays_whole bs s = by_pieces Plays play_end play_record play_bad (length bs) bs s (omega arith)

pub replays_whole : ReplaysWhole
replays_whole bs = plays_whole bs (fresh_parts farms)
