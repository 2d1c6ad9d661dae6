-- Each law of specs/Laws.antt at work on calls that are written out, at both ends of its bounds: a law that is made weaker fails here.
-- What a law concludes is written out too, and of each record that a law asks for one is built.
use mathlib.Core.Path.{◌≡◌, refl, ap, ◌∙◌}
use mathlib.Core.Bool.{Bool, true, false}
use mathlib.Core.List.{List, [], ◌∷◌, ◌++◌, map, Memᴰ}
use mathlib.Core.Logic.{inl, inr}
use Prim.Native.Nat.{ℕ, suc, ◌+◌, ◌-◌, ◌≤◌, ◌<◌}
use native.Mathlib.Omega.{arith}
use lib.Dec.{eqb, lit≤, lit<}
use lib.IntN.{pos, negsuc}
use lib.ListN.{length, take, drop}
use borrow.Author.Tests.{eq-eqb, le-ltb, lt-leb}
use Rattle.codes.specs.Code.{got, AllOf, readable}
use Rattle.codes.specs.Number.{number_at, put}
use Rattle.blocks.specs.Block.{block_limit, format_size, value_size, change_block_fits, values_of, block}
use Rattle.blocks.specs.Request.{Request, address, request_blocks, request}
use Rattle.blocks.specs.Response.{response}
use Rattle.blocks.specs.Place.{header_of}
use Rattle.blocks.specs.Page.{RequestFits, request_bytes, ResponseFits, response_bytes}
use Rattle.checker.specs.Check.{check_of}
use Rattle.drive.specs.Cycle.{cycle_of}
use Rattle.catalogue.specs.declared.Row.{Row}
use Rattle.catalogue.specs.Table.{rows, parameter_bytes, offset_of}
use Rattle.catalogue.specs.Element.{element_of, put_element}
use Rattle.versions.specs.Layout.{columns, last_at, last_used, oldest}
use Rattle.versions.specs.Keep.{filled, filled_within}
use Rattle.versions.specs.Version.{settings_of, version_of, is_kept}
use Rattle.part.specs.Layout.{part_size, waiting_length, waiting, with_response, versions, with_version}
use Rattle.part.specs.Fresh.{fresh_front, fresh_part}
use Rattle.part.specs.Record.{drive_of}
use Rattle.part.specs.WellFormed.{well_formed}
use Rattle.access.specs.Work.{worked, exhausts, outcome_of, exhausts_in}
use Rattle.access.proofs.Answers.{answer_short}
use Rattle.station.specs.declared.Framed.{Framed}
use Rattle.station.specs.declared.Listed.{Listed}
use Rattle.station.specs.Parts.{farms, station_size, part_of, station_refusal, fresh_station}
use Rattle.station.specs.Frame.{frame_refusal, frame_reply}
use Rattle.station.specs.declared.Sent.{Sent}
use Rattle.station.specs.Cycle.{SentFits, input_of, cycle_refusal, cycle_answer}
use Rattle.station.specs.Runs.{calls_by, answers_to, SameSeen, run_answers, run_end}
use Rattle.station.specs.Isolation.{Isolated, answer, after, machine}
use Rattle.station.specs.Calls.{Call, cycle, frame, exchange, list, go_back, frame_by, to_frame, to_list, to_return, number_in, stored_in, owner, kinds}
use Rattle.station.specs.Worked.{marks_frame, fetch_frame, worked_calls, merged_calls, whole_calls, version_calls, ended_part, version_part}
use Rattle.station.specs.Laws.{Refuses, WellFormedStation, AtRest, replied, Responded}
use Rattle.station.proofs.Owes.{isolated_station, keeps_size, keeps_others}
use Rattle.station.proofs.Cycles.{tells_what_it_did}
use Rattle.station.proofs.Outcome.{block_numbered, fifteen_exactly}
use Rattle.station.proofs.Refusals.{numbered_by_table, is_refused, empty_reply, reply_stands, foreign_axis, unreadable_block}
use Rattle.station.proofs.Stays.{fresh_parts_lem, never_ill_formed}
use Rattle.station.proofs.Sends.{waits_as_ruled, sends_waiting}
use Rattle.station.proofs.Versioned.{version_taken, versions_stay, version_stands, fresh_uses_none, lists_kept, goes_back, kept_can_return}
use Rattle.station.proofs.Worked.{worked_by_hand, merged_by_hand, whole_by_hand, versions_by_hand}
use Rattle.station.proofs.Responds.{responds_as_ruled, fetch_follows}
use Rattle.station.proofs.Merged.{in_turn, write_alone, read_as_none, merges_as_ruled}
use Rattle.station.proofs.Past.{past_stays}
use Rattle.station.proofs.OwnPasses.{fetched_passes, merged_passes}

-- the numbers at both ends of a cycle's words
largest : Sent
largest = record { flags = 3; stw1 = 65535; nsoll = pos 32767; nist = negsuc 32767; fault = 65535 }

fit : SentFits largest
unfolding largest
fit = record { stw1 = lit< tt; nsoll = lit< tt; nist = lit< tt; fault = lit< tt }

-- IsolatedStation: the first farm and the last
first_alone : SameSeen (machine kinds) (λ s. length s ≡ station_size) (λ c. eqb (owner c) 1) (part_of 1)
unfolding Isolated
first_alone = isolated_station 1 (lit≤ tt) (lit≤ tt)

last_alone : SameSeen (machine kinds) (λ s. length s ≡ station_size) (λ c. eqb (owner c) 16) (part_of 16)
unfolding Isolated
last_alone = isolated_station 16 (lit≤ tt) (lit≤ tt)

-- and written out: a neighbour's frame before it makes no odds to farm 1, on two stations that agree on its part
undisturbed :
    (s t : List ℕ) → length s ≡ station_size → length t ≡ station_size → part_of 1 s ≡ part_of 1 t → (f m g h : List ℕ)
    → (answer kinds (frame 1 f m) (after kinds (frame 2 g h) s) ∷ [] ≡ answer kinds (frame 1 f m) t ∷ [])
    × (part_of 1 (after kinds (frame 1 f m) (after kinds (frame 2 g h) s)) ≡ part_of 1 (after kinds (frame 1 f m) t))
unfolding Isolated SameSeen calls_by answers_to run_answers run_end
undisturbed s t size size-t same f m g h =
    isolated_station 1 (lit≤ tt) (lit≤ tt) s t size size-t same (frame 2 g h ∷ frame 1 f m ∷ []) (frame 1 f m ∷ []) refl

-- and neither does a merged call
undisturbed_by_merged :
    (s t : List ℕ) → length s ≡ station_size → length t ≡ station_size → part_of 1 s ≡ part_of 1 t → (f m g h : List ℕ)
    → answer kinds (exchange 1 f m) (after kinds (exchange 2 g h) s) ∷ [] ≡ answer kinds (exchange 1 f m) t ∷ []
unfolding Isolated SameSeen calls_by answers_to run_answers run_end
undisturbed_by_merged s t size size-t same f m g h =
    (isolated_station 1 (lit≤ tt) (lit≤ tt) s t size size-t same (exchange 2 g h ∷ exchange 1 f m ∷ []) (exchange 1 f m ∷ []) refl).0

-- KeepsSize: memory without a byte
no_memory : (c : Call) → length (after kinds c []) ≡ 0
no_memory c = keeps_size c []

module _ (s : List ℕ) (size : length s ≡ station_size) where
  -- KeepsOthers: of the neighbours at both ends, and of a farm that there is not
  last_kept : (f m : List ℕ) → part_of 16 (after kinds (frame 1 f m) s) ≡ part_of 16 s
  last_kept f m = keeps_others (frame 1 f m) s size 16 (lit≤ tt) (lit≤ tt) (λ e. omega arith)

  first_kept : (i : Sent) → part_of 1 (after kinds (cycle 16 i) s) ≡ part_of 1 s
  first_kept i = keeps_others (cycle 16 i) s size 1 (lit≤ tt) (lit≤ tt) (λ e. omega arith)

  nobody_kept : (i : Sent) → part_of 16 (after kinds (cycle 17 i) s) ≡ part_of 16 s
  nobody_kept i = keeps_others (cycle 17 i) s size 16 (lit≤ tt) (lit≤ tt) (λ e. omega arith)

  -- FreshParts: the first and the last
  first_fresh : part_of 1 (fresh_station s) ≡ fresh_part
  first_fresh = fresh_parts_lem s size 1 (lit≤ tt) (lit≤ tt)

  last_fresh : part_of 16 (fresh_station s) ≡ fresh_part
  last_fresh = fresh_parts_lem s size 16 (lit≤ tt) (lit≤ tt)

  -- NeverIllFormed: any frame, merged call, going back and list of any farm, between cycles with the largest words
  never_2 : (k n : ℕ) (f m : List ℕ)
      → AllOf (λ a. number_in a ≡ 2 → ⊥) (run_answers (machine kinds) (cycle 16 largest ∷ frame k f m ∷ exchange k f m ∷ go_back k n ∷ list k ∷ cycle k largest ∷ []) (fresh_station s))
  never_2 k n f m =
      (never_ill_formed (cycle 16 largest ∷ frame k f m ∷ exchange k f m ∷ go_back k n ∷ list k ∷ cycle k largest ∷ []) s (fit, (tt, (tt, (tt, (tt, (fit, tt)))))) size).never2

  formed_end : (k : ℕ) (f m : List ℕ) → well_formed 16 (part_of 16 (run_end (machine kinds) (frame k f m ∷ []) (fresh_station s))) ≡ true
  formed_end k f m = (never_ill_formed (frame k f m ∷ []) s (tt, tt) size).ends.parts 16 (lit≤ tt) (lit≤ tt)

  -- AtRest: every farm of a fresh station
  rests : (k : ℕ) → 1 ≤ k → k ≤ farms → AtRest k (fresh_station s)
  unfolding run_end fresh_front fresh_part rows parameter_bytes put_element columns last_at filled filled_within number_at put
  rests k low high =
      record {
        low = low;
        high = high;
        size = (never_ill_formed [] s tt size).ends.size;
        formed = (never_ill_formed [] s tt size).ends.parts k low high;
        idle = ap waiting_length (fresh_parts_lem s size k low high);
      }

  -- WorkedByHand: nine calls, their answers, and the parts of farms 1, 2 and 16
  abbrev calls : List Call
  calls = map (λ w. w.call) worked_calls

  abbrev end : List ℕ
  end = run_end (machine kinds) calls (fresh_station s)

  by_hand :
      (length calls ≡ 9) × (run_answers (machine kinds) calls (fresh_station s) ≡ map (λ w. w.answer) worked_calls) × (length end ≡ station_size)
      × (part_of 1 end ≡ ended_part) × (part_of 2 end ≡ fresh_part) × (part_of 16 end ≡ fresh_part)
  by_hand = let w = worked_by_hand s size in (refl, w.answered, w.size, w.first, w.others 2 (lit≤ tt) (lit≤ tt), w.others 16 (lit≤ tt) (lit≤ tt))

  -- MergedByHand: four merged calls
  merged_by_hand_too :
      (length merged_calls ≡ 4) × (run_answers (machine kinds) (map (λ w. w.call) merged_calls) (fresh_station s) ≡ map (λ w. w.answer) merged_calls)
      × (part_of 1 (run_end (machine kinds) (map (λ w. w.call) merged_calls) (fresh_station s)) ≡ fresh_part)
  merged_by_hand_too = let w = merged_by_hand s size in (refl, w.0, w.1)

  -- WholeByHand: two changes
  whole_by_hand_too :
      (length whole_calls ≡ 2) × (run_answers (machine kinds) (map (λ w. w.call) whole_calls) (fresh_station s) ≡ map (λ w. w.answer) whole_calls)
      × (part_of 1 (run_end (machine kinds) (map (λ w. w.call) whole_calls) (fresh_station s))
      ≡ with_version
      (put
      (put (with_version (put fresh_part (offset_of 30001) (0x03 ∷ 0xE8 ∷ 0x07 ∷ 0xD0 ∷ 0x0B ∷ 0xB8 ∷ 0x01 ∷ 0xF4 ∷ []))) (offset_of 30001)
      (0x00 ∷ 0x01 ∷ 0x00 ∷ 0x02 ∷ 0x0B ∷ 0xB8 ∷ 0x01 ∷ 0xF4 ∷ []))
      (offset_of 9900)
      (0x00 ∷ 0x07 ∷ [])))
  whole_by_hand_too = let w = whole_by_hand s size in (refl, w.0, w.1)

  -- VersionsByHand: these, and seven lists and goings back
  versions_by_hand_too :
      (length version_calls ≡ 9) × (run_answers (machine kinds) (map (λ w. w.call) version_calls) (fresh_station s) ≡ map (λ w. w.answer) version_calls)
      × (part_of 1 (run_end (machine kinds) (map (λ w. w.call) version_calls) (fresh_station s)) ≡ version_part)
  versions_by_hand_too = let w = versions_by_hand s size in (refl, w.0, w.1)

  -- FreshUsesNone: the first and the last
  first_unused : last_used (versions (part_of 1 (fresh_station s))) ≡ 0
  first_unused = fresh_uses_none s size 1 (lit≤ tt) (lit≤ tt)

  last_unused : last_used (versions (part_of 16 (fresh_station s))) ≡ 0
  last_unused = fresh_uses_none s size 16 (lit≤ tt) (lit≤ tt)

  -- VersionsStay: a cycle leaves those of its own axis, and so does a going back that stores nothing those of any
  cycle_stays : (i : Sent) → versions (part_of 16 (after kinds (cycle 16 i) s)) ≡ versions (part_of 16 s)
  unfolding answer station_refusal
  cycle_stays i = versions_stay (cycle 16 i) s size (rw (eq-eqb (length s) station_size size)) 16 (lit≤ tt) (lit≤ tt)

  refused_stays : (k n : ℕ) → stored_in (answer kinds (go_back k n) s) ≡ 0 → versions (part_of 1 (after kinds (go_back k n) s)) ≡ versions (part_of 1 s)
  refused_stays k n none = versions_stay (go_back k n) s size none 1 (lit≤ tt) (lit≤ tt)

-- Refused and NumberedByTable: an axis that there is not
nobody : (i : Sent) (s : List ℕ) → Refuses (cycle 17 i) s
nobody i s = is_refused (cycle 17 i) s (λ e. let n = numbered_by_table (cycle 17 i) s in omega arith)

-- EmptyReply: the least of its numbers and the largest, which a read in a merged call has too
farm_0 : (f m s : List ℕ) → answer kinds (frame 0 f m) s ≡ to_frame (record { length = 0; stored = 0; number = 1 }) m
farm_0 f m s = empty_reply false 0 f m s 1 (numbered_by_table (frame 0 f m) s) (lit≤ tt) (lit≤ tt)

module _ (m s : List ℕ) (w : WellFormedStation s) (room : 244 ≤ length m) where
  no_frame : answer kinds (frame 1 [] m) s ≡ to_frame (record { length = 0; stored = 0; number = 4 }) m
  no_frame =
      empty_reply false 1 [] m s 4
      (numbered_by_table (frame 1 [] m) s
      ∙ rw (eq-eqb (length s) station_size w.size, w.parts 1 (lit≤ tt) (lit≤ tt), le-ltb (length m) 244 room))
      (lit≤ tt) (lit≤ tt)

  merged_read : answer kinds (exchange 16 fetch_frame m) s ≡ to_frame (record { length = 0; stored = 0; number = 4 }) m
  merged_read =
      empty_reply true 16 fetch_frame m s 4
      (numbered_by_table (exchange 16 fetch_frame m) s
      ∙ rw (eq-eqb (length s) station_size w.size, w.parts 16 (lit≤ tt) (lit≤ tt), le-ltb (length m) 244 room))
      (lit≤ tt) (lit≤ tt)

-- ForeignAxis: farm 2 with the frame of farm 1, and farm 1 with a block of axis 2; UnreadableBlock: none, and one byte of it
module _ (m s : List ℕ) where
  denied : Refuses (frame 2 marks_frame m) s
  unfolding number_at
  denied = foreign_axis false 2 marks_frame m s refl (λ e. omega arith)

  denied_merged : Refuses (exchange 2 marks_frame m) s
  unfolding number_at
  denied_merged = foreign_axis true 2 marks_frame m s refl (λ e. omega arith)

  denied_too : Refuses (frame 1 (0x5F ∷ 0 ∷ 0x2F ∷ 4 ∷ 7 ∷ 1 ∷ 2 ∷ 0 ∷ []) m) s
  unfolding number_at
  denied_too = foreign_axis false 1 (0x5F ∷ 0 ∷ 0x2F ∷ 4 ∷ 7 ∷ 1 ∷ 2 ∷ 0 ∷ []) m s refl (λ e. omega arith)

  blockless : (k : ℕ) → Refuses (frame k (0x5F ∷ 0 ∷ 0x2F ∷ 0 ∷ []) m) s
  unfolding readable request
  blockless k = unreadable_block false k (0x5F ∷ 0 ∷ 0x2F ∷ 0 ∷ []) m s refl refl

  one_byte : (k : ℕ) → Refuses (exchange k (0x5F ∷ 0 ∷ 0x2F ∷ 1 ∷ 7 ∷ []) m) s
  unfolding readable request
  one_byte k = unreadable_block true k (0x5F ∷ 0 ∷ 0x2F ∷ 1 ∷ 7 ∷ []) m s refl refl

  -- what a refusal is
  denied_kept : (after kinds (frame 2 marks_frame m) s ≡ s) × (number_in (answer kinds (frame 2 marks_frame m) s) ≡ 0 → ⊥)
  denied_kept = (denied.kept, denied.number)

-- BlockNumbered: all three numbers
ten : (k : ℕ) (p : List ℕ) → (outcome_of k [] p).number ≡ 10
unfolding readable request
ten k p = block_numbered k [] p

eleven : (p : List ℕ) → (outcome_of 2 (drop 4 marks_frame) p).number ≡ 11
unfolding readable request number_at format_size value_size change_block_fits values_of block address request_blocks
eleven p = block_numbered 2 (drop 4 marks_frame) p

fifteen : (s p : List ℕ) → readable block_limit request s ≡ true → (header_of s).axis ≡ 16 → exhausts_in p (request.read s) ≡ true → (outcome_of 16 s p).number ≡ 15
fifteen s p reads mine up = block_numbered 16 s p ∙ rw (reads, eq-eqb (header_of s).axis 16 mine, up)

-- NumberedByTable: flags 4, and version 0, on any well-formed station
flagged : (s : List ℕ) → WellFormedStation s → number_in (answer kinds (cycle 1 (record { flags = 4; stw1 = 0; nsoll = pos 0; nist = pos 0; fault = 0 })) s) ≡ 12
flagged s w =
    numbered_by_table (cycle 1 (record { flags = 4; stw1 = 0; nsoll = pos 0; nist = pos 0; fault = 0 })) s
    ∙ rw (eq-eqb (length s) station_size w.size, w.parts 1 (lit≤ tt) (lit≤ tt))

unkept : (s : List ℕ) → WellFormedStation s → number_in (answer kinds (go_back 16 0) s) ≡ 14
unkept s w =
    numbered_by_table (go_back 16 0) s
    ∙ rw (eq-eqb (length s) station_size w.size, w.parts 16 (lit≤ tt) (lit≤ tt), lt-leb (oldest (versions (part_of 16 s))) 0 (omega arith))

-- ReplyStands: the four bytes of a denial, and nothing past them
denial : (m p : List ℕ) → frame_refusal 2 marks_frame (length m) p ≡ 11 → frame_reply 2 marks_frame m p ≡ (0xDF ∷ 0x80 ∷ 0xB6 ∷ 0 ∷ []) ++ drop 4 m
denial m p e = reply_stands 2 marks_frame m p ∙ rw e refl

denial_used_up : (m p : List ℕ) → frame_refusal 1 marks_frame (length m) p ≡ 15 → frame_reply 1 marks_frame m p ≡ (0xDF ∷ 0x80 ∷ 0xA1 ∷ 0 ∷ []) ++ drop 4 m
denial_used_up m p e = reply_stands 1 marks_frame m p ∙ rw e refl

-- WaitsAsRuled and SendsWaiting: what waits, and what a fetch sends, is readable
waits : (k : ℕ) (s p : List ℕ) (r : Request) → length p ≡ part_size → readable block_limit request s ≡ true → request.read s ≡ got r [] → r.axis ≡ k → exhausts r p ≡ false
    → readable block_limit response (waiting (outcome_of k s p).part) ≡ true
waits k s p r size reads back mine left = (waits_as_ruled k s p r size reads back mine left).1

sent :
    (k : ℕ) (m p : List ℕ) → frame_refusal k fetch_frame (length m) p ≡ 0
    → (frame_reply k fetch_frame m p ≡ put m 0 (0x5E ∷ 0 ∷ 0x2F ∷ waiting_length p ∷ waiting p)) × (readable block_limit response (waiting p) ≡ true)
sent k m p e = sends_waiting k fetch_frame m p e refl

-- RespondsAsRuled: farm 1 and farm 16, with as many bytes as wait and with the most, nothing between and a call of each kind
module _ (r : Request) (fits : RequestFits r) (short : length (request_bytes r) ≤ 240) (s m w : List ℕ) (room : 244 ≤ length m) (wide : 244 ≤ length w) where
  least : AtRest 1 s → r.axis ≡ 1 → exhausts r (part_of 1 s) ≡ false → Responded 1 r s m [] (length (response_bytes (worked r (part_of 1 s)).response)) w
  least rest mine left = responds_as_ruled 1 r s m [] _ w rest fits short mine left room tt (omega arith) (answer_short r (part_of 1 s) fits) wide

  -- Between: a cycle, a write and a merged call of the farm's own, and a read of another's
  most : (f g h : List ℕ) → AtRest 16 s → r.axis ≡ 16 → exhausts r (part_of 16 s) ≡ false
      → Responded 16 r s m (cycle 16 largest ∷ frame 16 marks_frame g ∷ exchange 16 f h ∷ frame 15 fetch_frame g ∷ []) 240 w
  most f g h rest mine left =
      responds_as_ruled 16 r s m (cycle 16 largest ∷ frame 16 marks_frame g ∷ exchange 16 f h ∷ frame 15 fetch_frame g ∷ []) 240 w rest fits short mine left room
      (record { fits = λ e. fit; stays = λ e. inl refl }, (record { fits = λ e. tt; stays = λ e. inl refl }, (record { fits = λ e. tt; stays = λ e. inl refl }, (record { fits = λ e. tt; stays = λ e. absurd (omega arith) }, tt))))
      (answer_short r (part_of 16 s) fits) (lit≤ tt) wide

  -- MergesAsRuled: what a merged call answers, and that nothing waits then
  merged : AtRest 16 s → r.axis ≡ 16 → exhausts r (part_of 16 s) ≡ false
      → (answer kinds (exchange 16 (0x5F ∷ 0 ∷ 0x2F ∷ length (request_bytes r) ∷ request_bytes r) m) s
      ≡ replied (0x5E ∷ 0 ∷ 0x2F ∷ length (response_bytes (worked r (part_of 16 s)).response) ∷ response_bytes (worked r (part_of 16 s)).response) (worked r (part_of 16 s)).stored m)
      × (waiting_length (part_of 16 (after kinds (exchange 16 (0x5F ∷ 0 ∷ 0x2F ∷ length (request_bytes r) ∷ request_bytes r) m) s)) ≡ 0)
      × (part_of 16 (after kinds (exchange 16 (0x5F ∷ 0 ∷ 0x2F ∷ length (request_bytes r) ∷ request_bytes r) m) s) ≡ with_response [] (worked r (part_of 16 s)).part)
  merged rest mine left = let x = merges_as_ruled 16 r s m rest fits short mine left room in (x.answered, x.idle, x.left)

  -- and written out: what is acknowledged, what is fetched, and that nothing waits then
  module _ (rest : AtRest 1 s) (mine : r.axis ≡ 1) (left : exhausts r (part_of 1 s) ≡ false) where
    abbrev given : List ℕ
    given = response_bytes (worked r (part_of 1 s)).response

    abbrev wrote : List ℕ
    wrote = after kinds (frame 1 (0x5F ∷ 0 ∷ 0x2F ∷ length (request_bytes r) ∷ request_bytes r) m) s

    exchanged :
        (answer kinds (frame 1 (0x5F ∷ 0 ∷ 0x2F ∷ length (request_bytes r) ∷ request_bytes r) m) s
        ≡ to_frame (record { length = 4; stored = (worked r (part_of 1 s)).stored; number = 0 }) ((0x5F ∷ 0 ∷ 0x2F ∷ length (request_bytes r) ∷ []) ++ drop 4 m))
        × (answer kinds (frame 1 fetch_frame w) wrote ≡ replied (0x5E ∷ 0 ∷ 0x2F ∷ length given ∷ given) 0 w)
        × (waiting_length (part_of 1 (after kinds (frame 1 fetch_frame w) wrote)) ≡ 0)
        × ResponseFits (worked r (part_of 1 s)).response
        × (length given ≤ 240)
    unfolding run_end
    exchanged =
        let x = responds_as_ruled 1 r s m [] 240 w rest fits short mine left room tt (answer_short r (part_of 1 s) fits) (lit≤ tt) wide in
        (x.acknowledged, x.answered, x.idle, x.fits, x.short)

-- FetchFollows, InTurn, WriteAlone, PastStays and ReadAsNone: the worked write, on any station and with any reply memory
module _ (m s : List ℕ) where
  fetch_done : (w : List ℕ) → 244 ≤ length w → number_in (answer kinds (frame 1 marks_frame m) s) ≡ 0
      → number_in (answer kinds (frame 1 fetch_frame w) (after kinds (exchange 1 marks_frame w) (after kinds (frame 1 marks_frame m) s))) ≡ 0
  unfolding run_end
  fetch_done w wide done = fetch_follows 1 marks_frame m s (exchange 1 marks_frame w ∷ []) w refl done (record { fits = λ e. tt; stays = λ e. inl refl }, tt) wide

  two_calls : (write fetch : Framed) (m' m'' : List ℕ) → answer kinds (frame 1 marks_frame m) s ≡ to_frame write m' → write.number ≡ 0
      → answer kinds (frame 1 fetch_frame m') (after kinds (frame 1 marks_frame m) s) ≡ to_frame fetch m''
      → (answer kinds (exchange 1 marks_frame m) s ≡ to_frame (record { length = fetch.length; stored = write.stored; number = 0 }) m'')
      × (after kinds (exchange 1 marks_frame m) s ≡ after kinds (frame 1 fetch_frame m') (after kinds (frame 1 marks_frame m) s))
  two_calls write fetch m' m'' first done second = in_turn 1 marks_frame m s write fetch m' m'' refl first done second

  one_call : (number_in (answer kinds (frame 2 marks_frame m) s) ≡ 0 → ⊥)
      → (answer kinds (exchange 2 marks_frame m) s ≡ answer kinds (frame 2 marks_frame m) s) × (after kinds (exchange 2 marks_frame m) s ≡ after kinds (frame 2 marks_frame m) s)
  one_call refused = write_alone 2 marks_frame m s refl refused

  beyond : (merged : Bool) (a : Framed) (w : List ℕ) → answer kinds (frame_by merged 1 marks_frame m) s ≡ to_frame a w
      → (a.length ≤ 244) × (length w ≡ length m) × (drop a.length w ≡ drop a.length m)
  beyond merged a w e = past_stays merged 1 marks_frame m s a w e

  -- ReadAsNone: a read of another slot with a byte behind it, of the last farm
  read_as_no_frame :
      (answer kinds (exchange 16 (0x5E ∷ 1 ∷ 0x2F ∷ 0 ∷ 0 ∷ []) m) s ≡ answer kinds (frame 16 [] m) s) × (after kinds (exchange 16 (0x5E ∷ 1 ∷ 0x2F ∷ 0 ∷ 0 ∷ []) m) s ≡ s)
  read_as_no_frame = read_as_none 16 (0x5E ∷ 1 ∷ 0x2F ∷ 0 ∷ 0 ∷ []) m s refl

-- FetchedPasses and MergedPasses: a fetch of 8 bytes after the worked write, with one between that was refused, and any merged call of the
-- last farm
module _ (m s : List ℕ) where
  abbrev wrote_marks : List ℕ
  wrote_marks = after kinds (frame 1 marks_frame m) s

  fetched_block : (w w' : List ℕ) (a : Framed) → number_in (answer kinds (frame 1 marks_frame m) s) ≡ 0 → number_in (answer kinds (frame 1 (0x5E ∷ 0 ∷ 0x2F ∷ 7 ∷ []) w) wrote_marks) ≡ 9
      → answer kinds (frame 1 (0x5E ∷ 0 ∷ 0x2F ∷ 8 ∷ []) w) (after kinds (frame 1 (0x5E ∷ 0 ∷ 0x2F ∷ 7 ∷ []) w) wrote_marks) ≡ to_frame a w' → a.number ≡ 0
      → check_of (drop 4 marks_frame) (take (a.length - 4) (drop 4 w')) ≡ 0
  unfolding run_end
  fetched_block w w' a done nine e n =
      fetched_passes 1 marks_frame m s (frame 1 (0x5E ∷ 0 ∷ 0x2F ∷ 7 ∷ []) w ∷ []) (0x5E ∷ 0 ∷ 0x2F ∷ 8 ∷ []) w a w' refl done
      (record { fits = λ z. tt; stays = λ z. inr (λ none. omega arith) }, tt) refl e n

  merged_block : (f w : List ℕ) (a : Framed) → answer kinds (exchange 16 f m) s ≡ to_frame a w → a.number ≡ 0 → check_of (drop 4 f) (take (a.length - 4) (drop 4 w)) ≡ 0
  merged_block f w a e n = merged_passes 16 f m s a w e n

-- TellsWhatItDid: both, of the last axis
module _ (i : Sent) (p : List ℕ) (fine : cycle_refusal 16 i p ≡ 0) where
  told_acknowledge : (cycle_of (drive_of p) (input_of i p)).output.acknowledged ≡ true → (cycle_answer 16 i p).acknowledged ≡ true
  told_acknowledge e = (tells_what_it_did 16 i p fine).0 ∙ e

  told_entry : (cycle_of (drive_of p) (input_of i p)).output.entered ≡ true → (cycle_answer 16 i p).entered ≡ true
  told_entry e = (tells_what_it_did 16 i p fine).1 ∙ e

-- VersionTaken and VersionStands: any frame that stores, of the last farm; and after it a cycle, a going back and a neighbour's merged call
module _ (f m s : List ℕ) (some : stored_in (answer kinds (frame 16 f m) s) ≡ 0 → ⊥) where
  abbrev changed : List ℕ
  changed = after kinds (frame 16 f m) s

  took :
      (last_used (versions (part_of 16 changed)) ≡ suc (last_used (versions (part_of 16 s))))
      × (version_of (last_used (versions (part_of 16 changed))) (versions (part_of 16 changed)) ≡ settings_of (part_of 16 changed))
      × ((n : ℕ) → n ≤ last_used (versions (part_of 16 s)) → is_kept n (versions (part_of 16 changed)) ≡ true
      → version_of n (versions (part_of 16 changed)) ≡ version_of n (versions (part_of 16 s)))
  took = let t = version_taken (frame 16 f m) s some in (t.next, t.settings, t.kept)

  stands :
      (i : Sent) (n : ℕ) (g h : List ℕ)
      → let end = after kinds (exchange 15 g h) (after kinds (go_back 16 n) (after kinds (cycle 16 i) changed)) in
      is_kept (last_used (versions (part_of 16 changed))) (versions (part_of 16 end)) ≡ true
      → version_of (last_used (versions (part_of 16 changed))) (versions (part_of 16 end)) ≡ settings_of (part_of 16 changed)
  unfolding run_end
  stands i n g h kept = version_stands (frame 16 f m) s (cycle 16 i ∷ go_back 16 n ∷ exchange 15 g h ∷ []) some kept

-- ListsKept: that of the last farm tells no other number, and every one that is kept
module _ (s : List ℕ) (a : Listed) (e : answer kinds (list 16) s ≡ to_list a) (z : a.number ≡ 0) (n : ℕ) where
  told_kept : a.oldest ≤ n → n < a.oldest + a.kept → is_kept n (versions (part_of 16 s)) ≡ true
  told_kept low high = (lists_kept 16 s a e z n).1 (low, high)

  kept_told : is_kept n (versions (part_of 16 s)) ≡ true → (a.oldest ≤ n) × (n < a.oldest + a.kept)
  kept_told = (lists_kept 16 s a e z n).0

-- GoesBack: of the last farm
module _ (n : ℕ) (s : List ℕ) (z : number_in (answer kinds (go_back 16 n) s) ≡ 0) where
  went_back :
      (answer kinds (go_back 16 n) s ≡ to_return (record { stored = 18; version = suc (last_used (versions (part_of 16 s))); number = 0 }))
      × (settings_of (part_of 16 (after kinds (go_back 16 n) s)) ≡ version_of n (versions (part_of 16 s)))
  went_back = let w = goes_back 16 n s z in (w.answered, w.settings)

  not_rewound :
      (r : Row) → Memᴰ r rows → r.writable ≡ false → (j : ℕ) → j < r.count
      → (element_of r j (part_of 16 (after kinds (go_back 16 n) s)) ≡ element_of r j (part_of 16 s))
      × (take 244 (drop 118 (part_of 16 (after kinds (go_back 16 n) s))) ≡ take 244 (drop 118 (part_of 16 s)))
  unfolding parameter_bytes rows
  not_rewound r m fixed j h = let w = goes_back 16 n s z in (w.others r m fixed j h, w.rest)

-- KeptCanReturn: of the last farm, to the last version but one that can be
module _ (s : List ℕ) (size : length s ≡ station_size) (formed : well_formed 16 (part_of 16 s) ≡ true) where
  can_return : last_used (versions (part_of 16 s)) ≡ 65534 → is_kept 65519 (versions (part_of 16 s)) ≡ true → number_in (answer kinds (go_back 16 65519) s) ≡ 0
  can_return last kept = kept_can_return 16 65519 s (lit≤ tt) (lit≤ tt) size formed kept (omega arith)

-- FifteenExactly: one number before the last there is no 15, whatever would be stored; after it there is one where something would be
module _ (s p : List ℕ) (r : Request) (reads : readable block_limit request s ≡ true) (is : request.read s ≡ got r []) (axis : r.axis ≡ 16) where
  not_yet : last_used (versions p) ≡ 65534 → (outcome_of 16 s p).number ≡ 15 → ⊥
  not_yet last e = omega (arith, ((fifteen_exactly 16 s p r reads is axis).0 e).0)

  then_refused : last_used (versions p) ≡ 65535 → ((worked r p).stored ≡ 0 → ⊥) → (outcome_of 16 s p).number ≡ 15
  then_refused last some = (fifteen_exactly 16 s p r reads is axis).1 (last, some)

  not_for_nothing : (worked r p).stored ≡ 0 → (outcome_of 16 s p).number ≡ 15 → ⊥
  not_for_nothing none e = ((fifteen_exactly 16 s p r reads is axis).0 e).1 none
