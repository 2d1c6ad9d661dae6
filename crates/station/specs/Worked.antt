-- Document 01, "Journal program" and "Worked by hand": P1 to P8, the calls on a fresh station in order, what each answers, and how
-- the station ends, where R-6 of document 02 changes P5; frames of these as merged calls (R-3); changes that store (R-6); and a list and
-- a going back (R-7).
use Rattle.std.specs.Prelude.{◌≡◌, Bool, true, false, List, [], ◌∷◌, ◌++◌, map, ℕ, ◌-◌, ◌≤◌, pos, length, replicate}
use Rattle.codes.specs.Number.{put}
use Rattle.drive.specs.declared.states.State.TheVariants.{S1}
use Rattle.drive.specs.Speed.{still}
use Rattle.drive.specs.Faults.{no_faults}
use Rattle.catalogue.specs.Table.{offset_of}
use Rattle.part.specs.Layout.{with_version}
use Rattle.part.specs.Fresh.{fresh_part}
use Rattle.part.specs.Record.{words_at, put_drive}
use Rattle.station.specs.Parts.{farms, station_size, part_of, fresh_station}
use Rattle.station.specs.Runs.{run_answers, run_end}
use Rattle.station.specs.Isolation.{machine}
use Rattle.station.specs.Calls.{Call, cycle, frame, exchange, list, go_back, Answer, to_cycle, to_frame, to_list, to_return, kinds}

pub record WorkedCall : Type 0 where
  pub call : Call
  pub answer : Answer

-- a cycle on axis 1, all unnamed fields 0, and its line: state, ZSW1, rpm; and whether it entered S4
abbrev pub cycle_example : ℕ → ℕ → ℕ → ℕ → ℕ → Bool → WorkedCall
cycle_example stw1 nsoll state status rpm entered =
    record {
      call = cycle 1 (record { flags = 0; stw1 = stw1; nsoll = pos nsoll; nist = pos 0; fault = 0 });
      answer = to_cycle (record { told = record { rpm = pos rpm; status = status; state = state; number = 0 }; acknowledged = false; entered = entered });
    }

-- a frame with 244 bytes of reply memory, and its line: elements stored, and the reply, past which nothing changes; and its number
abbrev pub frame_example : ℕ → List ℕ → ℕ → List ℕ → ℕ → WorkedCall
frame_example farm f stored reply number =
    record {
      call = frame farm f (replicate 244 0);
      answer = to_frame (record { length = length reply; stored = stored; number = number }) (reply ++ replicate (244 - length reply) 0);
    }

-- "The write frame: 5F 00 2F 10 07 02 01 01 10 02 75 31 00 00 42 02 03 E8 0B B9": marks 1000 and 3001
abbrev pub marks_frame : List ℕ
marks_frame =
    0x5F ∷ 0x00 ∷ 0x2F ∷ 0x10 ∷ 0x07 ∷ 0x02 ∷ 0x01 ∷ 0x01 ∷ 0x10 ∷ 0x02 ∷ 0x75 ∷ 0x31 ∷ 0x00 ∷ 0x00 ∷ 0x42 ∷ 0x02 ∷ 0x03 ∷ 0xE8
    ∷ 0x0B ∷ 0xB9 ∷ []

-- "fetches with F0"
abbrev pub fetch_frame : List ℕ
fetch_frame = 0x5E ∷ 0x00 ∷ 0x2F ∷ 0xF0 ∷ []

-- an address of all 947, and what it reads where no situation has a code
abbrev pub all947 : List ℕ
all947 = 0x10 ∷ 0x20 ∷ 0x03 ∷ 0xB3 ∷ 0x00 ∷ 0x00 ∷ []

abbrev pub empty947 : List ℕ
empty947 = 0x42 ∷ 0x20 ∷ replicate 64 0

-- "four reads of all 947 (the fourth gets 0x15; block length 206)"
abbrev pub reads_frame : List ℕ
reads_frame = 0x5F ∷ 0x00 ∷ 0x2F ∷ 0x1C ∷ 0x08 ∷ 0x01 ∷ 0x01 ∷ 0x04 ∷ all947 ++ all947 ++ all947 ++ all947

abbrev pub reads_reply : List ℕ
reads_reply =
    0x5E ∷ 0x00 ∷ 0x2F ∷ 206 ∷ 0x08 ∷ 0x81 ∷ 0x01 ∷ 0x04 ∷ empty947 ++ empty947 ++ empty947 ++ (0x44 ∷ 0x01 ∷ 0x00 ∷ 0x15 ∷ [])

-- the four cycles (P1 to P4), the two frames of farm 1 (P5, P6), the denied frame (P7), and the four reads with their fetch (P8); by
-- R-6, "The worked frame now reports 0 stored, not 1, mark 0 stays 0"
abbrev pub worked_calls : List WorkedCall
worked_calls =
    cycle_example 0x047E 0 2 0x0331 0 false
    ∷ cycle_example 0x047F 0 3 0x0333 0 false
    ∷ cycle_example 0x047F 0x2000 4 0x0237 750 true
    ∷ cycle_example 0x047D 0 1 0x0360 0 false
    ∷ frame_example 1 marks_frame 0 (0x5F ∷ 0x00 ∷ 0x2F ∷ 0x10 ∷ []) 0
    ∷ frame_example 1 fetch_frame 0 (0x5E ∷ 0x00 ∷ 0x2F ∷ 0x08 ∷ 0x07 ∷ 0x82 ∷ 0x01 ∷ 0x01 ∷ 0x44 ∷ 0x01 ∷ 0x00 ∷ 0x02 ∷ []) 0
    ∷ frame_example 2 marks_frame 0 (0xDF ∷ 0x80 ∷ 0xB6 ∷ 0x00 ∷ []) 11
    ∷ frame_example 1 reads_frame 0 (0x5F ∷ 0x00 ∷ 0x2F ∷ 0x1C ∷ []) 0
    ∷ frame_example 1 fetch_frame 0 reads_reply 0
    ∷ []

-- Document 02, R-3, on the same frames: the two frames of P5 and P6 as one merged call, the denied one, a read, and P8's as one
abbrev pub exchange_example : ℕ → List ℕ → ℕ → List ℕ → ℕ → WorkedCall
exchange_example farm f stored reply number =
    record { call = exchange farm f (replicate 244 0); answer = (frame_example farm f stored reply number).answer }

abbrev pub merged_calls : List WorkedCall
merged_calls =
    exchange_example 1 marks_frame 0 (0x5E ∷ 0x00 ∷ 0x2F ∷ 0x08 ∷ 0x07 ∷ 0x82 ∷ 0x01 ∷ 0x01 ∷ 0x44 ∷ 0x01 ∷ 0x00 ∷ 0x02 ∷ []) 0
    ∷ exchange_example 2 marks_frame 0 (0xDF ∷ 0x80 ∷ 0xB6 ∷ 0x00 ∷ []) 11
    ∷ exchange_example 1 fetch_frame 0 [] 4
    ∷ exchange_example 1 reads_frame 0 reads_reply 0
    ∷ []

-- farm 1's part when 01's calls are over: fresh, but for what the four cycles left in its drive record
abbrev pub ended_part : List ℕ
ended_part =
    put_drive
    (record {
      motion = record {
        state = S1;
        word = 0x047D;
        setpoint = still;
        effective = still;
        status = 0x0360;
        actual = still;
      };
      faults = no_faults;
    })
    fresh_part

-- what is answered, and how the station ends
pub record Ends (answers : List Answer) (end : List ℕ) : Type 0 where
  pub answered : answers ≡ map (λ w. w.answer) worked_calls
  pub size : length end ≡ station_size
  pub marks : words_at 4 (part_of 1 end) (offset_of 30001) ≡ 0 ∷ 0 ∷ 0 ∷ 0 ∷ []
  pub first : part_of 1 end ≡ ended_part
  pub others : (k : ℕ) → 2 ≤ k → k ≤ farms → part_of k end ≡ fresh_part

-- whatever stood in the memory before
abbrev pub WorkedByHand : Type 0
WorkedByHand =
    (s : List ℕ) → length s ≡ station_size
    → let calls = map (λ w. w.call) worked_calls in
    Ends (run_answers (machine kinds) calls (fresh_station s)) (run_end (machine kinds) calls (fresh_station s))

-- calls on a fresh station, whatever stood in the memory before: what they answer, and farm 1's part when they are over
abbrev pub ByHand : List WorkedCall → List ℕ → Type 0
ByHand them first =
    (s : List ℕ) → length s ≡ station_size
    → let calls = map (λ w. w.call) them in
    (run_answers (machine kinds) calls (fresh_station s) ≡ map (λ w. w.answer) them)
    × (part_of 1 (run_end (machine kinds) calls (fresh_station s)) ≡ first)

-- the merged calls leave it fresh
abbrev pub MergedByHand : Type 0
MergedByHand = ByHand merged_calls fresh_part

-- R-6, all four marks inside their limits: 1000, 2000, 3000 and 500
abbrev pub all_marks_frame : List ℕ
all_marks_frame =
    0x5F ∷ 0x00 ∷ 0x2F ∷ 0x14 ∷ 0x09 ∷ 0x02 ∷ 0x01 ∷ 0x01 ∷ 0x10 ∷ 0x04 ∷ 0x75 ∷ 0x31 ∷ 0x00 ∷ 0x00
    ∷ 0x42 ∷ 0x04 ∷ 0x03 ∷ 0xE8 ∷ 0x07 ∷ 0xD0 ∷ 0x0B ∷ 0xB8 ∷ 0x01 ∷ 0xF4 ∷ []

-- then three addresses: marks 0 and 1 of 1 and 2, marks 2 and 3 of 3 and 3001, and 9900 of 7
abbrev pub three_frame : List ℕ
three_frame =
    0x5F ∷ 0x00 ∷ 0x2F ∷ 0x26 ∷ 0x0A ∷ 0x02 ∷ 0x01 ∷ 0x03 ∷ 0x10 ∷ 0x02 ∷ 0x75 ∷ 0x31 ∷ 0x00 ∷ 0x00
    ∷ 0x10 ∷ 0x02 ∷ 0x75 ∷ 0x31 ∷ 0x00 ∷ 0x02 ∷ 0x10 ∷ 0x01 ∷ 0x26 ∷ 0xAC ∷ 0x00 ∷ 0x00
    ∷ 0x42 ∷ 0x02 ∷ 0x00 ∷ 0x01 ∷ 0x00 ∷ 0x02 ∷ 0x42 ∷ 0x02 ∷ 0x00 ∷ 0x03 ∷ 0x0B ∷ 0xB9 ∷ 0x42 ∷ 0x01 ∷ 0x00 ∷ 0x07 ∷ []

abbrev pub whole_calls : List WorkedCall
whole_calls =
    exchange_example 1 all_marks_frame 4 (0x5E ∷ 0x00 ∷ 0x2F ∷ 0x04 ∷ 0x09 ∷ 0x02 ∷ 0x01 ∷ 0x01 ∷ []) 0
    ∷ exchange_example 1 three_frame 3
    (0x5E ∷ 0x00 ∷ 0x2F ∷ 0x0C ∷ 0x0A ∷ 0x82 ∷ 0x01 ∷ 0x03 ∷ 0x40 ∷ 0x00 ∷ 0x44 ∷ 0x01 ∷ 0x00 ∷ 0x02 ∷ 0x40 ∷ 0x00 ∷ []) 0
    ∷ []

-- the part with four marks
abbrev pub marked : List ℕ → List ℕ → List ℕ
marked marks p = put p (offset_of 30001) marks

-- the first leaves it fresh but for the marks, of 1000, 2000, 3000 and 500, and that version (R-7)
abbrev pub first_version : List ℕ
first_version = with_version (marked (0x03 ∷ 0xE8 ∷ 0x07 ∷ 0xD0 ∷ 0x0B ∷ 0xB8 ∷ 0x01 ∷ 0xF4 ∷ []) fresh_part)

-- the second leaves 9900 of 7, and marks of 1, 2, 3000 and 500, as the next
abbrev pub whole_part : List ℕ
whole_part =
    with_version
    (put (marked (0x00 ∷ 0x01 ∷ 0x00 ∷ 0x02 ∷ 0x0B ∷ 0xB8 ∷ 0x01 ∷ 0xF4 ∷ []) first_version) (offset_of 9900) (0x00 ∷ 0x07 ∷ []))

abbrev pub WholeByHand : Type 0
WholeByHand = ByHand whole_calls whole_part

-- R-7, after these two: the list, a going back to version 1, one to a version that is not kept, and the list again
abbrev pub list_example : ℕ → ℕ → ℕ → WorkedCall
list_example farm oldest kept = record { call = list farm; answer = to_list (record { oldest = oldest; kept = kept; number = 0 }) }

abbrev pub return_example : ℕ → ℕ → ℕ → ℕ → ℕ → WorkedCall
return_example farm n stored version number =
    record { call = go_back farm n; answer = to_return (record { stored = stored; version = version; number = number }) }

abbrev pub version_calls : List WorkedCall
version_calls =
    list_example 1 1 0
    ∷ whole_calls
    ++ (list_example 1 1 2
    ∷ return_example 1 1 18 3 0
    ∷ return_example 1 4 0 0 14
    ∷ return_example 1 0 0 0 14
    ∷ list_example 1 1 3
    ∷ list_example 2 1 0
    ∷ [])

-- they leave it as the first change did, and that as version 3
abbrev pub version_part : List ℕ
version_part = with_version (put (marked (0x03 ∷ 0xE8 ∷ 0x07 ∷ 0xD0 ∷ 0x0B ∷ 0xB8 ∷ 0x01 ∷ 0xF4 ∷ []) whole_part) (offset_of 9900) (0x00 ∷ 0x00 ∷ []))

abbrev pub VersionsByHand : Type 0
VersionsByHand = ByHand version_calls version_part
