-- Document 01, "Control cycle": steps 1 to 7 in its order and words, then the whole cycle, then a fresh axis. Beside its answer a
-- cycle tells what document 02, R-1, counts: whether step 2 acknowledged, and whether S4 was entered.
-- A step speaks of b, the bits of the word used, and of t, standstill, as 01 does.
use Rattle.std.specs.Prelude.{ℕ, ◌+◌, ◌*◌, ◌/◌, ◌%◌, ◌^◌, Bool, true, false, cond, not, ◌&&◌, ◌||◌, eqb, leb}
use Rattle.drive.specs.declared.states.State.{State}
use Rattle.drive.specs.declared.states.State.TheVariants.{S1, S2, S3, S4, S51, S52}
use Rattle.drive.specs.declared.word.Word.{Word}
use Rattle.drive.specs.declared.speed.N2.{N2}
use Rattle.drive.specs.declared.faults.Faults.{Faults}
use Rattle.drive.specs.declared.Drive.{Drive}
use Rattle.drive.specs.declared.Input.{Input}
use Rattle.drive.specs.declared.CycleEnd.{CycleEnd}
use Rattle.drive.specs.Speed.{still, speed_size, distance_of, scale_of}
use Rattle.drive.specs.Faults.{no_faults, is_empty_of, acknowledged_of, holds, has_room, end_of, put_of}

-- bit k of a word
abbrev pub bit : ℕ → ℕ → Bool
bit k w = eqb (w / 2 ^ k % 2) 1

-- the bits of a control word that the steps look at
unfoldable pub word_of : ℕ → Word
word_of w =
    record {
      b0 = bit 0 w;
      b1 = bit 1 w;
      b2 = bit 2 w;
      b3 = bit 3 w;
      b4 = bit 4 w;
      b5 = bit 5 w;
      b6 = bit 6 w;
      b7 = bit 7 w;
      b10 = bit 10 w;
    }

-- Step 1. "If STW1 bit 10 is 0, the last accepted word and setpoint stand in for those received."
unfoldable pub word_used : ℕ → ℕ → ℕ
word_used received last = cond (word_of received).b10 received last

unfoldable pub setpoint_used : ℕ → N2 → N2 → N2
setpoint_used stw1 received last = cond (word_of stw1).b10 received last

-- Step 2. "Acknowledge: bit 7 is 1 now and 0 in the last accepted word, the fault code is 0 and situation 0 is not empty."
unfoldable pub acknowledges : Word → Word → ℕ → Faults → Bool
acknowledges b last code f = b.b7 && (not last.b7 && (eqb code 0 && not (is_empty_of f)))

unfoldable pub after_ack : Bool → Faults → Faults
after_ack acknowledged f = cond acknowledged (acknowledged_of f) f

-- Step 3. "A fault code other than 0 that situation 0 lacks is put at its end if there is room, and the counter adds 1.
-- A ninth code is dropped."
unfoldable pub after_code : ℕ → Faults → Faults
after_code code f =
    cond (eqb code 0) f
    (cond (holds code f) f
    (cond (has_room f) (put_of f (end_of f) code)
    f))

-- Step 4. The table, a definition for each state: the first rule that applies, and where none does the state stays.
-- S1 switching on inhibited
abbrev pub from_s1 : Word → State
from_s1 b =
    cond (not b.b0 && (b.b1 && b.b2)) S2  -- b0=0, b1=1, b2=1
    S1

-- S2 ready
abbrev pub from_s2 : Word → State
from_s2 b =
    cond (not b.b1 || not b.b2) S1  -- b1=0 or b2=0
    (cond b.b0 S3  -- b0=1
    S2)

-- S3 switched on
abbrev pub from_s3 : Word → State
from_s3 b =
    cond (not b.b1 || not b.b2) S1  -- b1=0 or b2=0
    (cond (not b.b0) S2  -- b0=0
    (cond b.b3 S4  -- b3=1
    S3))

-- S4 operation
abbrev pub from_s4 : Word → State
from_s4 b =
    cond (not b.b1) S1  -- b1=0
    (cond (not b.b2) S52  -- b2=0
    (cond (not b.b0) S51  -- b0=0
    (cond (not b.b3) S3  -- b3=0
    S4)))

-- S51 ramp stop
abbrev pub from_s51 : Word → Bool → State
from_s51 b t =
    cond (not b.b1) S1  -- b1=0
    (cond (not b.b2) S52  -- b2=0
    (cond (b.b0 && b.b3) S4  -- b0=1 and b3=1
    (cond (t || not b.b3) S2  -- t or b3=0
    S51)))

-- S52 quick stop
abbrev pub from_s52 : Word → Bool → State
from_s52 b t =
    cond (not b.b1 || (t || not b.b3)) S1  -- b1=0, or t, or b3=0
    S52

abbrev pub next_of : State → Word → Bool → State
next_of S1 b t = from_s1 b
next_of S2 b t = from_s2 b
next_of S3 b t = from_s3 b
next_of S4 b t = from_s4 b
next_of S51 b t = from_s51 b t
next_of S52 b t = from_s52 b t

-- "If situation 0 is not empty the state is S1. Otherwise at most one transition, the first that applies"
unfoldable pub state_after : Bool → State → Word → Bool → State
state_after faulted s b t = cond faulted S1 (next_of s b t)

-- Step 5. "Effective setpoint: 0 unless the new state is S4 and b4=b6=1; else, with b5=0, the effective setpoint of the last
-- accepted cycle (fresh 0); else NSOLL_A." That is the setpoint used.
abbrev pub is_s4 : State → Bool
is_s4 S1 = false
is_s4 S2 = false
is_s4 S3 = false
is_s4 S4 = true
is_s4 S51 = false
is_s4 S52 = false

unfoldable pub effective_of : State → Word → N2 → N2 → N2
effective_of s b last setpoint =
    cond (not (is_s4 s && (b.b4 && b.b6))) still
    (cond (not b.b5) last
    setpoint)

-- Step 6. "Bits 0, 1, 2, 6: S1 0001; S2 1000; S3, S51, S52 1100; S4 1110."
abbrev pub bits0126 : ℕ → ℕ → ℕ → ℕ → ℕ
bits0126 b0 b1 b2 b6 = b0 * 2 ^ 0 + b1 * 2 ^ 1 + b2 * 2 ^ 2 + b6 * 2 ^ 6

abbrev pub state_bits : State → ℕ
state_bits S1 = bits0126 0 0 0 1
state_bits S2 = bits0126 1 0 0 0
state_bits S3 = bits0126 1 1 0 0
state_bits S4 = bits0126 1 1 1 0
state_bits S51 = bits0126 1 1 0 0
state_bits S52 = bits0126 1 1 0 0

-- "Bit 8: distance of effective setpoint and NIST_A at most PNU 30002."
unfoldable pub near_of : N2 → N2 → ℕ → Bool
near_of e nist window = leb (distance_of e nist) window

-- "Bit 10: size of NIST_A at least PNU 30003."
unfoldable pub fast_of : N2 → ℕ → Bool
fast_of nist threshold = leb threshold (speed_size nist)

-- a value where a test holds, else 0
abbrev pub flag_of : Bool → ℕ → ℕ
flag_of on value = cond on value 0

-- the status word ZSW1
unfoldable pub status_of : State → Bool → Word → Bool → Bool → Bool → ℕ
status_of s faulted b warning near fast =
    state_bits s
    + flag_of faulted (2 ^ 3)  -- bit 3: situation 0 not empty
    + flag_of b.b1 (2 ^ 4)  -- bits 4, 5: b1, b2
    + flag_of b.b2 (2 ^ 5)
    + flag_of warning (2 ^ 7)  -- bit 7: warning
    + flag_of near (2 ^ 8)  -- bit 8
    + 2 ^ 9  -- bit 9: 1
    + flag_of fast (2 ^ 10)  -- bit 10

-- Document 02, R-1, "entries into S4": the axis was in another state before the cycle, and is in S4 after it.
unfoldable pub enters_s4 : State → State → Bool
enters_s4 before s = not (is_s4 before) && is_s4 s

-- The whole cycle. Step 7: "The word and setpoint used become the last accepted ones. Effective setpoint, status and actual
-- speed are kept."
unfoldable pub cycle_of : Drive → Input → CycleEnd
cycle_of d i =
    -- 1
    let w = word_used i.stw1 d.motion.word in
    let setpoint = setpoint_used i.stw1 i.nsoll d.motion.setpoint in
    let b = word_of w in
    -- 2
    let acknowledged = acknowledges b (word_of d.motion.word) i.fault d.faults in
    let left = after_ack acknowledged d.faults in
    -- 3
    let f = after_code i.fault left in
    -- 4
    let faulted = not (is_empty_of f) in
    let s = state_after faulted d.motion.state b i.standstill in
    -- 5
    let e = effective_of s b d.motion.effective setpoint in
    -- 6
    let z = status_of s faulted b i.warning (near_of e i.nist i.window) (fast_of i.nist i.threshold) in
    -- 7
    record {
      drive = record { motion = record { state = s; word = w; setpoint = setpoint; effective = e; status = z; actual = i.nist }; faults = f };
      output =
          record {
            state = s;
            status = z;
            speed = scale_of e i.reference;
            acknowledged = acknowledged;
            entered = enters_s4 d.motion.state s;
          };
    }

-- "Each axis starts in S1 with all fault situations empty"; the fresh figures of steps 1 and 5 and of PNU 944, 947 and 10100 to 10103
abbrev pub fresh_drive : Drive
fresh_drive =
    record {
      motion = record {
        state = S1;
        word = 0;
        setpoint = still;
        effective = still;
        status = 0x0340;
        actual = still;
      };
      faults = no_faults;
    }
