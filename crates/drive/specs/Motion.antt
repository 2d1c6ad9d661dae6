-- Document 01, "Control cycle", but for the faults: steps 1 and 4 to 7 on what a drive record holds beside them, and when steps 2 and 3
-- leave the faults as they are. The steps are those of `Cycle`.
use Rattle.std.specs.Prelude.{ℕ, Bool, not, ◌&&◌, eqb}
use Rattle.drive.specs.declared.faults.Faults.{Faults}
use Rattle.drive.specs.declared.Drive.{Drive}
use Rattle.drive.specs.declared.Motion.{Motion}
use Rattle.drive.specs.declared.Input.{Input}
use Rattle.drive.specs.declared.MotionEnd.{MotionEnd}
use Rattle.drive.specs.Speed.{scale_of}
use Rattle.drive.specs.Cycle.{bit, word_of, word_used, setpoint_used, state_after, effective_of, near_of, fast_of, status_of, enters_s4}

-- a drive record but for its faults
abbrev pub motion_of : Drive → Motion
motion_of d = d.motion

-- the whole of it, with faults
abbrev pub with_faults : Motion → Faults → Drive
with_faults m f = record { motion = m; faults = f }

-- Steps 1 and 4 to 7. Of steps 2 and 3 they are told whether situation 0 is not empty after them, and whether step 2 acknowledged.
unfoldable pub moved_of : Motion → Bool → Bool → Input → MotionEnd
moved_of m faulted acknowledged i =
    -- 1
    let w = word_used i.stw1 m.word in
    let setpoint = setpoint_used i.stw1 i.nsoll m.setpoint in
    let b = word_of w in
    -- 4
    let s = state_after faulted m.state b i.standstill in
    -- 5
    let e = effective_of s b m.effective setpoint in
    -- 6
    let z = status_of s faulted b i.warning (near_of e i.nist i.window) (fast_of i.nist i.threshold) in
    -- 7
    record {
      motion = record { state = s; word = w; setpoint = setpoint; effective = e; status = z; actual = i.nist };
      output =
          record {
            state = s;
            status = z;
            speed = scale_of e i.reference;
            acknowledged = acknowledged;
            entered = enters_s4 m.state s;
          };
    }

-- Steps 2 and 3 leave the faults as they are: "the fault code is 0", and not "bit 7 is 1 now and 0 in the last accepted word [..] and
-- situation 0 is not empty".
unfoldable pub quiet_of : ℕ → Bool → Input → Bool
quiet_of last empty i = eqb i.fault 0 && not (bit 7 (word_used i.stw1 last) && (not (bit 7 last) && not empty))
