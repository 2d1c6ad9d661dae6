-- What callers may cite of every cycle in place of its text: from document 01, "Control cycle", steps 2 to 4, and the traps; from document
-- 02, R-1, what an acknowledge and an entry into S4 are.
-- Each is a statement here and a proof in proofs/.
use Rattle.std.proofs.Math.Path.{Path}
use Rattle.std.specs.Prelude.{◌≡◌, Bool, true, false, not, ◌&&◌, ◌⊎◌, eqb, length}
use Rattle.drive.specs.declared.states.State.TheVariants.{S1, S3, S4, S51}
use Rattle.drive.specs.declared.faults.Faults.{Faults}
use Rattle.drive.specs.declared.Drive.{Drive}
use Rattle.drive.specs.declared.Input.{Input}
use Rattle.drive.specs.declared.CycleEnd.{CycleEnd}
use Rattle.drive.specs.Faults.{buffer_codes, is_empty_of, acknowledged_of, proper_faults}
use Rattle.drive.specs.Cycle.{bit, word_of, word_used, acknowledges, after_ack, after_code, cycle_of}
use Rattle.drive.specs.Motion.{motion_of, with_faults, moved_of, quiet_of}

-- the fault buffer keeps its length
abbrev pub KeepsLength : Type 0
KeepsLength = (d : Drive) (i : Input) → length d.faults.buffer ≡ buffer_codes → length (cycle_of d i).drive.faults.buffer ≡ buffer_codes

-- a proper fault buffer stays proper
abbrev pub KeepsProper : Type 0
KeepsProper = (d : Drive) (i : Input) → proper_faults d.faults ≡ true → proper_faults (cycle_of d i).drive.faults ≡ true

-- situation 0 not empty means that the state after the cycle is S1
abbrev pub FaultMeansS1 : Type 0
FaultMeansS1 = (d : Drive) (i : Input) → not (is_empty_of (cycle_of d i).drive.faults) ≡ true → (cycle_of d i).drive.motion.state ≡ S1

-- an entry into S4 ends there and comes from S3 or S51; a cycle that ends in S4 without one began there
abbrev pub EntryIntoS4 : Type 0
EntryIntoS4 =
    (d : Drive) (i : Input) → (cycle_of d i).output.entered ≡ true
    → ((cycle_of d i).drive.motion.state ≡ S4) × ((d.motion.state ≡ S3) ⊎ (d.motion.state ≡ S51))

abbrev pub StayInS4 : Type 0
StayInS4 = (d : Drive) (i : Input) → (cycle_of d i).output.entered ≡ false → (cycle_of d i).drive.motion.state ≡ S4 → d.motion.state ≡ S4

-- no cycle ends in S4 whose used word has b1 = 0
abbrev pub S4NeedsB1 : Type 0
S4NeedsB1 = (d : Drive) (i : Input) → (cycle_of d i).drive.motion.state ≡ S4 → bit 1 (word_used i.stw1 d.motion.word) ≡ true

-- where a cycle acknowledged, situation 0 was not empty, bit 7 rose, and the fault buffer is moved down, with no new code in it
pub record Acknowledges (d : Drive) (i : Input) : Type 0 where
  pub some : is_empty_of d.faults ≡ false
  pub now : bit 7 (word_used i.stw1 d.motion.word) ≡ true
  pub before : bit 7 d.motion.word ≡ false
  pub moved : (cycle_of d i).drive.faults ≡ acknowledged_of d.faults

abbrev pub Acknowledged : Type 0
Acknowledged = (d : Drive) (i : Input) → (cycle_of d i).output.acknowledged ≡ true → Acknowledges d i

-- and it has to, where bit 7 rises beside no code
abbrev pub MustAcknowledge : Type 0
MustAcknowledge =
    (d : Drive) (i : Input) → bit 7 (word_used i.stw1 d.motion.word) ≡ true → bit 7 d.motion.word ≡ false → i.fault ≡ 0
    → is_empty_of d.faults ≡ false → (cycle_of d i).output.acknowledged ≡ true

-- where it did not, step 3 alone has changed the buffer
abbrev pub NotAcknowledged : Type 0
NotAcknowledged = (d : Drive) (i : Input) → (cycle_of d i).output.acknowledged ≡ false → (cycle_of d i).drive.faults ≡ after_code i.fault d.faults

-- what steps 2 and 3 of a cycle come to: whether it acknowledges, and the faults
abbrev pub acknowledges_in : Drive → Input → Bool
acknowledges_in d i = acknowledges (word_of (word_used i.stw1 d.motion.word)) (word_of d.motion.word) i.fault d.faults

abbrev pub faults_after : Drive → Input → Faults
faults_after d i = after_code i.fault (after_ack (acknowledges_in d i) d.faults)

-- every cycle is steps 2 and 3, and what `moved_of` makes of the record but for its faults
abbrev pub CycleMoves : Type 0
CycleMoves =
    (d : Drive) (i : Input)
    → let end = moved_of (motion_of d) (not (is_empty_of (faults_after d i))) (acknowledges_in d i) i in
    Path CycleEnd (cycle_of d i) (record { drive = with_faults end.motion (faults_after d i); output = end.output })

-- a cycle is quiet exactly when no code is sent and nothing is acknowledged
abbrev pub QuietExactly : Type 0
QuietExactly = (d : Drive) (i : Input) → quiet_of d.motion.word (is_empty_of d.faults) i ≡ (eqb i.fault 0 && not (acknowledges_in d i))

-- a quiet cycle leaves the faults as they are, and goes through the other steps
abbrev pub QuietKeepsFaults : Type 0
QuietKeepsFaults =
    (d : Drive) (i : Input) → quiet_of d.motion.word (is_empty_of d.faults) i ≡ true
    → let end = moved_of (motion_of d) (not (is_empty_of d.faults)) false i in
    Path CycleEnd (cycle_of d i) (record { drive = with_faults end.motion d.faults; output = end.output })
