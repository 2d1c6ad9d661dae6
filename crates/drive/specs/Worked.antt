-- Document 01, "Journal program": the four cycles on axis 1 of a fresh station, all unnamed fields 0, and what each answers.
use Rattle.std.specs.Prelude.{ℕ, ◌≡◌, Bool, true, false, List, [], ◌∷◌, map, ℤ, pos}
use Rattle.drive.specs.declared.states.State.{State}
use Rattle.drive.specs.declared.states.State.TheVariants.{S1, S2, S3, S4}
use Rattle.drive.specs.declared.Drive.{Drive}
use Rattle.drive.specs.declared.Input.{Input}
use Rattle.drive.specs.declared.Output.{Output}
use Rattle.drive.specs.Speed.{still}
use Rattle.drive.specs.Cycle.{cycle_of, fresh_drive}

-- a cycle's word and setpoint, the state, ZSW1 and rpm of its line, and whether it entered S4; none acknowledges
pub record WorkedCycle : Type 0 where
  pub stw1 : ℕ
  pub nsoll : ℕ
  pub state : State
  pub status : ℕ
  pub rpm : ℤ
  pub entered : Bool

abbrev pub worked_cycles : List WorkedCycle
worked_cycles =
    record { stw1 = 0x047E; nsoll = 0; state = S2; status = 0x0331; rpm = pos 0; entered = false }
    ∷ record { stw1 = 0x047F; nsoll = 0; state = S3; status = 0x0333; rpm = pos 0; entered = false }
    ∷ record { stw1 = 0x047F; nsoll = 0x2000; state = S4; status = 0x0237; rpm = pos 750; entered = true }
    ∷ record { stw1 = 0x047D; nsoll = 0; state = S1; status = 0x0360; rpm = pos 0; entered = false }
    ∷ []

-- what the cycle is given, with PNU 10111, 30002 and 30003 fresh
abbrev pub input : WorkedCycle → Input
input x =
    record {
      standstill = false;
      warning = false;
      stw1 = x.stw1;
      nsoll = record { 0 = pos x.nsoll };
      nist = still;
      fault = 0;
      reference = 1500;
      window = 164;
      threshold = 16384;
    }

-- what its line says, and what it did
abbrev pub output_of : WorkedCycle → Output
output_of x = record { state = x.state; status = x.status; speed = record { 0 = x.rpm }; acknowledged = false; entered = x.entered }

-- the outputs of cycles one after the other
abbrev pub outputs_of : Drive → List WorkedCycle → List Output
outputs_of d [] = []
outputs_of d (x ∷ xs) = (cycle_of d (input x)).output ∷ outputs_of (cycle_of d (input x)).drive xs

abbrev pub FourCycles : Type 0
FourCycles = outputs_of fresh_drive worked_cycles ≡ map output_of worked_cycles
