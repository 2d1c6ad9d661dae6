-- Document 01, "Control cycle" on the part of its axis, and "Cycles use 1, 2 and 12; a refused cycle answers its number and zeros."
use Rattle.std.specs.Prelude.{false, cond, not, List, ℕ, ◌<◌, ◌^◌, eqb, ltb, pos}
use Rattle.std.specs.Int.Signed.{mag}
use Rattle.codes.specs.Number.{number_at}
use Rattle.drive.specs.declared.Input.{Input}
use Rattle.drive.specs.declared.Output.{Output}
use Rattle.drive.specs.Cycle.{bit, cycle_of}
use Rattle.catalogue.specs.Table.{offset_of}
use Rattle.part.specs.Record.{drive_of, put_drive}
use Rattle.drive.specs.States.{number_of}
use Rattle.part.specs.WellFormed.{well_formed}
use Rattle.station.specs.declared.CycleDone.{CycleDone}
use Rattle.station.specs.declared.Sent.{Sent}

-- A cycle is sent "flags byte (bit 0 standstill, bit 1 warning), STW1, NSOLL_A and NIST_A (signed 16 bits), fault code (0 = none)".
-- The words are numbers of 16 bits, as the call has them; `mag` of a negative number is one less than its size, so that
-- -32768 is among them.
pub record SentFits (i : Sent) : Type 0 where
  pub stw1 : i.stw1 < 2 ^ 16
  pub nsoll : mag i.nsoll < 2 ^ 15
  pub nist : mag i.nist < 2 ^ 15
  pub fault : i.fault < 2 ^ 16

-- with PNU 10111, 30002 and 30003 of the part
abbrev pub input_of : Sent → List ℕ → Input
input_of i p =
    record {
      standstill = bit 0 i.flags;
      warning = bit 1 i.flags;
      stw1 = i.stw1;
      nsoll = record { 0 = i.nsoll };
      nist = record { 0 = i.nist };
      fault = i.fault;
      reference = number_at 2 p (offset_of 10111);
      window = number_at 2 p (offset_of 30002);
      threshold = number_at 2 p (offset_of 30003);
    }

-- number 12, where the part is well-formed: "cycle flags above 3"
abbrev pub cycle_tests : Sent → ℕ
cycle_tests i = cond (ltb 3 i.flags) 12 0

unfoldable pub cycle_refusal : ℕ → Sent → List ℕ → ℕ
cycle_refusal k i p = cond (not (well_formed k p)) 2 (cycle_tests i)

-- "a refused cycle answers its number and zeros", and did nothing
abbrev pub refused_cycle : ℕ → CycleDone
refused_cycle n = record { told = record { rpm = pos 0; status = 0; state = 0; number = n }; acknowledged = false; entered = false }

abbrev pub cycled : Output → CycleDone
cycled a =
    record {
      told = record { rpm = a.speed.0; status = a.status; state = number_of a.state; number = 0 };
      acknowledged = a.acknowledged;
      entered = a.entered;
    }

unfoldable pub cycle_answer : ℕ → Sent → List ℕ → CycleDone
cycle_answer k i p =
    let n = cycle_refusal k i p in
    cond (eqb n 0) (cycled (cycle_of (drive_of p) (input_of i p)).output) (refused_cycle n)

unfoldable pub cycle_part : ℕ → Sent → List ℕ → List ℕ
cycle_part k i p = cond (eqb (cycle_refusal k i p) 0) (put_drive (cycle_of (drive_of p) (input_of i p)).drive p) p
