-- The four cycles of document 01 answer as it says: one statement over the list of them. Assumes nothing.
use mathlib.Core.Path.{refl}
use Rattle.drive.specs.Cycle.{word_of, word_used, setpoint_used, acknowledges, after_ack, after_code, state_after, effective_of, near_of, fast_of, status_of, enters_s4, cycle_of}
use Rattle.drive.specs.Worked.{FourCycles}

pub four_cycles : FourCycles
unfolding cycle_of word_of word_used setpoint_used acknowledges after_ack after_code state_after effective_of near_of fast_of status_of enters_s4
four_cycles = refl
