-- The laws of specs/Laws.antt that no other crate uses yet, at work: one that is made weaker fails here.
use mathlib.Core.Path.{◌≡◌, refl, sym, ap, ◌∙◌}
use mathlib.Core.Bool.{true, false, true≢false}
use mathlib.Core.Logic.{◌⊎◌, inl, inr}
use lib.ListN.{length}
use borrow.Author.Tests.{eq-eqb}
use Rattle.drive.specs.declared.states.State.TheVariants.{S1, S3, S4, S51}
use Rattle.drive.specs.declared.faults.Faults.{Faults}
use Rattle.drive.specs.declared.Drive.{Drive}
use Rattle.drive.specs.declared.Input.{Input}
use Rattle.drive.specs.declared.CycleEnd.{CycleEnd}
use Rattle.drive.specs.Speed.{still}
use Rattle.drive.specs.Faults.{no_faults, is_empty_of, bump_of, put_of}
use Rattle.drive.specs.Cycle.{bit, word_of, word_used, acknowledges, after_ack, after_code, is_s4, cycle_of}
use Rattle.drive.specs.Motion.{motion_of, moved_of, quiet_of}
use Rattle.drive.specs.Worked.{worked_cycles}
use Rattle.drive.proofs.Laws.{fault_means_s1, entry_into_s4, stay_in_s4, s4_needs_b1, acknowledged, must_acknowledge, not_acknowledged, cycle_moves, quiet_exactly}

-- EntryIntoS4: no entry from a state other than S3 and S51, S4 itself among them, nor one that ends elsewhere
module _ (d : Drive) (i : Input) (entered : (cycle_of d i).output.entered ≡ true) where
  no_entry : (d.motion.state ≡ S3 → ⊥) → (d.motion.state ≡ S51 → ⊥) → ⊥
  no_entry not-s3 not-s51 = go (entry_into_s4 d i entered).1
    where
      go : (d.motion.state ≡ S3) ⊎ (d.motion.state ≡ S51) → ⊥
      go (inl f) = not-s3 f
      go (inr f) = not-s51 f

  entry_ends : (cycle_of d i).drive.motion.state ≡ S4
  entry_ends = (entry_into_s4 d i entered).0

-- StayInS4: from S3 to S4 is an entry
switched_on : (d : Drive) (i : Input) → d.motion.state ≡ S3 → (cycle_of d i).drive.motion.state ≡ S4 → (cycle_of d i).output.entered ≡ false → ⊥
switched_on d i before ends not_entered = true≢false (sym (ap is_s4 (stay_in_s4 d i not_entered ends)) ∙ ap is_s4 before)

-- S4NeedsB1: 047D has b1 = 0
stopped : (d : Drive) (i : Input) → i.stw1 ≡ 0x047D → (cycle_of d i).drive.motion.state ≡ S4 → ⊥
unfolding word_used word_of
stopped d i word e = true≢false (sym (s4_needs_b1 d i e) ∙ ap (λ w. bit 1 (word_used w d.motion.word)) word)

-- FaultMeansS1: a fault code comes in operation
running : Drive
running = record { motion = record { state = S4; word = 0x047F; setpoint = still; effective = still; status = 0x0237; actual = still }; faults = no_faults }

failing : Input
failing = record { standstill = false; warning = false; stw1 = 0x047F; nsoll = still; nist = still; fault = 5; reference = 1500; window = 164; threshold = 16384 }

inhibited : (cycle_of running failing).drive.motion.state ≡ S1
unfolding running failing cycle_of word_of word_used acknowledges after_ack after_code
inhibited = fault_means_s1 running failing refl

-- and one that came before stands in the buffer
faulty : Drive
faulty = record { motion = record { state = S4; word = 0x047F; setpoint = still; effective = still; status = 0x0237; actual = still }; faults = put_of no_faults 0 5 }

going : Input
going = record { standstill = false; warning = false; stw1 = 0x047F; nsoll = still; nist = still; fault = 0; reference = 1500; window = 164; threshold = 16384 }

still_inhibited : (cycle_of faulty going).drive.motion.state ≡ S1
unfolding faulty going cycle_of word_of word_used acknowledges after_ack after_code
still_inhibited = fault_means_s1 faulty going refl

-- Acknowledged: an empty situation 0 is not acknowledged, nor does a held bit 7 acknowledge
nothing_there : (d : Drive) (i : Input) → (cycle_of d i).output.acknowledged ≡ true → is_empty_of d.faults ≡ true → ⊥
nothing_there d i e empty = true≢false (sym empty ∙ (acknowledged d i e).some)

held : (d : Drive) (i : Input) → (cycle_of d i).output.acknowledged ≡ true → bit 7 d.motion.word ≡ true → ⊥
held d i e bit-7 = true≢false (sym bit-7 ∙ (acknowledged d i e).before)

not_set : (d : Drive) (i : Input) → (cycle_of d i).output.acknowledged ≡ true → bit 7 (word_used i.stw1 d.motion.word) ≡ false → ⊥
not_set d i e bit-7 = true≢false (sym (acknowledged d i e).now ∙ bit-7)

-- MustAcknowledge: 04FE after 047F, at a fault
acknowledging : Input
acknowledging = record { standstill = false; warning = false; stw1 = 0x04FE; nsoll = still; nist = still; fault = 0; reference = 1500; window = 164; threshold = 16384 }

acknowledges_it : (cycle_of faulty acknowledging).output.acknowledged ≡ true
unfolding faulty acknowledging word_used word_of
acknowledges_it = must_acknowledge faulty acknowledging refl refl refl refl

-- the counter goes on by 1 where a cycle acknowledged, and stays where it did not and no code came
counter_goes_on : (d : Drive) (i : Input) → (cycle_of d i).output.acknowledged ≡ true → (cycle_of d i).drive.faults.counter ≡ bump_of d.faults.counter
counter_goes_on d i e = ap (λ (f : Faults). f.counter) (acknowledged d i e).moved

counter_stays : (d : Drive) (i : Input) → (cycle_of d i).output.acknowledged ≡ false → i.fault ≡ 0 → (cycle_of d i).drive.faults ≡ d.faults
unfolding after_code
counter_stays d i e none = not_acknowledged d i e ∙ ap (λ x. after_code x d.faults) none

-- FourCycles: four they are
four : length worked_cycles ≡ 4
four = refl

-- CycleMoves: of a cycle that acknowledges, or that a code comes with, steps 2 and 3 tell the faults
moves_faults : (d : Drive) (i : Input) → (cycle_of d i).drive.faults ≡ after_code i.fault (after_ack (acknowledges (word_of (word_used i.stw1 d.motion.word)) (word_of d.motion.word) i.fault d.faults) d.faults)
moves_faults d i = ap (λ (x : CycleEnd). x.drive.faults) (cycle_moves d i)

moves_state : (cycle_of running failing).drive.motion.state ≡ (moved_of (motion_of running) true false failing).motion.state
unfolding running failing word_of word_used acknowledges after_ack after_code
moves_state = ap (λ (x : CycleEnd). x.drive.motion.state) (cycle_moves running failing)

-- QuietExactly: where no code comes and nothing is acknowledged, a cycle is quiet
quiet_there : (d : Drive) (i : Input) → i.fault ≡ 0 → acknowledges (word_of (word_used i.stw1 d.motion.word)) (word_of d.motion.word) i.fault d.faults ≡ false → quiet_of d.motion.word (is_empty_of d.faults) i ≡ true
quiet_there d i n a = quiet_exactly d i ∙ rw (a, eq-eqb i.fault 0 n)
