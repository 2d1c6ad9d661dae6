-- The laws of a cycle that callers cite: those of the state after it, and from `Proper` and `Quiet` those of the fault buffer. Assumes nothing.
use mathlib.Core.Path.{◌≡◌, refl, sym, ap, ◌∙◌}
use mathlib.Core.Bool.{Bool, true, false, cond, not, ◌&&◌, ◌||◌, true≢false, false≢true, and-eq-true_iff}
use mathlib.Core.Logic.{◌⊎◌, inl, inr}
use mathlib.Mathlib.Data.Bool.Basic.{or-eq-false-eq-eq-false-and-eq-false as or-eq-false-iff}
use lib.Dec.{eqb}
use borrow.Table.Steps.{cases}
use borrow.Author.Tests.{not-false, not-true}
use Rattle.drive.specs.declared.states.State.{State}
use Rattle.drive.specs.declared.states.State.TheVariants.{S1, S2, S3, S4, S51, S52}
use Rattle.drive.specs.declared.word.Word.{Word}
use Rattle.drive.specs.declared.Drive.{Drive}
use Rattle.drive.specs.declared.Input.{Input}
use Rattle.drive.specs.Faults.{is_empty_of}
use Rattle.drive.specs.Cycle.{word_of, word_used, acknowledges, after_ack, after_code, next_of, state_after, is_s4, enters_s4, cycle_of}
use Rattle.drive.specs.Laws.{FaultMeansS1, EntryIntoS4, StayInS4, S4NeedsB1, Acknowledged, MustAcknowledge, NotAcknowledged}
pub use Rattle.drive.proofs.Proper.{keeps_length, keeps_proper}
pub use Rattle.drive.proofs.Quiet.{cycle_moves, quiet_exactly, quiet_keeps_faults}

pub fault_means_s1 : FaultMeansS1
unfolding cycle_of state_after
fault_means_s1 d i e = rw e

-- a rule that leads to S1 did not apply
passed : (t : Bool) (s : State) → cond t S1 s ≡ S4 → (t ≡ false) × (s ≡ S4)
passed true s e = absurd (false≢true (ap is_s4 e))
passed false s e = (refl, e)

-- a rule that leads from one state to another, neither of which is S4
neither : (t : Bool) (x y : State) → cond t x y ≡ S4 → is_s4 x ≡ false → is_s4 y ≡ false → ⊥
neither true x y e no-x no-y = true≢false (sym (ap is_s4 e) ∙ no-x)
neither false x y e no-x no-y = true≢false (sym (ap is_s4 e) ∙ no-y)

-- what a transition to S4 says of the state before it and of bit 1
record Enters (s : State) (b : Word) : Type 0 where
  from : (s ≡ S4 → ⊥) → (s ≡ S3) ⊎ (s ≡ S51)
  bit_1 : b.b1 ≡ true

enters : (s : State) (b : Word) (t : Bool) → next_of s b t ≡ S4 → Enters s b
enters S1 b t e = absurd (neither (not b.b0 && (b.b1 && b.b2)) S2 S1 e refl refl)
enters S2 b t e = absurd (neither b.b0 S3 S2 (passed (not b.b1 || not b.b2) _ e).1 refl refl)
enters S3 b t e = record { from = λ no. inl refl; bit_1 = not-false b.b1 ((or-eq-false-iff (not b.b1) (not b.b2)).0 (passed _ _ e).0).0 }
enters S4 b t e = record { from = λ no. absurd (no refl); bit_1 = not-false b.b1 (passed _ _ e).0 }
enters S51 b t e = record { from = λ no. inr refl; bit_1 = not-false b.b1 (passed _ _ e).0 }
enters S52 b t e = absurd (neither (not b.b1 || (t || not b.b3)) S1 S52 e refl refl)

-- a cycle that ends in S4
ends_in_s4 : (d : Drive) (i : Input) → (cycle_of d i).drive.motion.state ≡ S4 → Enters d.motion.state (word_of (word_used i.stw1 d.motion.word))
unfolding cycle_of state_after
ends_in_s4 d i e = enters _ _ i.standstill (passed (not (is_empty_of (cycle_of d i).drive.faults)) _ e).1

-- the only state that is S4
s4_is : (s : State) → is_s4 s ≡ true → s ≡ S4
s4_is S1 e = absurd (false≢true e)
s4_is S2 e = absurd (false≢true e)
s4_is S3 e = absurd (false≢true e)
s4_is S4 e = refl
s4_is S51 e = absurd (false≢true e)
s4_is S52 e = absurd (false≢true e)

pub entry_into_s4 : EntryIntoS4
unfolding cycle_of enters_s4
entry_into_s4 d i e =
    let both = (and-eq-true_iff (not (is_s4 d.motion.state)) (is_s4 (cycle_of d i).drive.motion.state)).0 e in
    let ends = s4_is (cycle_of d i).drive.motion.state both.1 in
    let other : d.motion.state ≡ S4 → ⊥ = λ same. true≢false (sym (ap is_s4 same) ∙ not-true (is_s4 d.motion.state) both.0) in
    (ends, (ends_in_s4 d i ends).from other)

pub stay_in_s4 : StayInS4
unfolding cycle_of enters_s4
stay_in_s4 d i e ends =
    cases (is_s4 d.motion.state) (s4_is d.motion.state)
    (λ other. absurd (true≢false (sym (rw (other, ends)) ∙ e)))

pub s4_needs_b1 : S4NeedsB1
unfolding word_of
s4_needs_b1 d i e = (ends_in_s4 d i e).bit_1

pub acknowledged : Acknowledged
unfolding cycle_of acknowledges after_ack after_code word_of
acknowledged d i e =
    let w = word_of (word_used i.stw1 d.motion.word) in
    let last = word_of d.motion.word in
    let some = is_empty_of d.faults in
    let code = eqb i.fault 0 in
    let now = (and-eq-true_iff w.b7 (not last.b7 && (code && not some))).0 e in
    let before = (and-eq-true_iff (not last.b7) (code && not some)).0 now.1 in
    let both = (and-eq-true_iff code (not some)).0 before.1 in
    record {
      some = not-true some both.1;
      now = now.0;
      before = not-true last.b7 before.0;
      moved = rw (e, both.0);
    }

pub must_acknowledge : MustAcknowledge
unfolding cycle_of acknowledges word_of
must_acknowledge d i now before none some = rw (now, before, none, some)

pub not_acknowledged : NotAcknowledged
unfolding cycle_of after_ack
not_acknowledged d i e = rw e
