-- A drive record that was loaded fits its types, and still does after a cycle.
use mathlib.Core.Path.{refl}
use mathlib.Core.Bool.{Bool, true, false, cond, not, ◌&&◌}
use mathlib.Core.List.{List, [], ◌∷◌, ◌++◌}
use Prim.Native.Nat.{ℕ, zero, suc, ◌+◌, ◌-◌, ◌≤◌, ◌<◌}
use native.Mathlib.Omega.{arith}
use lib.Dec.{eqb, lit≤, lit<}
use lib.ListN.{take, set, replicate}
use mir.Syntax.{w16}
use Rattle.codes.specs.Number.{number_at, signed_of}
use Rattle.codes.proofs.Number.{number_small, numbers_length}
use Rattle.codes.proofs.Signed.{Within, signed_fits}
use Rattle.drive.specs.declared.states.State.{State}
use Rattle.drive.specs.declared.states.State.TheVariants.{S1, S2, S3, S4, S51, S52}
use Rattle.drive.specs.declared.speed.N2.{N2}
use Rattle.drive.specs.declared.faults.Faults.{Faults}
use Rattle.drive.specs.declared.Drive.{Drive}
use Rattle.drive.specs.declared.Input.{Input}
use Rattle.drive.specs.Faults.{situation_codes, buffer_codes, acknowledged_of, holds, end_of, has_room, put_of}
use Rattle.drive.specs.Speed.{still}
use Rattle.drive.specs.Cycle.{word_of, word_used, setpoint_used, after_ack, after_code, is_s4, effective_of, state_bits, flag_of, status_of, cycle_of}
use Rattle.drive.proofs.Laws.{keeps_length}
use Rattle.catalogue.specs.Table.{offset_of}
use Rattle.part.specs.Layout.{effective_at}
use Rattle.part.specs.Record.{words_at, drive_of}
use Rattle.part.proofs.Words.{Words}
use Rattle.part.proofs.Stored.{Fits}

-- a cycle's input whose words and speeds are of 16 bits
pub record InputFits (i : Input) : Type 0 where
  pub stw1 : i.stw1 < 65536
  pub nsoll : Within 2 i.nsoll.0
  pub nist : Within 2 i.nist.0
  pub fault : i.fault < 65536

speed_fits : (p : List ℕ) (at : ℕ) → Within 2 (signed_of 2 (number_at 2 p at))
speed_fits p at = (signed_fits 2 w16 refl (number_at 2 p at) (number_small 2 p at)).sfits

words_fit : (n : ℕ) (p : List ℕ) (at : ℕ) → Words (words_at n p at)
words_fit zero p at = tt
words_fit (suc n) p at = (number_small 2 p at, words_fit n p (at + 2))

-- what is loaded fits
pub loaded_fits : (p : List ℕ) → Fits (drive_of p)
unfolding drive_of
loaded_fits p =
    record {
      word = number_small 2 p (offset_of 10100);
      setpoint = speed_fits p (offset_of 10101);
      effective = speed_fits p effective_at;
      status = number_small 2 p (offset_of 10102);
      actual = speed_fits p (offset_of 10103);
      counter = number_small 2 p (offset_of 944);
      codes = words_fit buffer_codes p (offset_of 947);
      whole = numbers_length 2 buffer_codes p (offset_of 947);
    }

-- either of two that both have a property
either : {A : Type 0} (P : A → Type 0) (b : Bool) (x y : A) → P x → P y → P (cond b x y)
either P true x y h k = h
either P false x y h k = k

flag_most : (b : Bool) (v : ℕ) → flag_of b v ≤ v
flag_most true v = omega arith
flag_most false v = omega arith

state_most : (s : State) → state_bits s ≤ 64
state_most S1 = lit≤ tt
state_most S2 = lit≤ tt
state_most S3 = lit≤ tt
state_most S4 = lit≤ tt
state_most S51 = lit≤ tt
state_most S52 = lit≤ tt

status_small : (s : State) (faulted : Bool) (w : ℕ) (warning near fast : Bool) → status_of s faulted (word_of w) warning near fast < 65536
unfolding status_of
status_small s faulted w warning near fast =
    omega (arith, state_most s, flag_most faulted 8, flag_most (word_of w).b1 16, flag_most (word_of w).b2 32, flag_most warning 128, flag_most near 256, flag_most fast 1024)

zeros_fit : (n : ℕ) (b : List ℕ) → Words b → Words (replicate n 0 ++ b)
zeros_fit zero b h = h
zeros_fit (suc n) b h = (lit< tt, zeros_fit n b h)

take_fits : (n : ℕ) (b : List ℕ) → Words b → Words (take n b)
take_fits zero b h = tt
take_fits (suc n) [] h = tt
take_fits (suc n) (x ∷ xs) h = (h.0, take_fits n xs h.1)

set_fits : (b : List ℕ) (k x : ℕ) → x < 65536 → Words b → Words (set b k x)
set_fits [] k x s h = tt
set_fits (y ∷ ys) zero x s h = (s, h.1)
set_fits (y ∷ ys) (suc k) x s h = (h.0, set_fits ys k x s h.1)

abbrev FaultsFit : Faults → Type 0
FaultsFit f = (f.counter < 65536) × Words f.buffer

ack_fits : (acknowledged : Bool) (f : Faults) → FaultsFit f → FaultsFit (after_ack acknowledged f)
unfolding after_ack
ack_fits acknowledged f h =
    either FaultsFit acknowledged (acknowledged_of f) f
    (omega arith, zeros_fit situation_codes (take (buffer_codes - situation_codes) f.buffer) (take_fits (buffer_codes - situation_codes) f.buffer h.1)) h

code_fits : (x : ℕ) (f : Faults) → x < 65536 → FaultsFit f → FaultsFit (after_code x f)
unfolding after_code
code_fits x f s h =
    either FaultsFit (eqb x 0) f _ h
    (either FaultsFit (holds x f) f _ h
    (either FaultsFit (has_room f) (put_of f (end_of f) x) f (omega arith, set_fits f.buffer (end_of f) x s h.1) h))

abbrev SpeedFits : N2 → Type 0
SpeedFits v = Within 2 v.0

effective_fits : (s : State) (w : ℕ) (last setpoint : N2) → SpeedFits last → SpeedFits setpoint → SpeedFits (effective_of s (word_of w) last setpoint)
unfolding effective_of
effective_fits s w last setpoint h k =
    either SpeedFits (not (is_s4 s && ((word_of w).b4 && (word_of w).b6))) still _ (lit< tt)
    (either SpeedFits (not (word_of w).b5) last setpoint h k)

-- a cycle keeps it so
pub cycled_fits : (d : Drive) (i : Input) → Fits d → InputFits i → Fits (cycle_of d i).drive
unfolding cycle_of word_used setpoint_used
cycled_fits d i f g =
    let setpoint = either SpeedFits (word_of i.stw1).b10 i.nsoll d.motion.setpoint g.nsoll f.setpoint in
    let faults = code_fits i.fault _ g.fault (ack_fits _ d.faults (f.counter, f.codes)) in
    record {
      word = either (λ (x : ℕ). x < 65536) (word_of i.stw1).b10 i.stw1 d.motion.word g.stw1 f.word;
      setpoint = setpoint;
      effective = effective_fits (cycle_of d i).drive.motion.state (word_used i.stw1 d.motion.word) d.motion.effective (cycle_of d i).drive.motion.setpoint f.effective setpoint;
      status = status_small _ _ (word_used i.stw1 d.motion.word) i.warning _ _;
      actual = g.nist;
      counter = faults.0;
      codes = faults.1;
      whole = keeps_length d i f.whole;
    }
