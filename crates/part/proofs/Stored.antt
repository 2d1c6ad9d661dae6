-- What is stored of a drive record is loaded again, and no other byte moves.
use Rattle.std.specs.Prelude.{Some}
use mathlib.Core.Path.{◌≡◌, refl, sym, ◌∙◌, ap}
use mathlib.Core.Bool.{Bool, true, false, ◌||◌}
use mathlib.Core.List.{List, [], ◌∷◌}
use Prim.Native.Nat.{ℕ, ◌+◌, ◌*◌, ◌≤◌, ◌<◌}
use native.Mathlib.Omega.{arith}
use lib.ListN.{length, take, drop}
use lib.Dec.{eqb, lit≤, lit<}
use Rattle.codes.specs.Code.{word, write_all}
use Rattle.codes.specs.Number.{number_at, put, signed_of, bits_of}
use Rattle.codes.proofs.Put.{word_length}
use Rattle.codes.proofs.Items.{all_length}
use Rattle.codes.proofs.Signed.{Within, bits_small, signed_bits}
use Rattle.drive.specs.declared.states.State.{State}
use Rattle.drive.specs.declared.states.State.TheVariants.{S1, S2, S3, S4, S51, S52}
use Rattle.drive.specs.declared.Drive.{Drive}
use Rattle.drive.specs.declared.Motion.{Motion}
use Rattle.drive.specs.declared.speed.N2.{N2}
use Rattle.drive.specs.Faults.{buffer_codes}
use Rattle.drive.specs.Motion.{motion_of}
use Rattle.catalogue.specs.Table.{rows, find_of, offset_of, parameter_bytes}
use Rattle.catalogue.specs.declared.Row.{Row}
use Rattle.catalogue.specs.Element.{element_of, every_row}
use Rattle.part.specs.Layout.{state_at, effective_at, length_at, part_size}
use Rattle.part.specs.Record.{words_at, faults_of, drive_of, put_drive}
use Rattle.drive.specs.States.{number_of, state_of}
use Rattle.part.specs.WellFormed.{limits_fit, fixed_fit}
use Rattle.part.proofs.Kept.{row_passes, row_safe, tested_safe, element_same, limits_same, fixed_same}
use Rattle.part.proofs.StoredResponse.{byte_written}
use Rattle.part.proofs.Words.{Words, words_put}
use Rattle.part.proofs.Apart.{Write, puts, puts_length, apart, number_apart, number_stored, drop_ended}

-- a drive record whose fields are of their types: words and speeds of 16 bits, and a whole buffer
pub record Fits (d : Drive) : Type 0 where
  pub word : d.motion.word < 65536
  pub setpoint : Within 2 d.motion.setpoint.0
  pub effective : Within 2 d.motion.effective.0
  pub status : d.motion.status < 65536
  pub actual : Within 2 d.motion.actual.0
  pub counter : d.faults.counter < 65536
  pub codes : Words d.faults.buffer
  pub whole : length d.faults.buffer ≡ buffer_codes

abbrev word_write : ℕ → ℕ → Write
word_write at x = record { at = at; size = 2; bytes = (word 2).write x; sized = word_length 2 x }

abbrev speed_write : ℕ → N2 → Write
speed_write at v = word_write at (bits_of 2 v.0)

-- the places of a drive record, as `put_motion` and then `put_drive` go through them
abbrev pub motion_writes : Motion → List Write
motion_writes m =
    speed_write (offset_of 10103) m.actual
    ∷ word_write (offset_of 10102) m.status
    ∷ speed_write effective_at m.effective
    ∷ speed_write (offset_of 10101) m.setpoint
    ∷ word_write (offset_of 10100) m.word
    ∷ record { at = state_at; size = 1; bytes = number_of m.state ∷ []; sized = refl }
    ∷ []

abbrev pub record_writes : (d : Drive) → length d.faults.buffer ≡ buffer_codes → List Write
record_writes d whole =
    record { at = offset_of 947; size = buffer_codes * 2; bytes = write_all (word 2).write d.faults.buffer; sized = all_length (word 2).write 2 (word_length 2) d.faults.buffer ∙ ap (λ (n : ℕ). n * 2) whole }
    ∷ word_write (offset_of 944) d.faults.counter
    ∷ motion_writes (motion_of d)

module _ (d : Drive) (p : List ℕ) (whole : length d.faults.buffer ≡ buffer_codes) where
  pub drive_puts : put_drive d p ≡ puts (record_writes d whole) p
  unfolding put_drive
  drive_puts = refl

  -- the part keeps its size
  pub drive_length : length (put_drive d p) ≡ length p
  drive_length = ap length drive_puts ∙ puts_length (record_writes d whole) p

  -- a number that stands apart from the record's places is as it was
  pub drive_apart : (w k : ℕ) → apart w k (record_writes d whole) ≡ true → number_at w (put_drive d p) k ≡ number_at w p k
  drive_apart w k h = ap (λ (l : List ℕ). number_at w l k) drive_puts ∙ number_apart w k (record_writes d whole) p h

  -- the waiting response and its length are as they were
  pub drive_response : drop length_at (put_drive d p) ≡ drop length_at p
  unfolding offset_of find_of rows parameter_bytes
  drive_response = ap (drop length_at) drive_puts ∙ drop_ended length_at (record_writes d whole) p refl

-- the parameters of a drive record
abbrev pub of_record : ℕ → Bool
of_record pnu = eqb pnu 944 || eqb pnu 947 || eqb pnu 10100 || eqb pnu 10101 || eqb pnu 10102 || eqb pnu 10103

module _ (d : Drive) (p : List ℕ) (whole : length d.faults.buffer ≡ buffer_codes) where
  abbrev safe : ℕ → ℕ → Bool
  safe w k = apart w k (record_writes d whole)

  others_safe : every_row (λ r. of_record r.pnu || row_safe safe r) rows ≡ true
  unfolding offset_of find_of rows parameter_bytes
  others_safe = refl

  -- every other parameter is as it was
  pub drive_element : (pnu : ℕ) (r : Row) (i : ℕ) → find_of pnu ≡ Some r → of_record r.pnu ≡ false → i < r.count → element_of r i (put_drive d p) ≡ element_of r i p
  drive_element pnu r i f other h =
      element_same safe p (put_drive d p) (drive_apart d p whole) r i
      (either (of_record r.pnu) (row_safe safe r) other (row_passes (λ s. of_record s.pnu || row_safe safe s) pnu r others_safe f)) h
    where
      either : (a b : Bool) → a ≡ false → (a || b) ≡ true → b ≡ true
      either a b e t = rw e at t

  tested_apart : every_row (tested_safe safe) rows ≡ true
  unfolding offset_of find_of rows parameter_bytes
  tested_apart = refl

  pub drive_limits : every_row (limits_fit (put_drive d p)) rows ≡ every_row (limits_fit p) rows
  drive_limits = limits_same safe p (put_drive d p) (drive_apart d p whole) tested_apart

  pub drive_fixed : every_row (fixed_fit (put_drive d p)) rows ≡ every_row (fixed_fit p) rows
  drive_fixed = fixed_same safe p (put_drive d p) (drive_apart d p whole) tested_apart

state_back : (s : State) → state_of (number_of s) ≡ s
unfolding state_of
state_back S1 = refl
state_back S2 = refl
state_back S3 = refl
state_back S4 = refl
state_back S51 = refl
state_back S52 = refl

state_small : (s : State) → number_of s < 256
state_small S1 = lit< tt
state_small S2 = lit< tt
state_small S3 = lit< tt
state_small S4 = lit< tt
state_small S51 = lit< tt
state_small S52 = lit< tt

speed_stored : (xs ys : List Write) (p : List ℕ) (at : ℕ) (v : N2) → apart 2 at xs ≡ true → at + 2 ≤ length p → Within 2 v.0 → signed_of 2 (number_at 2 (puts xs (put (puts ys p) at ((word 2).write (bits_of 2 v.0)))) at) ≡ v.0
speed_stored xs ys p at v h room w =
    ap (signed_of 2) (number_stored xs ys p 2 at (bits_of 2 v.0) h (lit≤ tt) room (bits_small 2 v.0 w))
    ∙ signed_bits 2 v.0 w

module _ (d : Drive) (p : List ℕ) (long : length p ≡ part_size) (f : Fits d) where
  abbrev writes : List Write
  writes = record_writes d f.whole

  -- the number of the state is stored
  pub state_stored : number_at 1 (put_drive d p) state_at ≡ number_of d.motion.state
  unfolding put_drive offset_of find_of rows parameter_bytes
  state_stored =
      ap (λ (bs : List ℕ). number_at 1 (puts (take 7 writes) (put p state_at bs)) state_at) (sym (byte_written (number_of d.motion.state) (state_small d.motion.state)))
      ∙ number_stored (take 7 writes) [] p 1 state_at (number_of d.motion.state) refl (lit≤ tt) (omega (arith, long)) (state_small d.motion.state)

  word_stored : number_at 2 (put_drive d p) (offset_of 10100) ≡ d.motion.word
  unfolding put_drive offset_of find_of rows parameter_bytes
  word_stored = number_stored (take 6 writes) (drop 7 writes) p 2 (offset_of 10100) d.motion.word refl (lit≤ tt) (omega (arith, long)) f.word

  setpoint_stored : signed_of 2 (number_at 2 (put_drive d p) (offset_of 10101)) ≡ d.motion.setpoint.0
  unfolding put_drive offset_of find_of rows parameter_bytes
  setpoint_stored = speed_stored (take 5 writes) (drop 6 writes) p (offset_of 10101) d.motion.setpoint refl (omega (arith, long)) f.setpoint

  effective_stored : signed_of 2 (number_at 2 (put_drive d p) effective_at) ≡ d.motion.effective.0
  unfolding put_drive offset_of find_of rows parameter_bytes
  effective_stored = speed_stored (take 4 writes) (drop 5 writes) p effective_at d.motion.effective refl (omega (arith, long)) f.effective

  status_stored : number_at 2 (put_drive d p) (offset_of 10102) ≡ d.motion.status
  unfolding put_drive offset_of find_of rows parameter_bytes
  status_stored = number_stored (take 3 writes) (drop 4 writes) p 2 (offset_of 10102) d.motion.status refl (lit≤ tt) (omega (arith, long)) f.status

  actual_stored : signed_of 2 (number_at 2 (put_drive d p) (offset_of 10103)) ≡ d.motion.actual.0
  unfolding put_drive offset_of find_of rows parameter_bytes
  actual_stored = speed_stored (take 2 writes) (drop 3 writes) p (offset_of 10103) d.motion.actual refl (omega (arith, long)) f.actual

  counter_stored : number_at 2 (put_drive d p) (offset_of 944) ≡ d.faults.counter
  unfolding put_drive offset_of find_of rows parameter_bytes
  counter_stored = number_stored (take 1 writes) (drop 2 writes) p 2 (offset_of 944) d.faults.counter refl (lit≤ tt) (omega (arith, long)) f.counter

  codes_stored : words_at buffer_codes (put_drive d p) (offset_of 947) ≡ d.faults.buffer
  unfolding put_drive offset_of find_of rows parameter_bytes
  codes_stored =
      ap (λ (n : ℕ). words_at n (put_drive d p) (offset_of 947)) (sym f.whole)
      ∙ words_put d.faults.buffer (puts (drop 1 writes) p) (offset_of 947) f.codes (omega (arith, long, f.whole, puts_length (drop 1 writes) p))

  pub faults_stored : faults_of (put_drive d p) ≡ d.faults
  faults_stored = λ i. record { counter = counter_stored i; buffer = codes_stored i }

  -- what is stored is loaded again
  pub stored_is_loaded : drive_of (put_drive d p) ≡ d
  unfolding drive_of
  stored_is_loaded = λ i. record {
    motion = record {
      state = (ap state_of state_stored ∙ state_back d.motion.state) i;
      word = word_stored i;
      setpoint = record { 0 = setpoint_stored i };
      effective = record { 0 = effective_stored i };
      status = status_stored i;
      actual = record { 0 = actual_stored i };
    };
    faults = faults_stored i;
  }
