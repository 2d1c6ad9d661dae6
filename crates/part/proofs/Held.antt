-- A part that a response was stored in: it waits there as it was given, and nothing else moves.
use Rattle.std.specs.Prelude.{Some}
use mathlib.Core.Path.{◌≡◌, refl, sym, ◌∙◌, ap}
use mathlib.Core.Bool.{Bool, true, ◌&&◌, ◌||◌, or-true, and-eq-true_iff}
use mathlib.Core.List.{List, [], ◌∷◌, ◌++◌}
use Prim.Native.Nat.{ℕ, zero, suc, ◌+◌, ◌*◌, ◌-◌, ◌≤◌, ◌<◌}
use native.Mathlib.Omega.{arith}
use lib.Dec.{eqb, leb, lit≤}
use lib.ListN.{length, take, drop, replicate}
use lib.Seq.{take-append_seam, drop-append_seam, drop_at, length-take-le}
use borrow.Author.Tests.{eq-eqb, le-leb, leb-true}
use Rattle.codes.specs.Code.{readable, reads_all}
use Rattle.codes.specs.Number.{number_at, put, signed_of}
use Rattle.codes.proofs.Put.{put_length, put_fits, put_append, put_over, put_drop}
use Rattle.codes.proofs.Number.{number_put, number_before, numbers_same}
use Rattle.blocks.specs.Block.{block_limit}
use Rattle.blocks.specs.Response.{response}
use Rattle.blocks.specs.Place.{header_of}
use Rattle.drive.specs.Faults.{buffer_codes, zeros}
use Rattle.catalogue.specs.declared.Row.{Row}
use Rattle.catalogue.specs.Table.{rows, find_of, offset_of, parameter_bytes}
use Rattle.catalogue.specs.Element.{element_of, every_row}
use Rattle.catalogue.proofs.Rows.{every_row_lem}
use Rattle.versions.specs.Keep.{taken}
use Rattle.versions.proofs.Inner.{taken_alike}
use Rattle.part.specs.Layout.{state_at, effective_at, length_at, response_at, versions_at, part_size, waiting_length, response_room, waiting, with_response, versions}
use Rattle.part.specs.Record.{faults_of, drive_of}
use Rattle.drive.specs.States.{state_of}
use Rattle.part.specs.WellFormed.{limits_fit, fixed_fit, waiting_fits, unused_fit}
use Rattle.part.proofs.StoredResponse.{byte_written, filled_length}
use Rattle.part.proofs.Kept.{row_passes, row_safe, tested_safe, element_same, limits_same, fixed_same}

-- w bytes from k on stand before the response and its length
abbrev before : ℕ → ℕ → Bool
before w k = leb (k + w) length_at

module _ (bs p : List ℕ) where
  -- the part keeps its size
  pub response_length : length (with_response bs p) ≡ length p
  unfolding with_response
  response_length = put_length (put p length_at (length bs ∷ [])) response_at _ ∙ put_length p length_at (length bs ∷ [])

  -- the versions are as they were
  pub response_versions : length bs ≤ block_limit → versions (with_response bs p) ≡ versions p
  unfolding with_response
  response_versions short =
      put_drop (put p length_at (length bs ∷ [])) response_at _ versions_at (omega (arith, filled_length bs short))
      ∙ put_drop p length_at (length bs ∷ []) versions_at (omega arith)

  -- a number that stands before the response is as it was
  pub response_apart : (w k : ℕ) → before w k ≡ true → number_at w (with_response bs p) k ≡ number_at w p k
  unfolding with_response
  response_apart w k h =
      let end = leb-true (k + w) length_at h in
      number_before w (put p length_at (length bs ∷ [])) response_at _ k (omega arith) ∙ number_before w p length_at (length bs ∷ []) k end

  all_before : every_row (row_safe before) rows ≡ true
  unfolding rows parameter_bytes
  all_before = refl

  -- every parameter is as it was
  pub response_element : (pnu : ℕ) (r : Row) (i : ℕ) → find_of pnu ≡ Some r → i < r.count → element_of r i (with_response bs p) ≡ element_of r i p
  response_element pnu r i f h = element_same before p (with_response bs p) response_apart r i (row_passes (row_safe before) pnu r all_before f) h

  -- and so the same version is taken
  pub response_taken : (v : List ℕ) → taken (with_response bs p) v ≡ taken p v
  response_taken =
      taken_alike (with_response bs p) p
      (λ r m i h. element_same before p (with_response bs p) response_apart r i (every_row_lem (row_safe before) rows all_before r m) h)

  pub response_state : number_at 1 (with_response bs p) state_at ≡ number_at 1 p state_at
  unfolding rows parameter_bytes
  response_state = response_apart 1 state_at refl

  pub response_faults : faults_of (with_response bs p) ≡ faults_of p
  unfolding offset_of find_of rows parameter_bytes
  response_faults = λ j. record {
    counter = response_apart 2 (offset_of 944) refl j;
    buffer = numbers_same 2 buffer_codes (with_response bs p) p (offset_of 947) (λ i h. response_apart 2 (offset_of 947 + i * 2) (le-leb (offset_of 947 + i * 2 + 2) length_at (omega arith))) j;
  }

  -- the drive record is as it was
  pub response_drive : drive_of (with_response bs p) ≡ drive_of p
  unfolding drive_of offset_of find_of rows parameter_bytes
  response_drive = λ j. record {
    motion = record {
      state = state_of (response_state j);
      word = response_apart 2 (offset_of 10100) refl j;
      setpoint = ap (λ (x : ℕ). record { 0 = signed_of 2 x }) (response_apart 2 (offset_of 10101) refl) j;
      effective = ap (λ (x : ℕ). record { 0 = signed_of 2 x }) (response_apart 2 effective_at refl) j;
      status = response_apart 2 (offset_of 10102) refl j;
      actual = ap (λ (x : ℕ). record { 0 = signed_of 2 x }) (response_apart 2 (offset_of 10103) refl) j;
    };
    faults = response_faults j;
  }

  tested_before : every_row (tested_safe before) rows ≡ true
  unfolding rows parameter_bytes
  tested_before = refl

  pub response_limits : every_row (limits_fit (with_response bs p)) rows ≡ every_row (limits_fit p) rows
  response_limits = limits_same before p (with_response bs p) response_apart tested_before

  pub response_fixed : every_row (fixed_fit (with_response bs p)) rows ≡ every_row (fixed_fit p) rows
  response_fixed = fixed_same before p (with_response bs p) response_apart tested_before

  module _ (long : length p ≡ part_size) (short : length bs ≤ block_limit) where
    abbrev filled : List ℕ
    filled = bs ++ replicate (block_limit - length bs) 0

    -- length and response are put side by side
    all_put : with_response bs p ≡ put p length_at (length bs ∷ filled)
    unfolding with_response
    all_put = put_append p length_at (length bs ∷ []) filled (omega (arith, filled_length bs short))

    -- how many bytes wait
    pub waiting_length_is : waiting_length (with_response bs p) ≡ length bs
    unfolding with_response
    waiting_length_is =
        number_before 1 (put p length_at (length bs ∷ [])) response_at filled length_at (omega arith)
        ∙ (ap (λ (l : List ℕ). number_at 1 (put p length_at l) length_at) (sym (byte_written (length bs) (omega arith)))
        ∙ number_put 1 p length_at (length bs) (lit≤ tt) (omega arith) (omega arith))

    bytes_are : response_room (with_response bs p) ≡ filled
    unfolding with_response
    bytes_are =
        let l = put p length_at (length bs ∷ []) in
        let n = filled_length bs short in
        let e : length l ≡ part_size = put_length p length_at (length bs ∷ []) ∙ long in
        let rest = drop (response_at + length filled) l in
        let stands : drop response_at (put l response_at filled) ≡ filled ++ rest =
        ap (drop response_at) (put_fits l response_at filled (omega arith))
        ∙ drop_at (take response_at l) (filled ++ rest) response_at (length-take-le response_at l (omega arith)) in
        ap (take block_limit) stands ∙ (ap (λ (k : ℕ). take k (filled ++ rest)) (sym n) ∙ take-append_seam filled rest)

    -- the response waits as it was given
    pub waiting_is_given : waiting (with_response bs p) ≡ bs
    waiting_is_given =
        ap (λ (n : ℕ). take n (response_room (with_response bs p))) waiting_length_is
        ∙ (ap (take (length bs)) bytes_are ∙ take-append_seam bs (replicate (block_limit - length bs) 0))

    all_zeros : (n : ℕ) → zeros (replicate n 0) ≡ true
    all_zeros zero = refl
    all_zeros (suc n) = all_zeros n

    pub unused_zero : unused_fit (with_response bs p) ≡ true
    unfolding unused_fit
    unused_zero =
        ap (λ (n : ℕ). zeros (drop n (response_room (with_response bs p)))) waiting_length_is
        ∙ (ap (λ (l : List ℕ). zeros (drop (length bs) l)) bytes_are
        ∙ (ap zeros (drop-append_seam bs (replicate (block_limit - length bs) 0)) ∙ all_zeros (block_limit - length bs)))

    pub waits_well : (axis : ℕ) → readable block_limit response bs ≡ true → (header_of bs).axis ≡ axis → waiting_fits axis (with_response bs p) ≡ true
    unfolding waiting_fits
    waits_well axis r a =
        let tests : Bool → List ℕ → Bool = λ l s. eqb (waiting_length (with_response bs p)) 0 || l && readable block_limit response s && eqb (header_of s).axis axis in
        ap (λ (s : List ℕ). tests (leb (waiting_length (with_response bs p)) block_limit) s) waiting_is_given
        ∙ (ap (λ (l : Bool). tests l bs) (le-leb (waiting_length (with_response bs p)) block_limit (omega (arith, waiting_length_is)))
        ∙ (ap (λ (t : Bool). eqb (waiting_length (with_response bs p)) 0 || t && eqb (header_of bs).axis axis) r
        ∙ (ap (λ (t : Bool). eqb (waiting_length (with_response bs p)) 0 || t) (eq-eqb (header_of bs).axis axis a) ∙ or-true (eqb (waiting_length (with_response bs p)) 0))))

-- a readable response is no longer than a block
pub readable_short : (bs : List ℕ) → readable block_limit response bs ≡ true → length bs ≤ block_limit
unfolding readable
readable_short bs e = leb-true (length bs) block_limit ((and-eq-true_iff (leb (length bs) block_limit) (reads_all response bs)).0 e).0

-- where none waits
pub waits_for_none : (axis : ℕ) (p : List ℕ) → length p ≡ part_size → waiting_fits axis (with_response [] p) ≡ true
unfolding waiting_fits
waits_for_none axis p long = rw (eq-eqb (waiting_length (with_response [] p)) 0 (waiting_length_is [] p long (omega arith)))

-- a response stored over another leaves nothing of it
pub response_again :
    (bs cs p : List ℕ) → length p ≡ part_size → length bs ≤ block_limit → length cs ≤ block_limit
    → with_response cs (with_response bs p) ≡ with_response cs p
response_again bs cs p long short most =
    all_put cs (with_response bs p) (response_length bs p ∙ long) most
    ∙ (ap (λ (l : List ℕ). put l length_at (length cs ∷ cs ++ replicate (block_limit - length cs) 0)) (all_put bs p long short)
    ∙ (put_over p length_at (length bs ∷ bs ++ replicate (block_limit - length bs) 0) (length cs ∷ cs ++ replicate (block_limit - length cs) 0)
    (omega (arith, filled_length bs short, filled_length cs most)) (omega (arith, filled_length cs most))
    ∙ sym (all_put cs p long most)))
