-- What callers may cite of a part: what stores keep of it, and that it stays well-formed.
use mathlib.Core.Path.{◌≡◌, refl, sym, ◌∙◌, ap}
use mathlib.Core.Bool.{true}
use mathlib.Core.List.{List, []}
use Prim.Native.Nat.{ℕ, ◌+◌, ◌-◌, ◌≤◌}
use native.Mathlib.Omega.{arith}
use lib.ListN.{length, take, drop}
use lib.Seq.{drop-drop}
use Rattle.codes.specs.Code.{readable}
use Rattle.codes.specs.Number.{number_at}
use Rattle.catalogue.specs.Table.{offset_of}
use Rattle.codes.proofs.Number.{numbers_length}
use Rattle.blocks.specs.Block.{block_limit}
use Rattle.blocks.specs.Response.{response}
use Rattle.blocks.specs.Place.{header_of}
use Rattle.drive.specs.declared.states.State.{State}
use Rattle.drive.specs.declared.states.State.TheVariants.{S1, S2, S3, S4, S51, S52}
use Rattle.drive.specs.declared.Drive.{Drive}
use Rattle.drive.specs.declared.Input.{Input}
use Rattle.drive.specs.Faults.{buffer_codes, proper_faults}
use Rattle.drive.specs.Cycle.{cycle_of}
use Rattle.drive.proofs.Laws.{keeps_length, keeps_proper}
use Rattle.versions.specs.Fit.{versions_fit}
use Rattle.part.specs.Layout.{length_at, response_at, versions_at, waiting_length, response_room, waiting, with_response, versions}
use Rattle.part.specs.Record.{put_drive, drive_of}
use Rattle.drive.specs.States.{number_of}
use Rattle.part.specs.WellFormed.{waiting_fits, unused_fit, well_formed}
use Rattle.drive.specs.States.{is_state}
use Rattle.part.proofs.Rule.{form_of, form_is}
pub use Rattle.part.proofs.Cycled.{InputFits, loaded_fits, cycled_fits}
pub use Rattle.part.proofs.Stored.{Fits, of_record, drive_length, drive_response, drive_element, stored_is_loaded}
pub use Rattle.part.proofs.Quiet.{motion_stored}
pub use Rattle.part.proofs.Held.{response_length, response_versions, response_taken, response_element, response_drive, waiting_length_is, waiting_is_given, response_again}
use Rattle.part.proofs.Stored.{drive_limits, drive_fixed, state_stored, faults_stored}
use Rattle.part.proofs.Held.{response_state, response_limits, response_fixed, response_faults, unused_zero, waits_well, waits_for_none, readable_short}

-- a state's number is one of the six
is_state_lem : (s : State) → is_state (number_of s) ≡ true
is_state_lem S1 = refl
is_state_lem S2 = refl
is_state_lem S3 = refl
is_state_lem S4 = refl
is_state_lem S51 = refl
is_state_lem S52 = refl

-- bytes that are the same from a place on are so from a later one
pub drop_later : (a b : ℕ) (p q : List ℕ) → a ≤ b → drop a q ≡ drop a p → drop b q ≡ drop b p
drop_later a b p q h same =
    let e : b ≡ a + (b - a) = omega arith in
    rw e (sym (drop-drop (b - a) a q) ∙ (ap (drop (b - a)) same ∙ drop-drop (b - a) a p))

-- a response's tests look at nothing before its length
module _ (p q : List ℕ) (same : drop length_at q ≡ drop length_at p) where
  same_length : waiting_length q ≡ waiting_length p
  unfolding number_at
  same_length = rw same

  same_bytes : response_room q ≡ response_room p
  same_bytes = ap (take block_limit) (drop_later length_at response_at p q (omega arith) same)

  pub same_waits : (axis : ℕ) → waiting_fits axis q ≡ waiting_fits axis p
  unfolding waiting_fits
  same_waits axis = rw (same_length, same_bytes)

  pub same_unused : unused_fit q ≡ unused_fit p
  unfolding unused_fit
  same_unused = rw (same_length, same_bytes)

  pub same_versions : versions q ≡ versions p
  same_versions = drop_later length_at versions_at p q (omega arith) same

-- a drive record with proper faults, stored, keeps a part well-formed
pub drive_well_formed : (axis : ℕ) (d : Drive) (p : List ℕ) → well_formed axis p ≡ true → proper_faults d.faults ≡ true → Fits d → well_formed axis (put_drive d p) ≡ true
drive_well_formed axis d p e proper f =
    let g = form_of axis p e in
    let kept = drive_response d p f.whole in
    form_is axis (put_drive d p) (record {
      size = drive_length d p f.whole ∙ g.size;
      state = ap is_state (state_stored d p g.size f) ∙ is_state_lem d.motion.state;
      limits = drive_limits d p f.whole ∙ g.limits;
      fixed = drive_fixed d p f.whole ∙ g.fixed;
      faults = ap proper_faults (faults_stored d p g.size f) ∙ proper;
      waits = same_waits p (put_drive d p) kept axis ∙ g.waits;
      unused = same_unused p (put_drive d p) kept ∙ g.unused;
      kept = ap versions_fit (same_versions p (put_drive d p) kept) ∙ g.kept;
    })

-- a cycle keeps a part well-formed
pub cycle_well_formed : (axis : ℕ) (p : List ℕ) (i : Input) → well_formed axis p ≡ true → InputFits i → well_formed axis (put_drive (cycle_of (drive_of p) i).drive p) ≡ true
unfolding drive_of
cycle_well_formed axis p i e g =
    drive_well_formed axis (cycle_of (drive_of p) i).drive p e
    (keeps_proper (drive_of p) i (form_of axis p e).faults)
    (cycled_fits (drive_of p) i (loaded_fits p) g)

-- and what waits
pub cycle_keeps_waiting : (p : List ℕ) (i : Input) → waiting (put_drive (cycle_of (drive_of p) i).drive p) ≡ waiting p
unfolding drive_of
cycle_keeps_waiting p i =
    let d = (cycle_of (drive_of p) i).drive in
    let kept = drive_response d p (keeps_length (drive_of p) i (numbers_length 2 buffer_codes p (offset_of 947))) in
    rw (same_length p (put_drive d p) kept, same_bytes p (put_drive d p) kept)

-- and the versions
pub cycle_keeps_versions : (p : List ℕ) (i : Input) → versions (put_drive (cycle_of (drive_of p) i).drive p) ≡ versions p
unfolding drive_of
cycle_keeps_versions p i =
    let d = (cycle_of (drive_of p) i).drive in
    same_versions p (put_drive d p) (drive_response d p (keeps_length (drive_of p) i (numbers_length 2 buffer_codes p (offset_of 947))))

module _ (axis : ℕ) (p : List ℕ) (e : well_formed axis p ≡ true) where
  holding : (bs : List ℕ) → length bs ≤ block_limit → waiting_fits axis (with_response bs p) ≡ true → well_formed axis (with_response bs p) ≡ true
  holding bs short w =
      let g = form_of axis p e in
      form_is axis (with_response bs p) (record {
        size = response_length bs p ∙ g.size;
        state = ap is_state (response_state bs p) ∙ g.state;
        limits = response_limits bs p ∙ g.limits;
        fixed = response_fixed bs p ∙ g.fixed;
        faults = ap proper_faults (response_faults bs p) ∙ g.faults;
        waits = w;
        unused = unused_zero bs p g.size short;
        kept = ap versions_fit (response_versions bs p short) ∙ g.kept;
      })

  -- a readable response of that axis keeps a part well-formed
  pub response_well_formed : (bs : List ℕ) → readable block_limit response bs ≡ true → (header_of bs).axis ≡ axis → well_formed axis (with_response bs p) ≡ true
  response_well_formed bs r a =
      let short = readable_short bs r in
      holding bs short (waits_well bs p (form_of axis p e).size short axis r a)

  -- and so does none
  pub no_response_well_formed : well_formed axis (with_response [] p) ≡ true
  no_response_well_formed = holding [] (omega arith) (waits_for_none axis p (form_of axis p e).size)
