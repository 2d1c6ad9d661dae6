-- The rule for a well-formed part, taken apart and put together again.
use mathlib.Core.Path.{◌≡◌, ◌∙◌, ap}
use mathlib.Core.Bool.{Bool, true, false, ◌&&◌, and-eq-true_iff}
use mathlib.Core.List.{List}
use Prim.Native.Nat.{ℕ}
use lib.Dec.{eqb}
use lib.ListN.{length}
use borrow.Author.Tests.{eq-eqb, ne_eqb, eqb-true}
use Rattle.codes.specs.Number.{number_at}
use Rattle.drive.specs.Faults.{proper_faults}
use Rattle.catalogue.specs.Table.{rows}
use Rattle.versions.specs.Fit.{versions_fit}
use Rattle.part.specs.Layout.{state_at, part_size, versions}
use Rattle.part.specs.Record.{faults_of}
use Rattle.catalogue.specs.Element.{every_row}
use Rattle.part.specs.WellFormed.{limits_fit, fixed_fit, waiting_fits, unused_fit, well_formed}
use Rattle.drive.specs.States.{is_state, state_found}
use Rattle.drive.specs.declared.states.State.{State}
use Rattle.drive.specs.declared.states.UnknownState.{UnknownState}
use Rattle.std.proofs.Common.{Result, is_ok}
use borrow.Table.Steps.{cases}

looked_for : (n : ℕ) → is_ok (state_found n) ≡ is_state n
unfolding state_found
looked_for n = cases (is_state n) (λ e. rw e) (λ e. rw e)

-- what is known of a number where a state was looked for
pub state_is : {n m : ℕ} {r : Result State UnknownState} {b : Bool} → n ≡ m → r ≡ state_found n → b ≡ is_ok r → b ≡ is_state m
state_is {n} same looked ok = ok ∙ (ap is_ok looked ∙ (looked_for n ∙ ap is_state same))

abbrev all : Bool → Bool → Bool → Bool → Bool → Bool → Bool → Bool → Bool
all size state limits fixed faults waits unused kept = size && state && limits && fixed && faults && waits && unused && kept

module _ (axis : ℕ) (p : List ℕ) where
  pub wrong_size : (length p ≡ part_size → ⊥) → false ≡ well_formed axis p
  unfolding well_formed
  wrong_size n = rw (ne_eqb (length p) part_size n)

  -- the tests that are left for a part of the right size
  abbrev pub others : Bool
  others =
      is_state (number_at 1 p state_at)
      && every_row (limits_fit p) rows
      && every_row (fixed_fit p) rows
      && proper_faults (faults_of p)
      && waiting_fits axis p
      && unused_fit p
      && versions_fit (versions p)

  pub right_size : length p ≡ part_size → others ≡ well_formed axis p
  unfolding well_formed
  right_size e = rw (eq-eqb (length p) part_size e)

-- what is known of a well-formed part
pub record Form (axis : ℕ) (p : List ℕ) : Type 0 where
  pub size : length p ≡ part_size
  pub state : is_state (number_at 1 p state_at) ≡ true
  pub limits : every_row (limits_fit p) rows ≡ true
  pub fixed : every_row (fixed_fit p) rows ≡ true
  pub faults : proper_faults (faults_of p) ≡ true
  pub waits : waiting_fits axis p ≡ true
  pub unused : unused_fit p ≡ true
  pub kept : versions_fit (versions p) ≡ true

both : (a b : Bool) → (a && b) ≡ true → (a ≡ true) × (b ≡ true)
both a b = (and-eq-true_iff a b).0

module _ (axis : ℕ) (p : List ℕ) where
  pub form_of : well_formed axis p ≡ true → Form axis p
  unfolding well_formed
  form_of e =
      let h = both _ (versions_fit (versions p)) e in
      let g = both _ (unused_fit p) h.0 in
      let f = both _ (waiting_fits axis p) g.0 in
      let d = both _ (proper_faults (faults_of p)) f.0 in
      let c = both _ (every_row (fixed_fit p) rows) d.0 in
      let b = both _ (every_row (limits_fit p) rows) c.0 in
      let a = both (eqb (length p) part_size) (is_state (number_at 1 p state_at)) b.0 in
      record {
        size = eqb-true (length p) part_size a.0;
        state = a.1;
        limits = b.1;
        fixed = c.1;
        faults = d.1;
        waits = f.1;
        unused = g.1;
        kept = h.1;
      }

  pub form_is : Form axis p → well_formed axis p ≡ true
  unfolding well_formed
  form_is f = together (eqb (length p) part_size) _ _ _ _ _ _ _ (eq-eqb (length p) part_size f.size) f.state f.limits f.fixed f.faults f.waits f.unused f.kept
    where
      together : (a b c d e g h k : Bool) → a ≡ true → b ≡ true → c ≡ true → d ≡ true → e ≡ true → g ≡ true → h ≡ true → k ≡ true → all a b c d e g h k ≡ true
      together a b c d e g h k ea eb ec ed ee eg eh ek = rw (ea, eb, ec, ed, ee, eg, eh, ek)
