-- What a cycle owes.
use mathlib.Core.Path.{◌≡◌, refl, sym, ◌∙◌}
use mathlib.Core.Bool.{true, cond, not}
use mathlib.Core.List.{List}
use Prim.Native.Nat.{ℕ, zero, suc, ◌≤◌}
use native.Mathlib.Omega.{arith}
use lib.Dec.{eqb, ltb, eqb-suc-zero}
use lib.ListN.{length}
use Rattle.codes.proofs.Put.{put_length}
use Rattle.drive.specs.declared.Drive.{Drive}
use Rattle.drive.specs.Cycle.{cycle_of}
use Rattle.part.specs.Layout.{part_size, waiting, versions}
use Rattle.part.specs.Record.{drive_of, put_drive}
use Rattle.part.specs.WellFormed.{well_formed}
use Rattle.part.proofs.Laws.{cycle_well_formed, cycle_keeps_waiting}
use Rattle.part.proofs.Laws.{cycle_keeps_versions}
use Rattle.station.specs.declared.Sent.{Sent}
use Rattle.station.specs.Cycle.{input_of, cycle_tests, cycle_refusal, refused_cycle, cycle_answer, cycle_part}
use Rattle.station.specs.Calls.{cycle, to_cycle, kind_of}
use Rattle.station.specs.Owed.{Owes}
use Rattle.station.specs.Laws.{CycleKeepsWaiting}
use Rattle.station.proofs.Tests.{one_of}

pub drive_length : (d : Drive) (p : List ℕ) → length (put_drive d p) ≡ length p
unfolding put_drive
drive_length d p = simp put_length

pub cycle_keeps : CycleKeepsWaiting
unfolding cycle_part
cycle_keeps k i p =
    one_of (λ (l : List ℕ). waiting l ≡ waiting p) (eqb (cycle_refusal k i p) 0) (put_drive (cycle_of (drive_of p) (input_of i p)).drive p) p
    (cycle_keeps_waiting p (input_of i p)) refl

module _ (axis : ℕ) (i : Sent) where
  numbered : (p : List ℕ) → (cycle_answer axis i p).told.number ≡ cond (not (well_formed axis p)) 2 (cycle_tests i)
  unfolding cycle_answer cycle_refusal
  numbered p = go (cycle_refusal axis i p) refl
    where
      go : (n : ℕ) → cycle_refusal axis i p ≡ n → (cycle_answer axis i p).told.number ≡ cycle_refusal axis i p
      go zero e = rw e
      go (suc n) e = rw (e, eqb-suc-zero n)

  later : cycle_tests i ≤ 2 → cycle_tests i ≡ 0
  later = one_of (λ n. n ≤ 2 → n ≡ 0) (ltb 3 i.flags) 12 0 (λ few. absurd (omega arith)) (λ few. refl)

  refuses : (p : List ℕ) (n : ℕ) → (cycle_answer axis i p).told.number ≡ suc n
      → (to_cycle (cycle_answer axis i p) ≡ to_cycle (refused_cycle (suc n))) × (cycle_part axis i p ≡ p)
  unfolding cycle_answer cycle_part cycle_refusal
  refuses p n e = let r : cycle_refusal axis i p ≡ suc n = sym (numbered p) ∙ e in rw (r, eqb-suc-zero n) (refl, refl)

  pub cycle_owes : Owes (kind_of (cycle axis i))
  unfolding cycle_part
  cycle_owes =
      record {
        names = λ n. refl;
        empty = λ n. refl;
        numbered = numbered;
        later = λ p. later;
        refuses = refuses;
        sized = λ p h. one_of (λ (l : List ℕ). length l ≡ part_size) (eqb (cycle_refusal axis i p) 0) _ _ (drive_length _ p ∙ h) h;
        formed = λ p fits w.
            one_of (λ (l : List ℕ). well_formed axis l ≡ true) (eqb (cycle_refusal axis i p) 0) _ _
            (cycle_well_formed axis p (input_of i p) w (record { stw1 = fits.stw1; nsoll = fits.nsoll; nist = fits.nist; fault = fits.fault })) w;
        waits = λ p quiet some. cycle_keeps axis i p;
        versioned = λ p h. one_of (λ (l : List ℕ). versions l ≡ versions p) (eqb (cycle_refusal axis i p) 0) _ _ (cycle_keeps_versions p (input_of i p)) refl;
        numbers = λ p some. absurd (some refl);
      }
