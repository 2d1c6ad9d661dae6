-- What a list and a going back owe.
use mathlib.Core.Path.{◌≡◌, refl, sym, ap, ◌∙◌}
use mathlib.Core.Bool.{Bool, true, false, cond, not}
use mathlib.Core.List.{List}
use Prim.Native.Nat.{ℕ, zero, suc, ◌≤◌}
use native.Mathlib.Numerals.{add-one}
use native.Mathlib.Omega.{arith}
use lib.Dec.{eqb-suc-zero}
use lib.ListN.{length, drop}
use Rattle.codes.specs.Number.{number_at}
use Rattle.catalogue.specs.Table.{parameter_bytes}
use Rattle.versions.specs.Layout.{last_used}
use Rattle.versions.specs.Keep.{taken}
use Rattle.versions.specs.Version.{is_kept}
use Rattle.versions.proofs.Laws.{eighteen}
use Rattle.part.specs.Layout.{length_at, response_at, versions_at, part_size, waiting, versions, with_version, with_settings, used_up}
use Rattle.part.specs.WellFormed.{well_formed}
use Rattle.part.proofs.Laws.{drop_later}
use Rattle.part.proofs.Versions.{front_waiting, front_taken, version_length, version_front, version_taken, version_well_formed, settings_length, settings_beyond, settings_well_formed}
use Rattle.station.specs.declared.Listed.{Listed}
use Rattle.station.specs.declared.Returned.{Returned}
use Rattle.station.specs.Versions.{refused_list, list_answer, refused_return, return_tests, return_refusal, return_answer, return_part}
use Rattle.station.specs.Calls.{list, go_back, to_list, to_return, kind_of}
use Rattle.station.specs.Owed.{Owes}
use Rattle.station.proofs.Tests.{one_of}
use Rattle.station.proofs.Outcome.{Versioned}

-- a list is refused by 2 alone
list_number : (formed : Bool) (a : Listed) → a.number ≡ 0 → (cond (not formed) (refused_list 2) a).number ≡ cond (not formed) 2 0
list_number true a z = z
list_number false a z = refl

list_refused : (formed : Bool) (a : Listed) → a.number ≡ 0 → (n : ℕ) → (cond (not formed) (refused_list 2) a).number ≡ suc n → cond (not formed) (refused_list 2) a ≡ refused_list (suc n)
list_refused true a z n e = absurd (omega arith)
list_refused false a z n e = ap refused_list e

pub list_owes : (k : ℕ) → Owes (kind_of (list k))
unfolding list_answer
list_owes k =
    record {
      names = λ n. refl;
      empty = λ n. refl;
      numbered = λ p. list_number (well_formed k p) _ refl;
      later = λ p few. refl;
      refuses = λ p n e. (ap to_list (list_refused (well_formed k p) _ refl n e), refl);
      sized = λ p h. h;
      formed = λ p fits w. w;
      waits = λ p quiet some. refl;
      versioned = λ p h. refl;
      numbers = λ p some. absurd (some refl);
    }

-- the settings stand before what waits and before the versions
module _ (n : ℕ) (p : List ℕ) where
  settings_later : (at : ℕ) → parameter_bytes ≤ at → drop at (with_settings n p) ≡ drop at p
  settings_later at h = drop_later parameter_bytes at p (with_settings n p) h (settings_beyond n p)

  settings_waiting : waiting (with_settings n p) ≡ waiting p
  unfolding number_at
  settings_waiting = rw (settings_later length_at (omega arith), settings_later response_at (omega arith))

  pub settings_versions : versions (with_settings n p) ≡ versions p
  settings_versions = settings_later versions_at (omega arith)

module _ (k n : ℕ) where
  -- a going back that is done, and one that is refused
  pub returned :
      (p : List ℕ) → return_refusal k n p ≡ 0
      → (return_answer k n p ≡ record { stored = 18; version = suc (last_used (versions p)); number = 0 }) × (return_part k n p ≡ with_version (with_settings n p))
  unfolding return_answer return_part
  returned p e = rw (e, eighteen, add-one) (refl, refl)

  unreturned : (p : List ℕ) (r : ℕ) → return_refusal k n p ≡ suc r → (return_answer k n p ≡ refused_return (suc r)) × (return_part k n p ≡ p)
  unfolding return_answer return_part
  unreturned p r e = rw (e, eqb-suc-zero r) (refl, refl)

  -- what holds of both
  either : (p : List ℕ) (P : Returned → List ℕ → Type 0)
      → (return_refusal k n p ≡ 0 → P (record { stored = 18; version = suc (last_used (versions p)); number = 0 }) (with_version (with_settings n p)))
      → ((r : ℕ) → return_refusal k n p ≡ suc r → P (refused_return (suc r)) p)
      → P (return_answer k n p) (return_part k n p)
  either p P done stopped = go (return_refusal k n p) refl
    where
      go : (r : ℕ) → return_refusal k n p ≡ r → P (return_answer k n p) (return_part k n p)
      go zero e = let x = returned p e in rw (x.0, x.1) (done e)
      go (suc r) e = let x = unreturned p r e in rw (x.0, x.1) (stopped r e)

  pub return_number : (p : List ℕ) → (return_answer k n p).number ≡ return_refusal k n p
  return_number p = either p (λ a l. a.number ≡ return_refusal k n p) sym (λ r e. sym e)

  later : (p : List ℕ) → return_tests n p ≤ 2 → return_tests n p ≡ 0
  later p = one_of Later (not (is_kept n (versions p))) 14 _ (λ few. absurd (omega arith)) (one_of Later (used_up p) 15 0 (λ few. absurd (omega arith)) (λ few. refl))
    where
      Later : ℕ → Type 0
      Later r = r ≤ 2 → r ≡ 0

  -- a number is left where it is done
  left : (formed kept up : Bool) → ◌≡◌ {A = ℕ} (cond (not formed) 2 (cond (not kept) 14 (cond up 15 0))) 0 → up ≡ false
  left formed kept false e = refl
  left false kept true e = absurd (omega arith)
  left true false true e = absurd (omega arith)
  left true true true e = absurd (omega arith)

  done_left : (p : List ℕ) → return_refusal k n p ≡ 0 → used_up p ≡ false
  unfolding return_refusal
  done_left p e = left (well_formed k p) (is_kept n (versions p)) (used_up p) e

  done_versioned : (p : List ℕ) → length p ≡ part_size → versions (with_version (with_settings n p)) ≡ taken (with_version (with_settings n p)) (versions p)
  done_versioned p size =
      let q : List ℕ = with_settings n p in
      version_taken q (settings_length n p ∙ size)
      ∙ (ap (taken q) (settings_versions n p) ∙ sym (front_taken q (with_version q) (version_front q) (versions p)))

  pub return_owes : Owes (kind_of (go_back k n))
  unfolding return_refusal
  return_owes =
      record {
        names = λ r. refl;
        empty = λ r. refl;
        numbered = return_number;
        later = later;
        refuses = λ p r e. let x = unreturned p r (sym (return_number p) ∙ e) in (ap to_return x.0, x.1);
        sized = λ p h. either p (λ a l. length l ≡ part_size) (λ e. version_length (with_settings n p) ∙ (settings_length n p ∙ h)) (λ r e. h);
        formed = λ p fits w. either p (λ a l. well_formed k l ≡ true) (λ e. version_well_formed (with_settings n p) k (settings_well_formed n p k w)) (λ r e. w);
        waits = λ p quiet some.
            either p (λ a l. waiting l ≡ waiting p)
            (λ e. front_waiting (with_settings n p) (with_version (with_settings n p)) (version_front (with_settings n p)) ∙ settings_waiting n p) (λ r e. refl);
        versioned = λ p h. either p (λ a l. Versioned p a.stored l) (λ e. done_versioned p h) (λ r e. refl);
        numbers = λ p. either p (λ a l. (a.stored ≡ 0 → ⊥) → used_up p ≡ false) (λ e some. done_left p e) (λ r e some. absurd (some refl));
      }
