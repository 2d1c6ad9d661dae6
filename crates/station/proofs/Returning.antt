-- What a list and a going back answer and leave, by the way they take.
use mathlib.Core.Path.{◌≡◌, sym, ap, ◌∙◌}
use mathlib.Core.Bool.{true, and-eq-true_iff}
use mathlib.Core.List.{List}
use Prim.Native.Nat.{ℕ, suc, ◌+◌, ◌-◌, ◌≤◌}
use native.Mathlib.Numerals.{add-one}
use native.Mathlib.Omega.{arith}
use lib.Dec.{leb}
use lib.ListN.{length, take, drop, length-drop}
use lib.Seq.{take_all}
use borrow.Author.Tests.{ne_eqb, leb-true}
use Rattle.versions.specs.Layout.{last_used, oldest}
use Rattle.versions.specs.Version.{is_kept}
use Rattle.part.specs.Layout.{versions_at, versions, with_version, with_settings}
use Rattle.part.specs.WellFormed.{well_formed}
use Rattle.part.proofs.Rule.{form_of}
use Rattle.station.specs.Versions.{return_refusal, return_answer, return_part}
use Rattle.station.proofs.VersionsOwes.{returned}

-- the versions, as the code lends them
pub versions_lent : (p : List ℕ) → take (length p - versions_at) (drop versions_at p) ≡ versions p
versions_lent p = take_all (length p - versions_at) (drop versions_at p) (omega (arith, length-drop versions_at p))

pub has_versions : (k : ℕ) (p : List ℕ) → well_formed k p ≡ true → versions_at ≤ length p
has_versions k p w = omega (arith, (form_of k p w).size)

-- a number that is kept is no more than the last
pub kept_small : (n : ℕ) (v : List ℕ) → is_kept n v ≡ true → n ≤ last_used v
kept_small n v kept = leb-true n (last_used v) ((and-eq-true_iff (leb (oldest v) n) (leb n (last_used v))).0 kept).1

module _ (k n : ℕ) (p : List ℕ) where
  module _ (w : well_formed k p ≡ true) where
    module _ (kept : is_kept n (versions p) ≡ true) (last : ℕ) (is : last ≡ last_used (versions p)) where
      passes : (last ≡ 65535 → ⊥) → return_refusal k n p ≡ 0
      unfolding return_refusal
      passes some = rw (w, kept, ne_eqb (last_used (versions p)) 65535 (λ e. some (is ∙ e)))

      pub went_back :
          (last ≡ 65535 → ⊥)
          → (record { stored = 18; version = last + 1; number = 0 } ≡ return_answer k n p) × (with_version (with_settings n p) ≡ return_part k n p)
      went_back some =
          let x = returned k n p (passes some) in
          let one : last + 1 ≡ suc (last_used (versions p)) = add-one last ∙ ap suc is in
          (ap (λ (v : ℕ). record { stored = 18; version = v; number = 0 }) one ∙ sym x.0, sym x.1)
