-- What a block comes to: its number by the tests 10, 11 and 15; a refused block stores nothing; and what is stored is taken as a version.
use mathlib.Core.Path.{◌≡◌, refl, sym, ◌∙◌, ap}
use mathlib.Core.Bool.{Bool, true, false, cond, not, ◌&&◌}
use mathlib.Core.List.{List, []}
use Prim.Native.Nat.{ℕ, ◌≤◌}
use native.Mathlib.Omega.{arith}
use lib.Dec.{eqb}
use lib.ListN.{length}
use borrow.Author.Tests.{eq-eqb, ne_eqb, eqb-true, eqb-false}
use Rattle.codes.specs.Code.{Got, got, bad, readable}
use Rattle.codes.proofs.Sound.{not_got}
use Rattle.codes.proofs.Demand.{readable_read}
use Rattle.blocks.specs.declared.Header.{Header}
use Rattle.blocks.specs.Block.{block_limit}
use Rattle.blocks.specs.Request.{Request, request}
use Rattle.blocks.specs.Response.{response}
use Rattle.blocks.specs.Place.{header_of}
use Rattle.blocks.specs.Page.{RequestFits}
use Rattle.blocks.proofs.Sound.{request_sound}
use Rattle.blocks.proofs.Page.{request_valid}
use Rattle.blocks.proofs.Request.{request_header}
use Rattle.versions.specs.Layout.{last_used}
use Rattle.versions.specs.Keep.{taken}
use Rattle.part.specs.Layout.{part_size, with_response, versions, used_up}
use Rattle.part.proofs.Held.{readable_short}
use Rattle.part.proofs.Laws.{response_versions, response_taken}
use Rattle.access.specs.Work.{worked, Outcome, refused, exhausts, exhausts_in, admitted_if, outcome_of}
use Rattle.access.proofs.Answers.{answer_readable}
use Rattle.access.proofs.Keeps.{versions_follow}
use Rattle.station.specs.Laws.{BlockNumbered, FifteenExactly}
use Rattle.station.proofs.Tests.{by_test}

-- what a request comes to that is not refused
abbrev pub done : Request → List ℕ → Outcome
done r p = record { number = 0; stored = (worked r p).stored; part = with_response (response.write (worked r p).response) (worked r p).part }

-- the versions of what is left are as what was stored says
abbrev pub Versioned : List ℕ → ℕ → List ℕ → Type 0
Versioned p stored left = versions left ≡ cond (eqb stored 0) (versions p) (taken left (versions p))

-- and stay so with a response
pub responded_versioned :
    (p q bs : List ℕ) (stored : ℕ) → length bs ≤ block_limit → Versioned p stored q → Versioned p stored (with_response bs q)
responded_versioned p q bs stored short e =
    response_versions bs q short ∙ (e ∙ ap (λ (l : List ℕ). cond (eqb stored 0) (versions p) l) (sym (response_taken bs q (versions p))))

-- a number is left where something is stored and that is not refused
left : (up : Bool) (n : ℕ) → up && not (eqb n 0) ≡ false → (n ≡ 0 → ⊥) → up ≡ false
left false n e some = refl
left true n e some = rw (ne_eqb n 0 some) at e

module _ (k : ℕ) (s p : List ℕ) where
  tested : (a b : Bool) (o : Outcome) → o.number ≡ 0 → (cond (not a) (refused 11 p) (cond b (refused 15 p) o)).number ≡ cond (not a) 11 (cond b 15 0)
  tested false b o e = refl
  tested true true o e = refl
  tested true false o e = e

  pub outcome_number :
      (outcome_of k s p).number
      ≡ cond (not (readable block_limit request s)) 10 (cond (not (eqb (header_of s).axis k)) 11 (cond (exhausts_in p (request.read s)) 15 0))
  unfolding outcome_of
  outcome_number = go (readable block_limit request s) refl (request.read s) refl
    where
      go : (b : Bool) → readable block_limit request s ≡ b → (g : Got Request) → request.read s ≡ g
          → (admitted_if k p b g).number ≡ cond (not b) 10 (cond (not (eqb (header_of s).axis k)) 11 (cond (exhausts_in p g) 15 0))
      go true e (got r t) h =
          let a : (header_of s).axis ≡ r.axis = ap (λ (x : Header). x.axis) (request_header s r t h) in
          rw a (tested (eqb r.axis k) (exhausts r p) (done r p) refl)
      go true e bad h = not_got (sym h ∙ (readable_read block_limit request request_sound s e).1)
      go false e (got r t) h = refl
      go false e bad h = refl

  -- a block is refused, or worked where a number is left
  outcome_cases :
      (P : Outcome → Type 0) → ((n : ℕ) → P (refused n p)) → ((r : Request) → RequestFits r → exhausts r p ≡ false → P (done r p)) → P (outcome_of k s p)
  unfolding outcome_of
  outcome_cases P stops works = go (readable block_limit request s) (request.read s) refl
    where
      go : (b : Bool) (g : Got Request) → request.read s ≡ g → P (admitted_if k p b g)
      go b bad e = stops 10
      go false (got r t) e = stops 10
      go true (got r t) e =
          by_test P (not (eqb r.axis k)) (refused 11 p) _ (λ x. stops 11)
          (λ x. by_test P (exhausts r p) (refused 15 p) (done r p) (λ y. stops 15) (works r ((request_valid r).0 (request_sound.only s r t e).0)))

  pub outcome_refused : ((outcome_of k s p).number ≡ 0 → ⊥) → ((outcome_of k s p).stored ≡ 0) × ((outcome_of k s p).part ≡ p)
  outcome_refused =
      outcome_cases (λ (o : Outcome). (o.number ≡ 0 → ⊥) → (o.stored ≡ 0) × (o.part ≡ p)) (λ n z. (refl, refl)) (λ r fits x z. absurd (z refl))

  pub outcome_numbers : ((outcome_of k s p).stored ≡ 0 → ⊥) → used_up p ≡ false
  outcome_numbers =
      outcome_cases (λ (o : Outcome). (o.stored ≡ 0 → ⊥) → used_up p ≡ false) (λ n z. absurd (z refl)) (λ r fits x. left (used_up p) (worked r p).stored x)

  pub outcome_versioned : length p ≡ part_size → Versioned p (outcome_of k s p).stored (outcome_of k s p).part
  outcome_versioned size =
      outcome_cases (λ (o : Outcome). Versioned p o.stored o.part) (λ n. refl)
      (λ r fits x.
      responded_versioned p (worked r p).part (response.write (worked r p).response) (worked r p).stored
      (readable_short (response.write (worked r p).response) (answer_readable r p fits)) (versions_follow r p size))

pub block_numbered : BlockNumbered
block_numbered = outcome_number

-- both tests hold where they give 15
both_hold : (up none : Bool) → ◌≡◌ {A = ℕ} (cond (up && not none) 15 0) 15 → (up ≡ true) × (none ≡ false)
both_hold true false e = (refl, refl)
both_hold true true e = absurd (omega arith)
both_hold false none e = absurd (omega arith)

pub fifteen_exactly : FifteenExactly
fifteen_exactly k s p r reads is axis =
    let named : (header_of s).axis ≡ k = ap (λ (x : Header). x.axis) (request_header s r [] is) ∙ axis in
    let told : (outcome_of k s p).number ≡ cond (exhausts r p) 15 0 = outcome_number k s p ∙ rw (reads, eq-eqb (header_of s).axis k named, is) in (
      λ e. let two = both_hold (used_up p) (eqb (worked r p).stored 0) (sym told ∙ e) in (eqb-true (last_used (versions p)) 65535 two.0, eqb-false (worked r p).stored 0 two.1),
      λ b. told ∙ rw (eq-eqb (last_used (versions p)) 65535 b.0, ne_eqb (worked r p).stored 0 b.1),
    )
