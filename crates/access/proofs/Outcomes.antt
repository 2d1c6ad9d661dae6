-- What a block comes to, by the refusals in their order and then by the identifier.
use mathlib.Core.Path.{◌≡◌, refl, sym, ◌∙◌, ap}
use mathlib.Core.Bool.{Bool, true, false, cond, not, ◌&&◌, and-false}
use mathlib.Core.List.{List}
use Prim.Native.Nat.{ℕ}
use lib.Dec.{eqb}
use borrow.Author.Tests.{eq-eqb, ne_eqb}
use Rattle.codes.specs.Code.{Got, got, bad, readable}
use Rattle.blocks.specs.Block.{block_limit}
use Rattle.blocks.specs.Place.{header_of}
use Rattle.blocks.specs.Request.{Request, request}
use Rattle.blocks.specs.declared.Header.{Header}
use Rattle.part.specs.Layout.{used_up}
use Rattle.access.specs.Work.{Worked, worked_read, worked_change, worked, Outcome, refused, admitted_if, outcome_of}
use Rattle.access.specs.Walk.{request_in, responded_part, change_outcome}
use Rattle.access.proofs.Requested.{request_read, header_is}

pub unreadable : (axis : ℕ) (s p : List ℕ) → readable block_limit request s ≡ false → outcome_of axis s p ≡ refused 10 p
unfolding outcome_of
unreadable axis s p e = ap (λ (t : Bool). admitted_if axis p t (request.read s)) e ∙ go (request.read s)
  where
    go : (g : Got Request) → admitted_if axis p false g ≡ refused 10 p
    go (got r t) = refl
    go bad = refl

module _ (axis : ℕ) (s p : List ℕ) (e : readable block_limit request s ≡ true) (h : Header) (eh : h ≡ header_of s) where
  abbrev r : Request
  r = request_in s

  -- by 15, or not
  abbrev goes : Worked → Outcome
  goes w = cond (used_up p && not (eqb w.stored 0)) (refused 15 p) (record { number = 0; stored = w.stored; part = responded_part w })

  by_axis : (t : Bool) → eqb h.axis axis ≡ t → outcome_of axis s p ≡ cond (not t) (refused 11 p) (goes (worked r p))
  unfolding outcome_of
  by_axis t k =
      ap (λ (x : Bool). admitted_if axis p x (request.read s)) e
      ∙ (ap (admitted_if axis p true) (request_read s e)
      ∙ ap (λ (x : Bool). cond (not x) (refused 11 p) (goes (worked r p))) (ap (λ (x : Header). eqb x.axis axis) (sym (header_is s e h eh)) ∙ k))

  pub foreign : (h.axis ≡ axis → ⊥) → outcome_of axis s p ≡ refused 11 p
  foreign n = by_axis false (ne_eqb h.axis axis n)

  own : (w : Worked) → worked r p ≡ w → h.axis ≡ axis → outcome_of axis s p ≡ goes w
  own w k m = by_axis true (eq-eqb h.axis axis m) ∙ ap goes k

  by_identifier : (t : Bool) → eqb h.identifier 1 ≡ t → worked r p ≡ cond t (worked_read r p) (worked_change r p)
  unfolding worked
  by_identifier t k = ap (λ (x : Bool). cond x (worked_read r p) (worked_change r p)) (ap (λ (x : Header). eqb x.identifier 1) (sym (header_is s e h eh)) ∙ k)

  pub is_read : h.axis ≡ axis → h.identifier ≡ 1 → outcome_of axis s p ≡ record { number = 0; stored = 0; part = responded_part (worked_read r p) }
  is_read m k = own (worked_read r p) (by_identifier true (eq-eqb h.identifier 1 k)) m ∙ rw and-false

  pub is_changed : h.axis ≡ axis → (h.identifier ≡ 1 → ⊥) → outcome_of axis s p ≡ change_outcome r p
  is_changed m n = own (worked_change r p) (by_identifier false (ne_eqb h.identifier 1 n)) m
