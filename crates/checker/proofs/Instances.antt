-- Each law of specs/Laws.antt that no other proof uses in its whole strength, at work: what it concludes is written out, for each number. A law
-- that is made weaker fails here.
use mathlib.Core.Path.{◌≡◌}
use mathlib.Core.List.{List}
use mathlib.Core.Logic.{◌⊎◌, inl, inr}
use Prim.Native.Nat.{ℕ, ◌≤◌, ◌<◌}
use native.Mathlib.Omega.{arith}
use lib.ListN.{length, get_or}
use Rattle.blocks.specs.Block.{Block}
use Rattle.blocks.specs.Request.{Request}
use Rattle.blocks.specs.Response.{Response}
use Rattle.blocks.specs.Page.{RequestFits, request_bytes, ResponseFits, response_bytes, IsRequest, IsResponse}
use Rattle.blocks.specs.declared.reader.Address.{Address}
use Rattle.checker.specs.Check.{check_of}
use Rattle.checker.proofs.Laws.{first_failed, yes_exactly}

module _ (s t : List ℕ) where
  -- FirstFailed: 1 and 2 are of blocks that the page does not write in 240 bytes, and no number is above 7
  unwritten_request : check_of s t ≡ 1 → (q : Request) → RequestFits q → request_bytes q ≡ s → length s ≤ 240 → ⊥
  unwritten_request e q fits bytes short = (first_failed s t).request.failed e (q, record { fits = fits; bytes = bytes; short = short })

  unwritten_response : check_of s t ≡ 2 → (r : Response) → ResponseFits r → response_bytes r ≡ t → length t ≤ 240 → ⊥
  unwritten_response e r fits bytes short = (first_failed s t).response.failed e (r, record { fits = fits; bytes = bytes; short = short })

  seven_at_most : check_of s t ≡ 8 → ⊥
  seven_at_most e = let most = (first_failed s t).most in omega arith

  -- where it is 2 a request is there, and where it is 7 both are
  request_there : check_of s t ≡ 2 → (q : Request) × RequestFits q × (request_bytes q ≡ s) × (length s ≤ 240)
  request_there e = let q = (first_failed s t).request.held (inr (omega arith)) in (q.0, q.1.fits, q.1.bytes, q.1.short)

  both_there : check_of s t ≡ 7 → (q : Request) × (r : Response) × RequestFits q × (request_bytes q ≡ s) × ResponseFits r × (response_bytes r ≡ t) × (length t ≤ 240)
  both_there e =
      let q = (first_failed s t).request.held (inr (omega arith)) in
      let r = (first_failed s t).response.held (inr (omega arith)) in
      (q.0, r.0, q.1.fits, q.1.bytes, r.1.fits, r.1.bytes, r.1.short)

  module _ (q : Request) (r : Response) (is : IsRequest s q) (it : IsResponse t r) where
    -- 3 to 7: the check itself, and those before it
    three : check_of s t ≡ 3 → r.reference ≡ q.reference → ⊥
    three = ((first_failed s t).rest q r is it).reference.failed

    four : check_of s t ≡ 4 → (r.reference ≡ q.reference) × (r.axis ≡ q.axis → ⊥)
    four e = let c = (first_failed s t).rest q r is it in (c.reference.held (inr (omega arith)), c.axis.failed e)

    five : check_of s t ≡ 5 → (r.reference ≡ q.reference) × (r.axis ≡ q.axis) × (r.count ≡ length q.addresses → ⊥)
    five e = let c = (first_failed s t).rest q r is it in (c.reference.held (inr (omega arith)), c.axis.held (inr (omega arith)), c.number.failed e)

    six :
        check_of s t ≡ 6
        → (r.axis ≡ q.axis) × (r.count ≡ length q.addresses) × (q.identifier ≡ 1 → r.identifier ≡ 0x81 → ⊥) × (q.identifier ≡ 2 → r.identifier ≡ 2 → ⊥)
    six e =
        let c = (first_failed s t).rest q r is it in (
          c.axis.held (inr (omega arith)),
          c.number.held (inr (omega arith)),
          λ one failed. c.identifier.failed e (inl (one, inr failed)),
          λ two done. c.identifier.failed e (inr (two, inl done)),
        )

    seven :
        check_of s t ≡ 7
        → (r.reference ≡ q.reference) × (r.axis ≡ q.axis) × (r.count ≡ length q.addresses)
        × (((q.identifier ≡ 1) × ((r.identifier ≡ 1) ⊎ (r.identifier ≡ 0x81))) ⊎ ((q.identifier ≡ 2) × ((r.identifier ≡ 2) ⊎ (r.identifier ≡ 0x82))))
        × (((x : Address) (y : Block) (k : ℕ) → k < length q.addresses → k < length r.blocks → length (get_or r.blocks k y).values ≡ (get_or q.addresses k x).elements)
        → ((x : Address) (k : ℕ) → k < length q.addresses → (get_or q.addresses k x).elements ≡ 0 → ⊥) → ⊥)
    seven e =
        let c = (first_failed s t).rest q r is it in (
          c.reference.held (inr (omega arith)),
          c.axis.held (inr (omega arith)),
          c.number.held (inr (omega arith)),
          c.identifier.held (inr (omega arith)),
          λ same some. c.counts.failed e (λ x y k h l. record { asked = λ v z. same x y k h l; one = λ v z. absurd (some x k h z) }),
        )

  -- YesExactly: what a yes says of the last of 39 addresses and its block, and of one that asked for 0 elements
  last_counted :
      check_of s t ≡ 0
      → (q : Request) × (r : Response) × (request_bytes q ≡ s) × (response_bytes r ≡ t)
      × ((x : Address) (y : Block) → length q.addresses ≡ 39 → length r.blocks ≡ 39 → (get_or r.blocks 38 y).format ≡ 0x43 → ((get_or q.addresses 38 x).elements ≡ 0 → ⊥)
      → length (get_or r.blocks 38 y).values ≡ (get_or q.addresses 38 x).elements)
  last_counted e =
      let p = (yes_exactly s t).0 e in
      (p.request, p.response, p.is_request.bytes, p.is_response.bytes, λ x y a b f some. (p.answers.counts x y 38 (omega arith) (omega arith)).asked (omega arith, omega arith) some)

  none_counted :
      check_of s t ≡ 0
      → (q : Request) × (r : Response) × (request_bytes q ≡ s) × (response_bytes r ≡ t)
      × ((x : Address) (y : Block) → 0 < length r.blocks → 0 < length q.addresses → (get_or r.blocks 0 y).format ≡ 0x41 → (get_or q.addresses 0 x).elements ≡ 0
      → length (get_or r.blocks 0 y).values ≡ 1)
  none_counted e =
      let p = (yes_exactly s t).0 e in
      (p.request, p.response, p.is_request.bytes, p.is_response.bytes, λ x y a b f none. (p.answers.counts x y 0 b a).one (omega arith, omega arith) none)
