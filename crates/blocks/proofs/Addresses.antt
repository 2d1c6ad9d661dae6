-- The addresses of a request: what a step of the walk finds, and that a walk from the first address finds them all.
use Rattle.std.specs.Prelude.{Option, Some, None}
use mathlib.Core.Path.{◌≡◌, refl, sym, ◌∙◌, ap}
use mathlib.Core.List.{List, [], ◌∷◌}
use mathlib.Core.Bool.{Bool, true, false, cond}
use Prim.Native.Nat.{ℕ, zero, suc, ◌+◌, ◌*◌, ◌≤◌, ◌<◌}
use native.Mathlib.Omega.{arith}
use native.Mathlib.Decide.{dec_le}
use native.Mathlib.Nat.{suc-mul}
use lib.ListN.{length, get_or, drop, drop_of_length-le}
use lib.Seq.{drop-drop, drop_at}
use lib.Dec.{leb}
use borrow.Author.Tests.{le-leb, lt-leb}
use Rattle.codes.specs.Code.{Got, got, bad, read_times, byte, word}
use Rattle.codes.specs.Number.{number_at}
use Rattle.codes.proofs.Items.{first_read}
use Rattle.codes.proofs.Fixed.{Bytes, byte_at, Fixed, fixed_byte, fixed_give, fixed_field, fixed_word}
use Rattle.codes.proofs.Number.{number_is, byte_number}
use Rattle.blocks.specs.declared.reader.Address.{Address}
use Rattle.blocks.specs.Request.{Request, address, request}
use Rattle.blocks.specs.Place.{addresses_end, step_of, step_at, onward, walk, addresses_from}
use Rattle.blocks.proofs.Sound.{address_sound}
use Rattle.blocks.proofs.Request.{addresses_read, addresses_end_lem}

-- an address takes six bytes
pub fixed_address : Fixed address 6
unfolding address
fixed_address =
    fixed_field _ _ _ 1 5 fixed_byte (λ at.
    fixed_field (λ (a : Address). a.elements) _ _ 1 4 fixed_byte (λ el.
    fixed_field (λ (a : Address). a.pnu) _ _ 2 2 (fixed_word 2) (λ pn.
    fixed_field (λ (a : Address). a.subindex) _ _ 2 0 (fixed_word 2) (λ su. fixed_give _))))

-- what is read at a place is the number that stands there
module _ (s : List ℕ) (b : Bytes s) (at : ℕ) where
  byte_here : at < length s → byte.read (drop at s) ≡ got (number_at 1 s at) (drop (at + 1) s)
  byte_here h = rw (byte_number s b at h) (byte_at s b at h)

  word_here : at + 2 ≤ length s → (word 2).read (drop at s) ≡ got (number_at 2 s at) (drop (at + 2) s)
  word_here h =
      let p = (fixed_word 2).enough s b at h in
      rw (number_is 2 s at p.0 _ (omega arith) p.1) p.1

-- an address is the numbers at its four places
pub address_here : (s : List ℕ) → Bytes s → (at : ℕ) → at + 6 ≤ length s → (a : Address) → a.attribute ≡ number_at 1 s at → a.elements ≡ number_at 1 s (at + 1) → a.pnu ≡ number_at 2 s (at + 2) → a.subindex ≡ number_at 2 s (at + 4) → address.read (drop at s) ≡ got a (drop (at + 6) s)
unfolding address
address_here s b at h a ea ee ep es =
    let e2 : at + 1 + 1 ≡ at + 2 = omega arith in
    let e4 : at + 2 + 2 ≡ at + 4 = omega arith in
    let e6 : at + 4 + 2 ≡ at + 6 = omega arith in
    rw (byte_here s b at (omega arith), byte_here s b (at + 1) (omega arith), e2, word_here s b (at + 2) (omega arith), e4, word_here s b (at + 4) (omega arith), e6, ← ea, ← ee, ← ep, ← es)

-- past the end of the addresses there is none
pub address_end : (s : List ℕ) (at : ℕ) → addresses_end s < at + 6 → step_at s at ≡ None
unfolding step_at
address_end s at h = rw (lt-leb _ _ h)

-- where fewer than six bytes are left, none is read
pub address_unread : (s : List ℕ) → Bytes s → (at : ℕ) → length s < at + 6 → address.read (drop at s) ≡ bad
unfolding address
address_unread s b at h = go (dec_le at (length s))
  where
    go : Dec (at ≤ length s) → address.read (drop at s) ≡ bad
    go (yes y) = fixed_address.short s b at y h
    go (no n) = rw (drop_of_length-le s {i = at} (omega arith))

-- where fewer than six bytes are left, no address stands
pub address_short : (s : List ℕ) → Bytes s → (at : ℕ) → length s < at + 6 → step_at s at ≡ None
unfolding step_at
address_short s b at h = rw (address_unread s b at h) (either (leb (at + 6) (addresses_end s)))
  where
    either : (t : Bool) → let none : Option (Address × ℕ) = None in cond t none none ≡ none
    either true = refl
    either false = refl

-- the address that is read at a place is what a step there finds
pub address_next : (s : List ℕ) (at : ℕ) (a : Address) (t : List ℕ) → address.read (drop at s) ≡ got a t → at + 6 ≤ addresses_end s → step_at s at ≡ Some (a, (at + 6))
unfolding step_at
address_next s at a t e h = rw (le-leb _ _ h, e)

abbrev place_of : Option (Address × ℕ) → ℕ
place_of (Some (a, k)) = k
place_of None = 0

-- a step goes six bytes on
step_next : (s : List ℕ) (at : ℕ) (a : Address) (k : ℕ) → step_at s at ≡ Some (a, k) → k ≡ at + 6
unfolding step_at
step_next s at a k = go (leb (at + 6) (addresses_end s)) (address.read (drop at s))
  where
    go : (t : Bool) (g : Got Address) → cond t (step_of (at + 6) g) None ≡ Some (a, k) → k ≡ at + 6
    go true (got x u) e = sym (ap place_of e)
    go true bad e = absurd (let z : ◌≡◌ {A = ℕ} 0 1 = cc in omega arith)
    go false g e = absurd (let z : ◌≡◌ {A = ℕ} 0 1 = cc in omega arith)

-- a walk that may take enough steps to come to the end takes no more where it may
walk_enough : (n : ℕ) (s : List ℕ) (at : ℕ) → addresses_end s < at + suc n * 6 → walk n s at ≡ walk (suc n) s at
walk_enough zero s at h = rw (address_end s at (omega arith))
walk_enough (suc n) s at h = go (λ k z. walk_enough n s k (omega (arith, suc-mul (suc n) 6))) (step_at s at) refl
  where
    go : ((k : ℕ) → k ≡ at + 6 → walk n s k ≡ walk (suc n) s k) → (r : Option (Address × ℕ)) → step_at s at ≡ r → onward (walk n s) r ≡ onward (walk (suc n) s) r
    go ih (Some (a, k)) e = ap (λ (l : List Address). a ∷ l) (ih k (step_next s at a k e))
    go ih None e = refl

-- where a step finds an address, it is the first of those from there on, and the others are those from the place after it
pub addresses_step : (s : List ℕ) (at : ℕ) (a : Address) (k : ℕ) → step_at s at ≡ Some (a, k) → addresses_from s at ≡ a ∷ addresses_from s k
addresses_step s at a k e = go (addresses_end s) refl
  where
    go : (n : ℕ) → addresses_end s ≡ n → walk n s at ≡ a ∷ walk n s k
    go zero z = absurd (omega arith)
    go (suc n) z =
        let six = step_next s at a k e in
        rw e (ap (λ (l : List Address). a ∷ l) (walk_enough n s k (omega (arith, suc-mul n 6))))

-- where it finds none, there are none
pub addresses_none : (s : List ℕ) (at : ℕ) → step_at s at ≡ None → addresses_from s at ≡ []
addresses_none s at e = go (addresses_end s)
  where
    go : (n : ℕ) → walk n s at ≡ []
    go zero = refl
    go (suc n) = rw e

-- what follows an address stands six bytes further
address_after : (s : List ℕ) (at : ℕ) (a : Address) (t : List ℕ) → address.read (drop at s) ≡ got a t → t ≡ drop (at + 6) s
unfolding address
address_after s at a t e =
    let k = (address_sound.only (drop at s) a t e).1 in
    sym (drop_at (address.write a) t 6 refl) ∙ (ap (λ (l : List ℕ). drop 6 l) (sym k) ∙ drop-drop 6 at s)

-- one step over addresses that are read in a row: it finds the first of them, and the others are read from there on
pub address_step : (s : List ℕ) (at n : ℕ) (a : Address) (more : List Address) (u : List ℕ) → read_times address.read (suc n) (drop at s) ≡ got (a ∷ more) u → at + 6 ≤ addresses_end s → (step_at s at ≡ Some (a, (at + 6))) × (read_times address.read n (drop (at + 6) s) ≡ got more u)
address_step s at n a more u e h =
    let p = first_read address.read n (drop at s) a more u e in
    (address_next s at a p.0 p.1 h, rw (← address_after s at a p.0 p.1) p.2)

-- a walk of enough steps finds all the addresses that are read in a row up to their end
walk_all : (s : List ℕ) (n : ℕ) (them : List Address) (at : ℕ) (u : List ℕ) → read_times address.read (length them) (drop at s) ≡ got them u → addresses_end s ≡ at + length them * 6 → length them ≤ n → walk n s at ≡ them
walk_all s zero [] at u e f h = refl
walk_all s (suc n) [] at u e f h = rw (address_end s at (omega arith))
walk_all s zero (a ∷ more) at u e f h = absurd (omega arith)
walk_all s (suc n) (a ∷ more) at u e f h =
    let m = suc-mul (length more) 6 in
    let p = address_step s at (length more) a more u e (omega arith) in
    rw p.0 (ap (λ (l : List Address). a ∷ l) (walk_all s n more (at + 6) u p.1 (omega arith) (omega arith)))

-- and step number i finds the i-th of them
nth_all : (s : List ℕ) (them : List Address) (at i : ℕ) (d : Address) (u : List ℕ) → read_times address.read (length them) (drop at s) ≡ got them u → addresses_end s ≡ at + length them * 6 → i < length them → step_at s (at + i * 6) ≡ Some ((get_or them i d), (at + i * 6 + 6))
nth_all s [] at i d u e f h = absurd (omega arith)
nth_all s (a ∷ more) at zero d u e f h =
    let z : at + 0 * 6 ≡ at = omega arith in
    rw z (address_step s at (length more) a more u e (omega (arith, suc-mul (length more) 6))).0
nth_all s (a ∷ more) at (suc i) d u e f h =
    let m = suc-mul (length more) 6 in
    let p = address_step s at (length more) a more u e (omega arith) in
    let z : at + suc i * 6 ≡ at + 6 + i * 6 = omega (arith, suc-mul i 6) in
    rw z (nth_all s more (at + 6) i d u p.1 (omega arith) (omega arith))

-- a walk from the first address finds exactly the addresses of the request
pub address_steps : (s : List ℕ) (r : Request) (t : List ℕ) → request.read s ≡ got r t → (n : ℕ) → length r.addresses ≤ n → walk n s 4 ≡ r.addresses
address_steps s r t e n h = walk_all s n r.addresses 4 (drop (addresses_end s) s) (addresses_read s r t e) (addresses_end_lem s r t e) h

-- the address number i of a request stands at 4 and i times 6
pub address_nth : (s : List ℕ) (r : Request) (t : List ℕ) → request.read s ≡ got r t → (i : ℕ) (d : Address) → i < length r.addresses → step_at s (4 + i * 6) ≡ Some ((get_or r.addresses i d), (4 + i * 6 + 6))
address_nth s r t e i d h = nth_all s r.addresses 4 i d (drop (addresses_end s) s) (addresses_read s r t e) (addresses_end_lem s r t e) h
