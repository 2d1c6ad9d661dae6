-- Checks 3 to 7 in a row, and on the first bytes of the two blocks, as the code makes them.
use mathlib.Core.Path.{◌≡◌, refl, sym, ◌∙◌, ap}
use mathlib.Core.Bool.{Bool, true, ◌||◌}
use mathlib.Core.List.{List, [], ◌∷◌, ◌++◌}
use Prim.Native.Nat.{ℕ, ◌+◌, ◌%◌, ◌≤◌, ◌<◌}
use native.Mathlib.Omega.{arith}
use lib.Dec.{eqb}
use lib.ListN.{length, get_or}
use borrow.Author.Tests.{eq-eqb, ne_eqb, eqb-true, eqb-false}
use borrow.Table.Steps.{cases}
use Rattle.codes.specs.Code.{got}
use Rattle.codes.proofs.Fixed.{Bytes}
use Rattle.codes.proofs.Number.{byte_number}
use Rattle.blocks.specs.declared.Header.{Header}
use Rattle.blocks.specs.Request.{Request, request}
use Rattle.blocks.specs.Response.{Response, response}
use Rattle.blocks.specs.Place.{header_of}
use Rattle.blocks.proofs.Sound.{request_sound, response_sound}
use Rattle.blocks.proofs.Page.{request_valid, request_bytes_lem, response_bytes_lem}
use Rattle.blocks.proofs.Request.{request_header, response_header}
use Rattle.checker.specs.Check.{matching, counts_fit, compared}
use Rattle.checker.specs.Inner.{BothRead, BothCount}
use Rattle.checker.proofs.Counting.{unanswered}
use Rattle.checker.proofs.Judging.{once}
use Rattle.checker.proofs.Tested.{first_of}

-- bit 7 of an identifier aside, a response has the one of its request
pub matching_low : (asked id : ℕ) → 1 ≤ asked → asked ≤ 2 → id < 256 → eqb (id % 128) asked ≡ matching asked id
matching_low asked id some few h =
    cases (eqb asked 1)
    (λ e. rw (eqb-true asked 1 e) (low 1 (omega arith)))
    (λ n. let e : asked ≡ 2 = omega (arith, eqb-false asked 1 n) in rw e (low 2 (omega arith)))
  where
    low : (k : ℕ) → k < 128 → eqb (id % 128) k ≡ (eqb id k || eqb id (k + 128))
    low k small =
        cases (eqb id k) (λ e. rw (e, eq-eqb (id % 128) k (omega (arith, eqb-true id k e))))
        (λ n.
        cases (eqb id (k + 128)) (λ e. rw (n, e, eq-eqb (id % 128) k (omega (arith, eqb-true id (k + 128) e))))
        (λ m. rw (n, m, ne_eqb (id % 128) k (λ e. omega (arith, eqb-false id k n, eqb-false id (k + 128) m)))))

-- the tests in a row, by the two headers and the test of the counts
abbrev pub row : Header → Header → Bool → List Bool
row q r counts =
    eqb r.reference q.reference
    ∷ eqb r.axis q.axis
    ∷ eqb r.count q.count
    ∷ matching q.identifier r.identifier
    ∷ counts
    ∷ []

-- of a request and a response
abbrev pub row_of : Request → Response → List Bool
row_of q r =
    row (record { reference = q.reference; identifier = q.identifier; axis = q.axis; count = length q.addresses })
    (record { reference = r.reference; identifier = r.identifier; axis = r.axis; count = r.count })
    (counts_fit q.addresses r.blocks)

pub in_row : (q : Request) (r : Response) → compared q r ≡ first_of 3 (row_of q r)
unfolding compared
in_row q r = refl

by_headers : (s t : List ℕ) (h k : Header) → h ≡ header_of s → k ≡ header_of t → (q : Request) (r : Response) → request.read s ≡ got q [] → response.read t ≡ got r [] → first_of 3 (row h k (counts_fit q.addresses r.blocks)) ≡ compared q r
by_headers s t h k eh ek q r es et = rw (eh ∙ request_header s q [] es, ek ∙ response_header t r [] et) (sym (in_row q r))

-- the first four bytes of a block
abbrev head : List ℕ → Header
head s = record { reference = get_or s 0 0; identifier = get_or s 1 0; axis = get_or s 2 0; count = get_or s 3 0 }

header_is : (s : List ℕ) → Bytes s → 4 ≤ length s → header_of s ≡ head s
header_is s b h = rw (byte_number s b 0 (omega arith), byte_number s b 1 (omega arith), byte_number s b 2 (omega arith), byte_number s b 3 (omega arith))

-- a request and a response begin with a header
module _ (s t : List ℕ) (q : Request) (r : Response) (es : request.read s ≡ got q []) (et : response.read t ≡ got r []) where
  long : (4 ≤ length s) × (4 ≤ length t)
  long = (
    omega (arith, ap length ((request_sound.only s q [] es).1 ∙ ap (λ (l : List ℕ). l ++ []) (request_bytes_lem q))),
    omega (arith, ap length ((response_sound.only t r [] et).1 ∙ ap (λ (l : List ℕ). l ++ []) (response_bytes_lem r))),
  )

  pub by_bytes : Bytes s → Bytes t → first_of 3 (row (head s) (head t) (counts_fit q.addresses r.blocks)) ≡ compared q r
  by_bytes bs bt = by_headers s t (head s) (head t) (sym (header_is s bs long.0)) (sym (header_is t bt long.1)) q r es et

  pub ends_there : Bytes t → get_or t 1 0 ≡ 2 → counts_fit q.addresses r.blocks ≡ true
  ends_there bt two = unanswered s t q r es et (ap (λ (h : Header). h.identifier) (header_is t bt long.1) ∙ two)

  one_or_two : Bytes s → (1 ≤ get_or s 1 0) × (get_or s 1 0 ≤ 2)
  one_or_two bs =
      let e : get_or s 1 0 ≡ q.identifier = ap (λ (h : Header). h.identifier) (sym (header_is s bs long.0) ∙ request_header s q [] es) in
      rw e ((request_valid q).0 (request_sound.only s q [] es).0).identifier

-- and so do two readable blocks
module _ (s t : List ℕ) (read : BothRead s t) where
  pub both_long : (4 ≤ length s) × (4 ≤ length t)
  both_long = once s t read ((4 ≤ length s) × (4 ≤ length t)) (long s t)

  pub asked_range : Bytes s → (1 ≤ get_or s 1 0) × (get_or s 1 0 ≤ 2)
  asked_range bs = once s t read ((1 ≤ get_or s 1 0) × (get_or s 1 0 ≤ 2)) (λ q r es et. one_or_two s t q r es et bs)

  pub both_count : Bytes s → Bytes t → get_or t 3 0 ≡ get_or s 3 0 → (get_or t 1 0 ≡ 2 → ⊥) → BothCount s t (get_or s 3 0)
  both_count bs bt e other =
      let header = header_is t bt both_long.1 in (
        ap (λ (h : Header). h.count) (header_is s bs both_long.0),
        ap (λ (h : Header). h.count) header ∙ e,
        λ two. other (ap (λ (h : Header). h.identifier) (sym header) ∙ two),
      )
