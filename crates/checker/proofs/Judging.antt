-- What two blocks come to: nothing is compared that is not readable.
use mathlib.Core.Path.{◌≡◌, ◌∙◌}
use mathlib.Core.Bool.{true, false}
use mathlib.Core.List.{List, []}
use Prim.Native.Nat.{ℕ}
use Rattle.codes.specs.Code.{got, readable}
use Rattle.codes.proofs.Demand.{readable_read}
use Rattle.blocks.specs.Block.{block_limit}
use Rattle.blocks.specs.Request.{Request, request}
use Rattle.blocks.specs.Response.{Response, response}
use Rattle.blocks.proofs.Sound.{request_sound, response_sound}
use Rattle.checker.specs.Check.{compared, check_of}
use Rattle.checker.specs.Inner.{BothRead, AsRead}

-- what follows from the request and the response that two readable blocks are read as
pub once : (s t : List ℕ) → BothRead s t → (P : Type 0) → AsRead s t (λ q r. P) → P
once s t read P f =
    let a = readable_read block_limit request request_sound s read.0 in
    let b = readable_read block_limit response response_sound t read.1 in
    f a.0 b.0 a.1 b.1

module _ (s t : List ℕ) where
  pub no_request : readable block_limit request s ≡ false → 1 ≡ check_of s t
  unfolding check_of
  no_request e = rw e

  module _ (es : readable block_limit request s ≡ true) where
    pub no_response : readable block_limit response t ≡ false → 2 ≡ check_of s t
    unfolding check_of
    no_response e = rw (es, e, (readable_read block_limit request request_sound s es).1)

    module _ (et : readable block_limit response t ≡ true) where
      pub both_read : (q : Request) (r : Response) → request.read s ≡ got q [] → response.read t ≡ got r [] → compared q r ≡ check_of s t
      unfolding check_of
      both_read q r a b = rw (es, et, a, b)

      pub as_read : (n : ℕ) → AsRead s t (λ q r. n ≡ compared q r) → n ≡ check_of s t
      as_read n f = once s t (es, et) (n ≡ check_of s t) (λ q r a b. f q r a b ∙ both_read q r a b)
