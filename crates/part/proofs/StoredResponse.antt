-- The response that waits, as it is stored: its length, its bytes, and zeros after them.
use mathlib.Core.Path.{◌≡◌, refl, sym, ◌∙◌, ap}
use mathlib.Core.List.{List, [], ◌∷◌, ◌++◌}
use Prim.Native.Nat.{ℕ, ◌+◌, ◌-◌, ◌%◌, ◌≤◌, ◌<◌, min}
use native.Mathlib.Omega.{arith}
use native.Mathlib.Decide.{dec_le}
use lib.ListN.{length, take, drop, replicate, length-append, length-take, length-drop, length-replicate}
use lib.Seq.{take_all, drop-drop}
use borrow.Rule.Slice.PartMut.{put_mid}
use Rattle.codes.specs.Code.{word}
use Rattle.codes.specs.Number.{put}
use Rattle.codes.proofs.Put.{put_fits, put_too_long, put_length, put_append}
use Rattle.blocks.specs.Block.{block_limit}
use Rattle.part.specs.Layout.{length_at, response_at, versions_at, with_response}

-- a byte, written as a number of one byte
pub byte_written : (x : ℕ) → x < 256 → (word 1).write x ≡ x ∷ []
byte_written x h = let e : x % 256 ≡ x = omega arith in rw e

-- the bytes kept for a response, filled up
pub filled_length : (bs : List ℕ) → length bs ≤ block_limit → length (bs ++ replicate (block_limit - length bs) 0) ≡ block_limit
filled_length bs h =
    length-append bs (replicate (block_limit - length bs) 0)
    ∙ omega (arith, length-replicate {A = ℕ} (block_limit - length bs) 0)

-- a run of bytes written over by as many others, which are put
pub part_put : (a k : ℕ) (l bs : List ℕ) → a + k ≤ length l → length bs ≡ k → put_mid a k l bs ≡ put l a bs
part_put a k l bs h e =
    ap (λ (t : List ℕ). take a l ++ (bs ++ t)) (drop-drop k a l ∙ ap (λ (j : ℕ). drop (a + j) l) (sym e))
    ∙ sym (put_fits l a bs (omega arith))

module _ (p bytes : List ℕ) (n : ℕ) (e : n ≡ min (length bytes) block_limit) where
  count : length (take block_limit bytes) ≡ n
  count = length-take block_limit bytes ∙ omega arith

  same : take n bytes ≡ take block_limit bytes
  same = go (dec_le block_limit (length bytes))
    where
      go : Dec (block_limit ≤ length bytes) → take n bytes ≡ take block_limit bytes
      go (yes h) = let f : n ≡ block_limit = omega arith in rw f
      go (no h) = take_all n bytes (omega arith) ∙ sym (take_all block_limit bytes (omega arith))

  abbrev told : List ℕ
  told = put p length_at ((word 1).write n)

  length_told : told ≡ put p length_at (length (take block_limit bytes) ∷ [])
  length_told = rw count (ap (put p length_at) (byte_written n (omega arith)))

  -- in memory that is too short the bytes are not put
  pub response_unput : length told < versions_at → told ≡ with_response (take block_limit bytes) p
  unfolding with_response
  response_unput h =
      let bs = take block_limit bytes in
      length_told
      ∙ sym (put_too_long _ response_at (bs ++ replicate (block_limit - length bs) 0)
      (omega (arith, ap length length_told, filled_length bs (omega (arith, count)))))

  -- the bytes, and what is cleared after them
  pub response_put : versions_at ≤ length told → (q zs : List ℕ) → q ≡ put told response_at (take n bytes)
      → zs ≡ replicate (length (take (versions_at - (response_at + n)) (drop (response_at + n) q))) 0
      → put_mid (response_at + n) (versions_at - (response_at + n)) q zs ≡ with_response (take block_limit bytes) p
  unfolding with_response
  response_put h q zs f z =
      let bs = take block_limit bytes in
      let left : length (take (versions_at - (response_at + n)) (drop (response_at + n) q)) ≡ block_limit - length bs =
      length-take (versions_at - (response_at + n)) (drop (response_at + n) q) ∙ omega (arith, count, ap length f, put_length told response_at (take n bytes), length-drop (response_at + n) q) in
      let clear : zs ≡ replicate (block_limit - length bs) 0 = z ∙ ap (λ (k : ℕ). replicate k 0) left in
      let room : length zs ≡ block_limit - length bs = ap length clear ∙ length-replicate (block_limit - length bs) 0 in
      let whole : length q ≡ length told = ap length f ∙ put_length told response_at (take n bytes) in
      part_put (response_at + n) (versions_at - (response_at + n)) q zs (omega arith) (omega (arith, count))
      ∙ (rw (clear, f, same, ← count) refl
      ∙ (put_append told response_at bs (replicate (block_limit - length bs) 0) (omega (arith, count, length-replicate {A = ℕ} (block_limit - length bs) 0))
      ∙ ap (λ (l : List ℕ). put l response_at (bs ++ replicate (block_limit - length bs) 0)) length_told))
