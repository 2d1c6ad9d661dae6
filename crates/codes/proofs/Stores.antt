-- Bytes stored one after the other are put.
use mathlib.Core.Path.{◌≡◌, ◌∙◌, ap}
use mathlib.Core.List.{List, [], ◌∷◌, ◌++◌}
use Prim.Native.Nat.{ℕ, ◌+◌, ◌≤◌, ◌<◌}
use native.Mathlib.Omega.{arith}
use native.Mathlib.Numerals.{add-one}
use lib.ListN.{length, get_or, take, set, replicate, length-replicate, replicate-append-replicate}
use lib.Seq.{take-suc, length-take-le}
use Rattle.codes.specs.Number.{put}
use Rattle.codes.proofs.Put.{put_length, put_append, sets_put}

module _ (l : List ℕ) (at : ℕ) where
  -- one more byte, after i that are put
  next : (bs : List ℕ) (i b : ℕ) → length bs ≡ i → at + i < length l → set (put l at bs) (at + i) b ≡ put l at (bs ++ (b ∷ []))
  next bs i b e h =
      rw (← e)
      (sets_put (put l at bs) (at + length bs) (b ∷ []) (omega (arith, put_length l at bs))
      ∙ put_append l at bs (b ∷ []) (omega arith))

  pub copied_next : (from : List ℕ) (i : ℕ) → i < length from → at + length from ≤ length l → set (put l at (take i from)) (at + i) (get_or from i 0) ≡ put l at (take (i + 1) from)
  copied_next from i h k =
      next (take i from) i (get_or from i 0) (length-take-le i from (omega arith)) (omega arith)
      ∙ ap (put l at) (rw (add-one i, take-suc from i 0 h))

  pub cleared_next : (i : ℕ) → at + i < length l → set (put l at (replicate i 0)) (at + i) 0 ≡ put l at (replicate (i + 1) 0)
  cleared_next i h =
      next (replicate i 0) i 0 (length-replicate i 0) h
      ∙ ap (put l at) (replicate-append-replicate i 1 0)
