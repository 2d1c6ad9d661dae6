-- A format, a count and bytes put one after the other are put as a whole.
use lib.Seq.{drop-cons}
use mathlib.Core.Path.{◌≡◌, ◌∙◌}
use mathlib.Core.List.{List, [], ◌∷◌, ◌++◌}
use Prim.Native.Nat.{ℕ, ◌+◌, ◌≤◌, suc}
use native.Mathlib.Omega.{arith}
use native.Mathlib.Numerals.{add-one}
use lib.ListN.{length, set, get_or, take, drop}
use Rattle.codes.specs.Number.{put}
use Rattle.codes.proofs.Put.{put_length, put_append, sets_put}

-- two bytes stored, one after the other
pub copied_two : (l : List ℕ) (at : ℕ) (s : List ℕ) (from : ℕ) → at + 2 ≤ length l → from + 2 ≤ length s → set (set l at (get_or s from 0)) (at + 1) (get_or s (from + 1) 0) ≡ put l at (take 2 (drop from s))
copied_two l at s from room there =
    rw (drop-cons s from 0 (omega arith), drop-cons s (suc from) 0 (omega arith), add-one at, add-one from)
    (sets_put l at (get_or s from 0 ∷ get_or s (suc from) 0 ∷ []) (omega arith))

-- two bytes stored, bytes put after them, and one that fills these up
module _ (l : List ℕ) (at f n : ℕ) (cs : List ℕ) where
  pub copied_after : at + (2 + length cs) ≤ length l → put (set (set l at f) (at + 1) n) (at + 2) cs ≡ put l at (f ∷ n ∷ cs)
  copied_after room = rw (add-one at, sets_put l at (f ∷ n ∷ []) (omega arith)) (put_append l at (f ∷ n ∷ []) cs (omega arith))

  pub copied_filled : at + (2 + length cs + 1) ≤ length l → set (put (set (set l at f) (at + 1) n) (at + 2) cs) (at + 2 + length cs) 0 ≡ put l at (f ∷ n ∷ cs ++ (0 ∷ []))
  copied_filled room =
      let all = f ∷ n ∷ cs in
      let place : at + 2 + length cs ≡ at + length all = omega arith in
      rw (copied_after (omega arith), place)
      (sets_put (put l at all) (at + length all) (0 ∷ []) (omega (arith, put_length l at all)) ∙ put_append l at all (0 ∷ []) (omega arith))
