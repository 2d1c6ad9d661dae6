-- The bytes that wait and those after them, where they stand.
use mathlib.Core.Path.{◌≡◌, sym, ◌∙◌, ap}
use mathlib.Core.List.{List}
use Prim.Native.Nat.{ℕ, ◌+◌, ◌-◌, ◌≤◌, min}
use native.Mathlib.Omega.{arith}
use native.Mathlib.Decide.{dec_le}
use lib.ListN.{length, take, drop, length-take, length-drop, drop_of_length-le}
use lib.Seq.{take-take, take_all, drop-drop}
use Rattle.std.proofs.lemmas.Slice.{between_is}
use Rattle.blocks.specs.Block.{block_limit}
use Rattle.drive.specs.Faults.{zeros}
use Rattle.part.specs.Layout.{response_at, versions_at, waiting_length, response_room, waiting}
use Rattle.part.specs.WellFormed.{unused_fit}

module _ (p : List ℕ) where
  pub waiting_is : (n : ℕ) → n ≡ min (waiting_length p) block_limit → take n (drop response_at p) ≡ waiting p
  waiting_is n e = go (dec_le (waiting_length p) block_limit)
    where
      go : Dec (waiting_length p ≤ block_limit) → take n (drop response_at p) ≡ waiting p
      go (yes h) = let f : n ≡ waiting_length p = omega arith in rw f (sym (take-take (waiting_length p) block_limit (drop response_at p) h))
      go (no h) =
          let f : n ≡ block_limit = omega arith in
          rw f (sym (take_all (waiting_length p) (response_room p) (omega (arith, length-take block_limit (drop response_at p)))))

  module _ (room : versions_at ≤ length p) where
    room_length : length (response_room p) ≡ block_limit
    room_length = length-take block_limit (drop response_at p) ∙ omega (arith, length-drop response_at p)

    pub waiting_bytes : length (waiting p) ≡ min (waiting_length p) block_limit
    waiting_bytes = length-take (waiting_length p) (response_room p) ∙ omega (arith, room_length)

    pub unused_is : (n start : ℕ) → n ≡ min (waiting_length p) block_limit → start ≡ response_at + n → zeros (take (versions_at - start) (drop start p)) ≡ unused_fit p
    unfolding unused_fit
    unused_is n start e f =
        let left : versions_at - start ≡ block_limit - n = omega arith in
        let behind : drop start p ≡ drop n (drop response_at p) = rw f (sym (drop-drop n response_at p)) in
        ap (λ (k : ℕ). zeros (take k (drop start p))) left
        ∙ (ap (λ (l : List ℕ). zeros (take (block_limit - n) l)) behind
        ∙ ap zeros (between_is (drop response_at p) n block_limit ∙ go (dec_le (waiting_length p) block_limit)))
      where
        go : Dec (waiting_length p ≤ block_limit) → drop n (response_room p) ≡ drop (waiting_length p) (response_room p)
        go (yes h) = let g : n ≡ waiting_length p = omega arith in rw g
        go (no h) =
            drop_of_length-le (response_room p) {i = n} (omega (arith, room_length))
            ∙ sym (drop_of_length-le (response_room p) {i = waiting_length p} (omega (arith, room_length)))
