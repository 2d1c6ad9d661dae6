-- Numbers low byte first.
use mathlib.Core.Path.{◌≡◌, refl, sym, ◌∙◌, ap}
use mathlib.Core.List.{List, [], ◌∷◌, ◌++◌}
use borrow.Rule.Slice.PartMut.{put_mid}
use mir.Val.{Fits}
use Rattle.std.specs.Int.{w8, w32, from_le_bytes, to_le_bytes}
use Prim.Native.Nat.{ℕ, zero, suc, ◌+◌, ◌-◌, ◌/◌, ◌%◌, ◌≤◌, ◌<◌, ◌^◌}
use native.Mathlib.Omega.{arith}
use native.Mathlib.Nat.{pow-suc}
use native.Mathlib.Numerals.{add-one}
use lib.ListN.{length, get_or, set, length-set, take, drop, length-drop}
use lib.Seq.{drop-drop, length-take-le}
use Rattle.codes.specs.Number.{put}
use Rattle.codes.proofs.Put.{sets_put, put_fits}
use Rattle.versions.specs.Low.{low_number, low_bytes}

pub low_small : (w : ℕ) (s : List ℕ) (at : ℕ) → low_number w s at < 256 ^ w
low_small zero s at = omega arith
low_small (suc w) s at = let a = low_small w s (at + 1) in rw pow-suc (omega arith)

pub bytes_length : (w x : ℕ) → length (low_bytes w x) ≡ w
bytes_length zero x = refl
bytes_length (suc w) x = ap suc (bytes_length w (x / 256))

-- what the library makes of four bytes at most, and of a number's four
pub low_whole : (bs : List ℕ) → length bs ≤ 4 → ((i : ℕ) → Fits w8 (get_or bs i 0)) → from_le_bytes w32 (bs ++ drop (length bs) (0 ∷ 0 ∷ 0 ∷ 0 ∷ [])) ≡ low_number (length bs) bs 0
low_whole [] h b = omega arith
low_whole (x ∷ []) h b = omega (arith, b 0)
low_whole (x ∷ y ∷ []) h b = omega (arith, b 0, b 1)
low_whole (x ∷ y ∷ z ∷ []) h b = omega (arith, b 0, b 1, b 2)
low_whole (x ∷ y ∷ z ∷ t ∷ []) h b = omega (arith, b 0, b 1, b 2, b 3)
low_whole (x ∷ y ∷ z ∷ t ∷ u ∷ l) h b = absurd (omega arith)

pub whole_low : (w x : ℕ) → w ≤ 4 → x < 2 ^ 32 → take w (to_le_bytes w32 x) ≡ low_bytes w x
whole_low zero x h s = refl
whole_low (suc zero) x h s = refl
whole_low (suc (suc zero)) x h s = ap (λ (a : ℕ). x % 256 ∷ a ∷ []) (omega arith)
whole_low (suc (suc (suc zero))) x h s = let a : x / 256 / 256 ≡ x / 65536 = omega arith in rw a
whole_low (suc (suc (suc (suc zero)))) x h s =
    let a : x / 256 / 256 ≡ x / 65536 = omega arith in
    let b : x / 65536 / 256 ≡ x / 16777216 = omega arith in
    rw (a, b)
whole_low (suc (suc (suc (suc (suc w))))) x h s = absurd (omega arith)

-- and of a part of a list
pub put_part : (l ys : List ℕ) (at w x : ℕ) → at + w ≤ length l → ys ≡ low_bytes w x → put_mid at w l ys ≡ put l at (low_bytes w x)
put_part l ys at w x h e =
    let n = bytes_length w x in
    ap (put_mid at w l) e
    ∙ (ap (λ (t : List ℕ). take at l ++ (low_bytes w x ++ t)) (drop-drop w at l ∙ ap (λ (k : ℕ). drop k l) (omega arith))
    ∙ sym (put_fits l at (low_bytes w x) (omega arith)))

pub put_within : (l ys : List ℕ) (at k n w x : ℕ) → w ≡ k - at → at ≤ k → k ≤ length l → n ≡ length (take (k - at) (drop at l)) → ys ≡ low_bytes n x → put_mid at (k - at) l ys ≡ put l at (low_bytes w x)
put_within l ys at k n w x e g h m y =
    let size : n ≡ k - at = m ∙ length-take-le (k - at) (drop at l) (omega (arith, length-drop at l)) in
    rw (← e) (put_part l ys at w x (omega arith) (rw (size, ← e) at y))

-- a number put from its low end: one more byte
pub put_next : (l : List ℕ) (k x w : ℕ) → k + suc w ≤ length l → put (set l k (x % 256)) (k + 1) (low_bytes w (x / 256)) ≡ put l k (low_bytes (suc w) x)
put_next l k x w h =
    let n = bytes_length w (x / 256) in
    sym (sets_put (set l k (x % 256)) (k + 1) (low_bytes w (x / 256)) (omega (arith, length-set l k (x % 256))))
    ∙ (rw (add-one k) refl ∙ sets_put l k (low_bytes (suc w) x) (omega arith))
