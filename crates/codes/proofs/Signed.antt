-- Signed numbers and their bytes, once over the width.
use mathlib.Core.Path.{◌≡◌, refl, ap, ◌∙◌, subst}
use mathlib.Core.List.{List}
use Prim.Native.Nat.{ℕ, zero, suc, ◌+◌, ◌-◌, ◌/◌, ◌^◌, ◌≤◌, ◌<◌}
use native.Mathlib.Omega.{arith}
use native.Mathlib.Decide.{dec_lt}
use lib.ListN.{length}
use lib.IntN.{ℤ, pos, negsuc, ◌-ℤ◌}
use lib.Signed.{mag}
use borrow.Author.Tests.{lt-ltb, le-ltb}
use mir.Syntax.{Width}
use mir.Val.{SFits, to_z, of_z, bits, hbits}
use mir.Facts.{to_z_pos}
use mir.ValLaws.{to_z-Fits, pow-bits}
use Rattle.codes.specs.Code.{word}
use Rattle.codes.specs.Number.{number_at, put, signed_of, bits_of}
use Rattle.codes.proofs.Number.{number_put}

-- a difference below zero
below : (x m : ℕ) → x < m → pos x -ℤ pos m ≡ negsuc (m - suc x)
below x zero h = absurd (omega arith)
below x (suc m) h = rw (lt-ltb x (suc m) h)

-- the numbers that n bytes stand for
abbrev pub Within : ℕ → ℤ → Type 0
Within n z = mag z < 256 ^ n / 2

module _ (n : ℕ) where
  pub bits_small : (z : ℤ) → Within n z → bits_of n z < 256 ^ n
  bits_small (pos k) h = omega arith
  bits_small (negsuc k) h = omega arith

  pub signed_bits : (z : ℤ) → Within n z → signed_of n (bits_of n z) ≡ z
  signed_bits (pos k) h = rw (lt-ltb k (256 ^ n / 2) h)
  signed_bits (negsuc k) h =
      let e : 256 ^ n - suc (256 ^ n - suc k) ≡ k = omega arith in
      rw (le-ltb (256 ^ n - suc k) (256 ^ n / 2) (omega arith), below (256 ^ n - suc k) (256 ^ n) (omega arith), e)

  pub bits_signed : (x : ℕ) → x < 256 ^ n → bits_of n (signed_of n x) ≡ x
  bits_signed x h = go (dec_lt x (256 ^ n / 2))
    where
      go : Dec (x < 256 ^ n / 2) → bits_of n (signed_of n x) ≡ x
      go (yes y) = rw (lt-ltb x (256 ^ n / 2) y)
      go (no k) = rw (le-ltb x (256 ^ n / 2) (omega arith), below x (256 ^ n) h) (omega arith)

  -- what is put of a signed number is got back
  pub signed_put : (l : List ℕ) (at : ℕ) (z : ℤ) → n ≤ 4 → at + n ≤ length l → Within n z → signed_of n (number_at n (put l at ((word n).write (bits_of n z))) at) ≡ z
  signed_put l at z h room w = ap (signed_of n) (number_put n l at (bits_of n z) h room (bits_small z w)) ∙ signed_bits z w

-- n bytes are the machine's width w, as 2 are w16 and 4 are w32 (`wide` is refl): what the library's `cast_signed` and `cast_unsigned` give
module _ (n : ℕ) (w : Width) (wide : 2 ^ bits w ≡ 256 ^ n) where
  pub cast_unsigned_is : (z : ℤ) → of_z w z ≡ bits_of n z
  cast_unsigned_is (pos k) = refl
  cast_unsigned_is (negsuc k) = rw wide

  half : 256 ^ n / 2 ≡ 2 ^ hbits w
  half = omega (arith, pow-bits w)

  signed_low : (x : ℕ) → x < 2 ^ hbits w → to_z w x ≡ signed_of n x
  signed_low x h = rw (to_z_pos w h, half, lt-ltb x (2 ^ hbits w) h)

  pub cast_signed_is : (x : ℕ) → x < 2 ^ bits w → to_z w x ≡ signed_of n x
  cast_signed_is x k = go (dec_lt x (2 ^ hbits w))
    where
      go : Dec (x < 2 ^ hbits w) → to_z w x ≡ signed_of n x
      go (yes h) = signed_low x h
      go (no h) = rw (half, le-ltb x (2 ^ hbits w) (omega arith), ← wide, below x (2 ^ bits w) k) refl

  pub signed_fits : (x : ℕ) → x < 2 ^ bits w → SFits w (signed_of n x)
  signed_fits x k = subst (SFits w) (cast_signed_is x k) (to_z-Fits w x (record { fits = k }))
