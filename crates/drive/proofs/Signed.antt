-- Signed numbers: what a product and a quotient of the cycle's figures fit, and how each is read back from its bits.
-- Assumes nothing.
use Prim.Native.Nat.{ℕ, suc, zero, ◌/◌, ◌^◌, ◌≤◌, ◌<◌}
use native.Mathlib.Omega.{arith}
use mathlib.Core.Path.{◌≡◌, sym, ap, subst, ◌∙◌}
use lib.IntN.{ℤ, pos, negsuc, neg_ℤ, nat_abs, ◌*ℤ◌}
use lib.Signed.{mag, quot_z}
use lib.Dec.{T, leb}
use mir.Syntax.{Width, w16, w32}
use mir.Val.{hbits, Fits, SFits, to_z, of_z}
use mir.Facts.{sfits_widen, to_z-of_z}
use Rattle.std.specs.Int.RustNames.{unsigned_abs}
use Rattle.std.proofs.lemmas.Int.{fits_signed_mul}
use Rattle.drive.specs.Speed.{full}

-- a signed number cast to a wider type
module _ {w : Width} (v : Width) {z : ℤ} (narrower : T (leb (hbits w) (hbits v))) (fits : SFits w z) where
  pub widens : SFits v (to_z w (of_z w z))
  widens = subst (SFits v) (sym (to_z-of_z fits)) (sfits_widen narrower fits)

  pub widened : to_z v (of_z v (to_z w (of_z w z))) ≡ z
  widened = ap (λ (y : ℤ). to_z v (of_z v y)) (to_z-of_z fits) ∙ to_z-of_z {w = v} (sfits_widen narrower fits)

-- a result that is known, read back from its bits
pub held : (w : Width) {r z : ℤ} → r ≡ z → SFits w z → to_z w (of_z w r) ≡ z
held w e f = ap (λ (y : ℤ). to_z w (of_z w y)) e ∙ to_z-of_z f

-- what a widening answered of a number that was passed by its bits
pub widen_back : {r x : ℤ} → r ≡ to_z w16 (of_z w16 x) → SFits w16 x → to_z w32 (of_z w32 r) ≡ x
widen_back e f = held w32 (e ∙ to_z-of_z f) (sfits_widen tt f)

-- a signed 16-bit number times an unsigned one
abs_small : (x : ℤ) → SFits w16 x → unsigned_abs x ≤ 32768
abs_small (pos a) f = omega (arith, f.sfits)
abs_small (negsuc a) f = omega (arith, f.sfits)

pub prod_fits : {x : ℤ} {n : ℕ} → SFits w16 x → n < 2 ^ 16 → SFits w32 (x *ℤ pos n)
prod_fits {x} {n} f h = fits_signed_mul w32 x (pos n) 32768 65535 (abs_small x f) (omega arith) (omega arith)

pub small : {n : ℕ} → Fits w16 n → SFits w32 (pos n)
small f = record { sfits = omega (arith, f.fits) }

-- a quotient cut toward zero
mag_neg : (n : ℕ) → mag (neg_ℤ (pos n)) ≤ n
mag_neg zero = omega arith
mag_neg (suc n) = omega arith

mag_cut : (z : ℤ) → mag z < 2 ^ 31 → mag (quot_z z (pos full)) < 2 ^ 31
mag_cut (pos a) h = omega arith
mag_cut (negsuc a) h = omega (arith, mag_neg (suc a / full))

pub cut_fits : {z : ℤ} → SFits w32 z → SFits w32 (quot_z z (pos full))
cut_fits {z} f = record { sfits = mag_cut z f.sfits }
