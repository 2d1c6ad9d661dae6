-- The value that stands in one or two bytes, worked out from them.
use mathlib.Core.Path.{◌≡◌, refl, sym, ◌∙◌, ap, subst}
use mathlib.Core.List.{List}
use mathlib.Core.Bool.{Bool, ◌&&◌}
use Prim.Native.Nat.{ℕ, ◌+◌, ◌*◌, ◌%◌, ◌≤◌, ◌<◌}
use native.Mathlib.Omega.{arith}
use native.Mathlib.Nat.{zero-add}
use lib.IntN.{ℤ, pos, ◌+ℤ◌, ◌*ℤ◌}
use lib.Signed.{le_z}
use lib.ListN.{length, get_or, drop}
use mir.Syntax.{w32}
use mir.Val.{SFits, to_z, of_z}
use mir.Facts.{to_z_pos}
use Rattle.codes.specs.Number.{number_at, signed_of}
use Rattle.codes.proofs.Fixed.{Bytes, byte_at}
use Rattle.codes.proofs.Number.{number_is, byte_number}
use Rattle.drive.proofs.Signed.{held}
use Rattle.catalogue.specs.declared.Kind.TheVariants.{U8, U16, I16}
use Rattle.catalogue.specs.declared.Row.{Row}
use Rattle.catalogue.specs.Table.{element_size}
use Rattle.catalogue.specs.Element.{value_of, inside}

-- two bytes as a signed number of the machine
module _ (x : ℕ) (hx : x < 256) where
  high : to_z w32 x *ℤ pos 256 ≡ pos (x * 256)
  high = ap (λ (z : ℤ). z *ℤ pos 256) (to_z_pos w32 (omega arith))

  pub high_fits : SFits w32 (to_z w32 x *ℤ pos 256)
  high_fits = subst (SFits w32) (sym high) (record { sfits = omega arith })

  module _ (y : ℕ) (hy : y < 256) where
    both : to_z w32 (of_z w32 (to_z w32 x *ℤ pos 256)) +ℤ to_z w32 y ≡ pos (x * 256 + y)
    both = rw (held w32 high (record { sfits = omega arith }), to_z_pos w32 {n = y} (omega arith)) refl

    pub both_are : to_z w32 (of_z w32 (to_z w32 (of_z w32 (to_z w32 x *ℤ pos 256)) +ℤ to_z w32 y)) ≡ pos (x * 256 + y)
    both_are = held w32 both (record { sfits = omega arith })

module _ (s : List ℕ) (b : Bytes s) (at : ℕ) where
  pub one_byte : at + 1 ≤ length s → to_z w32 (get_or s at 0) ≡ value_of U8 (number_at 1 s at)
  one_byte h =
      let e : get_or s at 0 % 256 ≡ get_or s at 0 = omega (arith, b at) in
      to_z_pos w32 {n = get_or s at 0} (omega (arith, b at)) ∙ rw (byte_number s b at (omega arith), e)

  abbrev number : ℕ
  number = get_or s at 0 * 256 + get_or s (at + 1) 0

  module _ (h : at + 2 ≤ length s) where
    two_bytes : number_at 2 s at % 65536 ≡ number
    two_bytes =
        let e = number_is 2 s at number (drop (at + 1 + 1) s) (omega arith) (rw (byte_at s b at (omega arith), byte_at s b (at + 1) (omega arith), zero-add) refl) in
        rw e (omega (arith, b at, b (at + 1)))

    pub two_unsigned : pos number ≡ value_of U16 (number_at 2 s at)
    two_unsigned = ap pos (sym two_bytes)

    pub two_signed : signed_of 2 number ≡ value_of I16 (number_at 2 s at)
    two_signed = ap (signed_of 2) (sym two_bytes)

-- a test of the value is the test of its bytes
pub value_inside : (r : Row) (w : ℕ) (s : List ℕ) (at : ℕ) (v : ℤ) (t : Bool) → w ≡ element_size r.kind → v ≡ value_of r.kind (number_at (element_size r.kind) s at) → t ≡ (le_z r.low v && le_z v r.high)
    → t ≡ inside r (number_at w s at)
unfolding inside
value_inside r w s at v t wide e f = f ∙ rw (e, wide)
