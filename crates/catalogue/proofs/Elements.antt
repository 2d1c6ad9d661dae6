-- Elements of every size: where they stand, and that what is stored is got back and no other changes.
use mathlib.Core.Path.{◌≡◌}
use mathlib.Core.List.{List}
use Prim.Native.Nat.{ℕ, ◌+◌, ◌*◌, ◌^◌, ◌≤◌, ◌<◌}
use native.Mathlib.Nat.{mul-le-mul}
use native.Mathlib.Omega.{arith}
use lib.Dec.{lit≤}
use lib.ListN.{length}
use Rattle.codes.proofs.Number.{number_small, number_put}
use Rattle.codes.proofs.Put.{word_length, put_length, put_too_long}
use Rattle.catalogue.specs.declared.Kind.{Kind}
use Rattle.catalogue.specs.declared.Kind.TheVariants.{U8, U16, I16, I32}
use Rattle.catalogue.specs.declared.Row.{Row}
use Rattle.catalogue.specs.Table.{element_size}
use Rattle.catalogue.specs.Element.{element_place, element_of, put_element}

pub size_small : (k : Kind) → element_size k ≤ 4
size_small U8 = lit≤ tt
size_small U16 = lit≤ tt
size_small I16 = lit≤ tt
size_small I32 = lit≤ tt

-- an index of 16 bits times a size
pub index_small : (i z : ℕ) (k : Kind) → i < 65536 → z ≡ element_size k → i * z ≤ 262140
index_small i z k h e = let n : i ≤ 65535 = omega arith in omega (arith, mul-le-mul {n₁ = i} {m₁ = z} {n₂ = 65535} {m₂ = 4} n (omega (arith, size_small k)))

pub element_small : (r : Row) (i : ℕ) (p : List ℕ) → element_of r i p < 256 ^ element_size r.kind
unfolding element_of
element_small r i p = number_small (element_size r.kind) p (element_place r i)

module _ (r : Row) (i x : ℕ) (p : List ℕ) where
  pub element_length : length (put_element r i x p) ≡ length p
  unfolding put_element
  element_length = put_length p (element_place r i) _

  -- what is stored is got back
  pub element_stored : element_place r i + element_size r.kind ≤ length p → x < 256 ^ element_size r.kind → element_of r i (put_element r i x p) ≡ x
  unfolding element_of put_element
  element_stored room small = number_put (element_size r.kind) p (element_place r i) x (size_small r.kind) room small

  -- where there is no room for it, nothing is stored
  pub element_unstored : length p < element_place r i + element_size r.kind → put_element r i x p ≡ p
  unfolding put_element
  element_unstored h = put_too_long p (element_place r i) _ (omega (arith, word_length (element_size r.kind) x))
