-- One address of a change: its tests in their order, by what the code knows of the block that stands at its place.
use Rattle.access.specs.declared.error.ParameterError.{ParameterError}
use Rattle.std.specs.Prelude.{Some, Result, Err}
use mathlib.Core.Path.{◌≡◌, refl, sym, ◌∙◌, ap, subst}
use mathlib.Core.Bool.{Bool, true, cond, not, ◌||◌}
use mathlib.Core.List.{List}
use Prim.Native.Nat.{ℕ}
use native.Mathlib.Omega.{arith}
use lib.Dec.{eqb}
use lib.ListN.{length}
use borrow.Author.Tests.{eq-eqb}
use Rattle.codes.specs.Number.{value_or}
use Rattle.blocks.specs.Block.{Block, change_block_fits}
use Rattle.blocks.specs.Place.{block_at}
use Rattle.blocks.specs.declared.Head.{Head}
use Rattle.blocks.specs.declared.reader.Address.{Address}
use Rattle.blocks.proofs.Blocks.{block_stands}
use Rattle.catalogue.specs.declared.Row.{Row}
use Rattle.catalogue.specs.Element.{size_code, type_code}
use Rattle.access.specs.declared.error.ParameterError.TheVariants.{ReadOnly, WrongType, WrongCount}
use Rattle.access.specs.Address.{checked, empty_block}
use Rattle.access.specs.Change.{Changed, failure, store_whole, of_elements, of_checked, change_one}
use Rattle.access.specs.Walk.{block_in, Did}

-- nothing is stored
pub did_fail : (e : ParameterError) (p : List ℕ) → Did (failure e p) p (Err e)
did_fail e p = record { block = refl; part = refl; stored = refl; few = omega arith }

-- the head that the code has is that of the block
module _ (s : List ℕ) (at : ℕ) (h : Head) (st : block_at s at ≡ Some h) where
  pub block_in_lem : block_in s at ≡ (block_stands change_block_fits s at h st).it
  block_in_lem = ap (value_or empty_block) (block_stands change_block_fits s at h st).read

  pub head_format : h.format ≡ (block_in s at).format
  head_format = (block_stands change_block_fits s at h st).format ∙ ap (λ (b : Block). b.format) (sym block_in_lem)

  pub head_count : h.count ≡ length (block_in s at).values
  head_count = (block_stands change_block_fits s at h st).count ∙ ap (λ (b : Block). length b.values) (sym block_in_lem)

-- what the checks of the address say decides
pub change_is : (a : Address) (b : Block) (p m : List ℕ) (d : Result ℕ ParameterError) (c : Result (Row × ℕ) ParameterError) → c ≡ checked a → Did (of_checked a b p c) m d → Did (change_one a b p) m d
unfolding change_one
change_is a b p m d c e k = subst (λ (x : Result (Row × ℕ) ParameterError). Did (of_checked a b p x) m d) e k

-- three tests are passed
pub three_passed : (w f z : Bool) (c₁ c₂ c₃ c : Changed) → w ≡ true → f ≡ true → z ≡ true → c ≡ cond (not w) c₁ (cond (not f) c₂ (cond (not z) c₃ c))
three_passed w f z c₁ c₂ c₃ c ew ef ez = rw (ew, ef, ez)

-- the tests of an address that names n elements of a row, with a block of format f and of k values
module _ (a : Address) (b : Block) (p m : List ℕ) (r : Row) (n f k : ℕ) (d : Result ℕ ParameterError) (ef : f ≡ b.format) (ek : k ≡ length b.values) where
  module _ (w : r.writable ≡ true) where
    module _ (e : (eqb f (size_code r.kind) || eqb f (type_code r.kind)) ≡ true) where
      pub is_stored : k ≡ n → Did (store_whole r a.subindex b.values p) m d → Did (of_elements a b p r n) m d
      is_stored z o =
          subst (λ (c : Changed). Did c m d)
          (three_passed r.writable (eqb b.format (size_code r.kind) || eqb b.format (type_code r.kind)) (eqb (length b.values) n) (failure ReadOnly p) (failure WrongType p) (failure WrongCount p) (store_whole r a.subindex b.values p) w (rw (← ef) e) (eq-eqb (length b.values) n (sym ek ∙ z)))
          o
