-- Document 01, "For a change then", and document 02, R-6: a change (02) worked on a part, address by address.
use Rattle.access.specs.declared.error.ParameterError.TheVariants.{ReadOnly, OutsideLimits, WrongType, WrongCount}
use Rattle.access.specs.declared.error.ParameterError.{ParameterError}
use Rattle.std.specs.Prelude.{Bool, true, cond, not, ◌&&◌, ◌||◌, List, [], ◌∷◌, ℕ, ◌+◌, eqb, length, Result, Ok, Err}
use Rattle.blocks.specs.Block.{Block}
use Rattle.blocks.specs.declared.reader.Address.{Address}
use Rattle.catalogue.specs.declared.Row.{Row}
use Rattle.catalogue.specs.Element.{size_code, type_code, inside, put_element}
use Rattle.access.specs.Address.{checked, error_block, empty_block}

-- what an address of a change comes to: its block, the part after it, and how many elements were stored
pub record Changed : Type 0 where
  pub block : Block
  pub part : List ℕ
  pub stored : ℕ

abbrev pub failure : ParameterError → List ℕ → Changed
failure e p = record { block = error_block e; part = p; stored = 0 }

-- "every element is within limits"
abbrev pub all_inside : Row → List ℕ → Bool
all_inside r [] = true
all_inside r (x ∷ xs) = inside r x && all_inside r xs

-- the part with the values stored in a row's elements, from element i on
abbrev pub store_from : Row → ℕ → List ℕ → List ℕ → List ℕ
store_from r i [] p = p
store_from r i (x ∷ xs) p = store_from r (i + 1) xs (put_element r i x p)

-- all of an address stored, and counted
abbrev pub success : Row → ℕ → List ℕ → List ℕ → Changed
success r i xs p = record { block = empty_block; part = store_from r i xs p; stored = length xs }

-- R-6: "for one address, nothing is stored unless every element is within limits; the error stays 0x02, that of the first bad element"
abbrev pub store_whole : Row → ℕ → List ℕ → List ℕ → Changed
store_whole r i xs p = cond (all_inside r xs) (success r i xs p) (failure OutsideLimits p)

-- "not writable 0x01; format neither the size code nor the type code of the parameter (U8 5, I16 3, U16 6, I32 4) 0x05; number of
-- values not the elements 0x18"
abbrev pub of_elements : Address → Block → List ℕ → Row → ℕ → Changed
of_elements a b p r n =
    cond (not r.writable) (failure ReadOnly p)
    (cond (not (eqb b.format (size_code r.kind) || eqb b.format (type_code r.kind))) (failure WrongType p)
    (cond (not (eqb (length b.values) n)) (failure WrongCount p)
    (store_whole r a.subindex b.values p)))

abbrev pub of_checked : Address → Block → List ℕ → Result (Row × ℕ) ParameterError → Changed
of_checked a b p (Err e) = failure e p
of_checked a b p (Ok (r, n)) = of_elements a b p r n

-- one address with its block of values
unfoldable pub change_one : Address → Block → List ℕ → Changed
change_one a b p = of_checked a b p (checked a)

-- what all addresses come to, in order: "later addresses are still worked"
pub record ChangedAll : Type 0 where
  pub blocks : List Block
  pub part : List ℕ
  pub stored : ℕ

abbrev pub follow : Changed → ChangedAll → ChangedAll
follow c rest = record { blocks = c.block ∷ rest.blocks; part = rest.part; stored = c.stored + rest.stored }

abbrev pub change_all : List Address → List Block → List ℕ → ChangedAll
change_all [] bs p = record { blocks = []; part = p; stored = 0 }
change_all (a ∷ as') [] p = record { blocks = []; part = p; stored = 0 }
change_all (a ∷ as') (b ∷ bs) p = let c = change_one a b p in follow c (change_all as' bs c.part)
