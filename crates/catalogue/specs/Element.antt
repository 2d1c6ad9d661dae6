-- Document 01, "Parameters of each axis": an element in a part's bytes, its value, its limits, and the codes of its type.
use Rattle.std.specs.Prelude.{Bool, true, cond, ◌&&◌, List, [], ◌∷◌, ℕ, zero, suc, ◌+◌, ◌*◌, ◌%◌, ◌^◌, eqb, ℤ, pos}
use Rattle.std.specs.Int.Signed.{le_z}
use Rattle.codes.specs.Code.{word}
use Rattle.codes.specs.Number.{number_at, put, signed_of}
use Rattle.catalogue.specs.declared.Kind.{Kind}
use Rattle.catalogue.specs.declared.Kind.TheVariants.{U8, U16, I16, I32}
use Rattle.catalogue.specs.declared.Row.{Row}
use Rattle.catalogue.specs.Table.{element_size}

-- the size code: 0x41, 0x42 and 0x43 for 1, 2 and 4 bytes
abbrev pub size_code : Kind → ℕ
size_code U8 = 0x41
size_code U16 = 0x42
size_code I16 = 0x42
size_code I32 = 0x43

-- "the type code of the parameter (U8 5, I16 3, U16 6, I32 4)"
abbrev pub type_code : Kind → ℕ
type_code U8 = 5
type_code U16 = 6
type_code I16 = 3
type_code I32 = 4

-- the value that an element's bytes stand for: its sign follows the parameter's type
abbrev pub value_of : Kind → ℕ → ℤ
value_of U8 x = pos (x % 256)
value_of U16 x = pos (x % 65536)
value_of I16 x = signed_of 2 (x % 65536)
value_of I32 x = signed_of 4 (x % 256 ^ 4)

-- "Limits are both included."
unfoldable pub inside : Row → ℕ → Bool
inside r x = le_z r.low (value_of r.kind x) && le_z (value_of r.kind x) r.high

-- where element i of a row stands, what stands there, and the part with other bytes there
abbrev pub element_place : Row → ℕ → ℕ
element_place r i = r.offset + i * element_size r.kind

unfoldable pub element_of : Row → ℕ → List ℕ → ℕ
element_of r i p = number_at (element_size r.kind) p (element_place r i)

unfoldable pub put_element : Row → ℕ → ℕ → List ℕ → List ℕ
put_element r i x p = put p (element_place r i) ((word (element_size r.kind)).write x)

-- the fresh value of element i
abbrev pub fresh_of : Row → ℕ → ℕ
fresh_of r i = cond (eqb i 0) r.fresh r.others

-- a test of the first n elements of a row
abbrev pub every_element : (ℕ → Bool) → ℕ → Bool
every_element ok zero = true
every_element ok (suc n) = every_element ok n && ok n

-- and of every row of a list
abbrev pub every_row : (Row → Bool) → List Row → Bool
every_row ok [] = true
every_row ok (r ∷ rs) = ok r && every_row ok rs
