-- Document 01, "Parameters of each axis": the table, row by row, and where the elements of a row stand in a part.
use Rattle.std.specs.Prelude.{Bool, true, false, cond, List, [], ◌∷◌, ℕ, ◌+◌, ◌*◌, eqb, ℤ, pos, negsuc, get_or, Option, Some, None}
use Rattle.drive.specs.Faults.{buffer_codes}
use Rattle.catalogue.specs.declared.Kind.{Kind}
use Rattle.catalogue.specs.declared.Kind.TheVariants.{U8, U16, I16, I32}
use Rattle.catalogue.specs.declared.Row.{Row}

-- bytes of an element, by its type
abbrev pub element_size : Kind → ℕ
element_size U8 = 1
element_size U16 = 2
element_size I16 = 2
element_size I32 = 4

-- "Elements": a simple parameter has one, an array counts them from 0
pub record Extent : Type 0 where
  pub simple : Bool
  pub count : ℕ

abbrev pub simple : Extent
simple = record { simple = true; count = 1 }

abbrev pub array : ℕ → Extent
array n = record { simple = false; count = n }

-- "Write" and "Limits are both included": a row that cannot be written has no limits
pub record Write : Type 0 where
  pub writable : Bool
  pub low : ℤ
  pub high : ℤ

abbrev pub no : Write
no = record { writable = false; low = pos 0; high = pos 0 }

abbrev pub from : ℤ → ℤ → Write
from low high = record { writable = true; low = low; high = high }

-- "Fresh": of the first element, and of each other
pub record Fresh : Type 0 where
  pub first : ℕ
  pub others : ℕ

abbrev pub all : ℕ → Fresh
all v = record { first = v; others = v }

abbrev pub first_then : ℕ → ℕ → Fresh
first_then v w = record { first = v; others = w }

-- a row, which is told later where its elements stand
abbrev pub row : ℕ → Kind → Extent → Write → Fresh → ℕ → Row
row pnu kind extent write fresh offset =
    record {
      low = write.low;
      high = write.high;
      fresh = fresh.first;
      others = fresh.others;
      pnu = pnu;
      kind = kind;
      simple = extent.simple;
      count = extent.count;
      writable = write.writable;
      offset = offset;
    }

-- | PNU | Type | Elements | Write, limits | Fresh |
abbrev pub table : List (ℕ → Row)
table =
    row 930 U16 simple no (all 1)
    ∷ row 944 U16 simple no (all 0)
    ∷ row 947 U16 (array buffer_codes) no (all 0)
    ∷ row 965 U8 (array 2) no (first_then 3 41)
    ∷ row 9900 U16 simple (from (pos 0) (pos 65535)) (all 0)
    ∷ row 9901 U16 (array 8) (from (pos 0) (pos 65535)) (all 0)
    ∷ row 10100 U16 simple no (all 0)
    ∷ row 10101 I16 simple no (all 0)
    ∷ row 10102 U16 simple no (all 0x0340)
    ∷ row 10103 I16 simple no (all 0)
    ∷ row 10111 U16 simple (from (pos 1) (pos 60000)) (all 1500)
    ∷ row 30001 U16 (array 4) (from (pos 0) (pos 3000)) (all 0)
    ∷ row 30002 U16 simple (from (pos 0) (pos 16384)) (all 164)
    ∷ row 30003 U16 simple (from (pos 0) (pos 32767)) (all 16384)
    ∷ row 30004 I32 (array 2) (from (negsuc 99999) (pos 100000)) (all 0)
    ∷ []

abbrev pub bytes_of : Row → ℕ
bytes_of r = r.count * element_size r.kind

-- the elements stand in the order of the table, each row after the one before it
abbrev pub placed : ℕ → List (ℕ → Row) → List Row
placed at [] = []
placed at (r ∷ rs) = r at ∷ placed (at + bytes_of (r at)) rs

unfoldable pub rows : List Row
rows = placed 0 table

-- the bytes that they all take
abbrev pub bytes_in : List Row → ℕ
bytes_in [] = 0
bytes_in (r ∷ rs) = bytes_of r + bytes_in rs

unfoldable pub parameter_bytes : ℕ
parameter_bytes = bytes_in rows

abbrev pub no_row : Row
no_row = row 0 U8 (array 0) no (all 0) 0

unfoldable pub row_at : ℕ → Row
row_at i = get_or rows i no_row

-- "unless the PNU is found, 0x00"
abbrev pub find_in : List Row → ℕ → Option Row
find_in [] pnu = None
find_in (r ∷ rs) pnu = cond (eqb r.pnu pnu) (Some r) (find_in rs pnu)

unfoldable pub find_of : ℕ → Option Row
find_of pnu = find_in rows pnu

-- where the first element of a parameter stands
abbrev pub offset_in : Option Row → ℕ
offset_in (Some r) = r.offset
offset_in None = 0

unfoldable pub offset_of : ℕ → ℕ
offset_of pnu = offset_in (find_of pnu)
