-- Document 02, R-7, "Keep, for each farm, the last 16 versions of its writable elements": which elements are settings, and where each stands
-- in each of the 16 slots. An element is a column of 16 numbers, low byte first, one for each slot; the columns stand in the order of the
-- table; after them stands the last number used.
use Rattle.std.specs.Prelude.{Bool, cond, List, [], ◌∷◌, ℕ, ◌+◌, ◌-◌, ◌*◌, ◌%◌, min, eqb, length}
use Rattle.catalogue.specs.declared.Row.{Row}
use Rattle.catalogue.specs.Table.{element_size, bytes_of, rows}
use Rattle.versions.specs.declared.Columns.{Columns}
use Rattle.versions.specs.Low.{low_number}

-- "its writable elements"
abbrev pub is_setting : Row → Bool
is_setting r = r.writable

abbrev pub slots : ℕ
slots = 16

abbrev pub columns_of : Row → ℕ
columns_of r = slots * bytes_of r

abbrev pub columns_from : ℕ → List Row → List Columns
columns_from at [] = []
columns_from at (r ∷ rs) = cond (is_setting r) (record { row = r; at = at } ∷ columns_from (at + columns_of r) rs) (columns_from at rs)

unfoldable pub columns : List Columns
columns = columns_from 0 rows

-- the bytes that they all take
abbrev pub column_bytes : List Row → ℕ
column_bytes [] = 0
column_bytes (r ∷ rs) = cond (is_setting r) (columns_of r) 0 + column_bytes rs

-- how many settings there are
abbrev pub count_of : List Columns → ℕ
count_of [] = 0
count_of (c ∷ cs) = c.row.count + count_of cs

unfoldable pub setting_count : ℕ
setting_count = count_of columns

unfoldable pub last_at : ℕ
last_at = column_bytes rows

-- the bytes of a farm's versions
abbrev pub version_bytes : ℕ
version_bytes = last_at + 2

-- where element e of a slot stands, and what stands there
abbrev pub place_in : Columns → ℕ → ℕ → ℕ
place_in c e slot = c.at + (e * slots + slot) * element_size c.row.kind

abbrev pub setting_in : Columns → ℕ → ℕ → List ℕ → ℕ
setting_in c e slot v = low_number (element_size c.row.kind) v (place_in c e slot)

-- the last number used; 0: none is, or these are no versions
unfoldable pub last_used : List ℕ → ℕ
last_used v = cond (eqb (length v) version_bytes) (low_number 2 v last_at) 0

-- "the last 16 versions": how many are kept, and the oldest of them; with none, the number to come
abbrev pub kept_count : List ℕ → ℕ
kept_count v = min slots (last_used v)

abbrev pub oldest : List ℕ → ℕ
oldest v = last_used v - kept_count v + 1

-- version n stands in slot (n - 1) mod 16
abbrev pub slot_of : ℕ → ℕ
slot_of n = (n - 1) % slots
