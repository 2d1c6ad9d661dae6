-- Document 02, R-7, "A version is taken after every change that stores at least one element" and "go back to one, which stores all its
-- elements": a part's settings into a slot, and a slot's into the part's elements, row by row.
use Rattle.std.specs.Prelude.{cond, List, [], ◌∷◌, ◌++◌, ℕ, zero, suc, ◌+◌, eqb, length, take, drop}
use Rattle.codes.specs.Number.{put}
use Rattle.catalogue.specs.Table.{element_size}
use Rattle.catalogue.specs.Element.{element_of, put_element}
use Rattle.versions.specs.Low.{low_bytes}
use Rattle.versions.specs.declared.Columns.{Columns}
use Rattle.versions.specs.Layout.{columns, last_at, version_bytes, place_in, setting_in, last_used, slot_of, slots}

abbrev pub put_setting : Columns → ℕ → ℕ → ℕ → List ℕ → List ℕ
put_setting c e slot x v = put v (place_in c e slot) (low_bytes (element_size c.row.kind) x)

-- something done with each row's columns, one after the other
abbrev pub over_columns : (Columns → List ℕ → List ℕ) → List Columns → List ℕ → List ℕ
over_columns f [] v = v
over_columns f (c ∷ cs) v = over_columns f cs (f c v)

-- the first n elements of a row, from the part p into a slot
abbrev pub take_elements : Columns → ℕ → List ℕ → ℕ → List ℕ → List ℕ
take_elements c slot p zero v = v
take_elements c slot p (suc n) v = put_setting c n slot (element_of c.row n p) (take_elements c slot p n v)

abbrev pub take_columns : List Columns → ℕ → List ℕ → List ℕ → List ℕ
take_columns cs slot p v = over_columns (λ c. take_elements c slot p c.row.count) cs v

-- the part's settings as they are now become the next version
unfoldable pub taken : List ℕ → List ℕ → List ℕ
taken p v =
    cond (eqb (length v) version_bytes)
    (put (take_columns columns (slot_of (last_used v + 1)) p v) last_at (low_bytes 2 (last_used v + 1)))
    v

-- the first n elements of a row, from a slot into the part p
abbrev pub give_elements : Columns → ℕ → List ℕ → ℕ → List ℕ → List ℕ
give_elements c slot v zero p = p
give_elements c slot v (suc n) p = put_element c.row n (setting_in c n slot v) (give_elements c slot v n p)

abbrev pub give_columns : List Columns → ℕ → List ℕ → List ℕ → List ℕ
give_columns cs slot v p = over_columns (λ c. give_elements c slot v c.row.count) cs p

-- the part with the settings of version n
unfoldable pub restored : List ℕ → ℕ → List ℕ → List ℕ
restored v n p = cond (eqb (length v) version_bytes) (give_columns columns (slot_of n) v p) p

-- no version: every slot holds the settings of the part p, which is a fresh one
abbrev pub fill_slots : ℕ → List ℕ → List ℕ → List ℕ
fill_slots zero p v = v
fill_slots (suc n) p v = take_columns columns n p (fill_slots n p v)

unfoldable pub filled : List ℕ → List ℕ → List ℕ
filled p v = cond (eqb (length v) version_bytes) (put (fill_slots slots p v) last_at (low_bytes 2 0)) v

-- versions that stand in the part itself, from a place to its end
unfoldable pub taken_within : ℕ → List ℕ → List ℕ
taken_within at p = take at p ++ taken p (drop at p)

unfoldable pub filled_within : ℕ → List ℕ → List ℕ
filled_within at p = take at p ++ filled p (drop at p)

unfoldable pub restored_within : ℕ → ℕ → List ℕ → List ℕ
restored_within at n p = restored (drop at p) n p
