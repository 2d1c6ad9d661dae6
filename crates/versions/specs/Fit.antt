-- Document 02, R-7, "number 2 also tests that they lie inside the limits": every element of every slot; a slot not yet in use holds fresh
-- settings. That the numbers rise by 1 to the last used is so for every list (`NumbersRise`), and leaves nothing to test.
use Rattle.std.specs.Prelude.{Bool, true, ◌&&◌, List, [], ◌∷◌, ℕ, zero, suc, ◌*◌, eqb, length, drop}
use Rattle.catalogue.specs.Table.{element_size}
use Rattle.catalogue.specs.Element.{inside}
use Rattle.versions.specs.Low.{low_number}
use Rattle.versions.specs.declared.Columns.{Columns}
use Rattle.versions.specs.Layout.{columns, slots, version_bytes}

-- a test of n numbers of w bytes, one after the other
abbrev pub every_number : ℕ → (ℕ → Bool) → ℕ → List ℕ → Bool
every_number w ok zero bs = true
every_number w ok (suc n) bs = ok (low_number w bs 0) && every_number w ok n (drop w bs)

abbrev pub every_columns : (Columns → Bool) → List Columns → Bool
every_columns ok [] = true
every_columns ok (c ∷ cs) = ok c && every_columns ok cs

unfoldable pub columns_fit : List ℕ → Columns → Bool
columns_fit v c = every_number (element_size c.row.kind) (inside c.row) (c.row.count * slots) (drop c.at v)

unfoldable pub versions_fit : List ℕ → Bool
versions_fit v = eqb (length v) version_bytes && every_columns (columns_fit v) columns
