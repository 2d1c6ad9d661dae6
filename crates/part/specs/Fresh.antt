-- Document 01, "Each axis starts in S1 with all fault situations empty" and the table's fresh values; document 02, R-7: no version is kept,
-- and a slot that is not in use holds the fresh settings.
use Rattle.std.specs.Prelude.{cond, List, [], ◌∷◌, ℕ, zero, suc, eqb, length, replicate}
use Rattle.codes.specs.Number.{put}
use Rattle.drive.specs.declared.states.State.TheVariants.{S1}
use Rattle.catalogue.specs.declared.Row.{Row}
use Rattle.catalogue.specs.Table.{rows}
use Rattle.catalogue.specs.Element.{put_element, fresh_of}
use Rattle.versions.specs.Keep.{filled_within}
use Rattle.part.specs.Layout.{state_at, versions_at, part_size}
use Rattle.drive.specs.States.{number_of}

-- the first n elements of a row at their fresh values
abbrev pub fresh_elements : Row → ℕ → List ℕ → List ℕ
fresh_elements r zero p = p
fresh_elements r (suc n) p = put_element r n (fresh_of r n) (fresh_elements r n p)

abbrev pub fresh_rows : List Row → List ℕ → List ℕ
fresh_rows [] p = p
fresh_rows (r ∷ rs) p = fresh_rows rs (fresh_elements r r.count p)

-- every byte 0 but for the table's fresh values and the state, and then the slots
unfoldable pub fresh_front : List ℕ
fresh_front = fresh_rows rows (put (replicate part_size 0) state_at (number_of S1 ∷ []))

unfoldable pub fresh_part : List ℕ
fresh_part = filled_within versions_at fresh_front

-- memory of another size is left as it is
unfoldable pub fresh_over : List ℕ → List ℕ
fresh_over p = cond (eqb (length p) part_size) fresh_part p
