-- Each quarter has what the whole table has of the numbers that come to it.
use mathlib.Core.Path.{◌∙◌}
use native.Mathlib.Omega.{arith}
use lib.ListN.{drop}
use Rattle.catalogue.specs.Table.{rows, find_of}
use Rattle.catalogue.proofs.Sorted.{rows_sorted, sorted_drop, lower_half, upper_half}
use Rattle.catalogue.proofs.find.Goals as goal

pub returns-then-pnu-lt965 : goal.returns-then-pnu-lt965
unfolding find_of rows
returns-then-pnu-lt965 c =
    let pnu = c.args.pnu in
    c.first_quarter.ensures ∙ lower_half 3 rows rows_sorted pnu (omega arith)

pub returns-else-pnu-lt965 : goal.returns-else-pnu-lt965
unfolding find_of rows
returns-else-pnu-lt965 c =
    let pnu = c.args.pnu in
    c.second_quarter.ensures ∙ (lower_half 4 (drop 3 rows) (sorted_drop 3 rows rows_sorted) pnu (omega arith) ∙ upper_half 3 rows rows_sorted (omega arith) pnu (omega arith))

pub returns-then-pnu-lt30001 : goal.returns-then-pnu-lt30001
unfolding find_of rows
returns-then-pnu-lt30001 c =
    let pnu = c.args.pnu in
    c.third_quarter.ensures ∙ (lower_half 4 (drop 7 rows) (sorted_drop 7 rows rows_sorted) pnu (omega arith) ∙ upper_half 7 rows rows_sorted (omega arith) pnu (omega arith))

pub returns-else-pnu-lt30001 : goal.returns-else-pnu-lt30001
unfolding find_of rows
returns-else-pnu-lt30001 c =
    let pnu = c.args.pnu in
    c.last_quarter.ensures ∙ upper_half 11 rows rows_sorted (omega arith) pnu (omega arith)
