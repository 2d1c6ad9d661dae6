-- The rows up to 10103 take whatever stands there; the others are looked at in their order.
use Rattle.part.proofs.Every.{limited_rows}
use Rattle.part.specs.WellFormed.{limits_fit}
use Rattle.catalogue.specs.Table.{rows, row_at}
use Rattle.std.proofs.Common.{rules, tests}
use mathlib.Core.Bool.{◌&&◌}
use mathlib.Core.Path.{◌≡◌, ◌∙◌}
use Rattle.part.proofs.form.limited_rows_fit.Goals as goal

pub returns-then-limits_fit-4 : goal.returns-then-limits_fit-4
unfolding rows row_at
returns-then-limits_fit-4 c =
    let p = c.args.part.now in
    let five : c.limits_fit-then-limits_fit-4.result ≡ (limits_fit p (row_at 10) && limits_fit p (row_at 11) && limits_fit p (row_at 12) && limits_fit p (row_at 13) && limits_fit p (row_at 14)) = search (rules, tests) in
    five ∙ limited_rows p

pub returns-else-limits_fit-4 : goal.returns-else-limits_fit-4
unfolding rows row_at
returns-else-limits_fit-4 c =
    let p = c.args.part.now in
    let five : c.if-limits_fit-3.value ≡ (limits_fit p (row_at 10) && limits_fit p (row_at 11) && limits_fit p (row_at 12) && limits_fit p (row_at 13) && limits_fit p (row_at 14)) = search (rules, tests) in
    five ∙ limited_rows p
