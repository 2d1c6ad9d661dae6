-- All cleared, the state put, the rows made fresh, and the slots filled.
use Rattle.part.proofs.FreshLaws.{left_alone, made_fresh}
use Rattle.part.specs.Fresh.{fresh_rows}
use Rattle.versions.specs.Keep.{filled_within}
use Rattle.part.specs.Layout.{versions_at}
use Rattle.catalogue.specs.Table.{rows, parameter_bytes}
use Rattle.versions.specs.Layout.{last_at}
use mathlib.Core.Path.{◌∙◌, ap}
use Rattle.part.proofs.start.fresh.Goals as goal

pub returns-then-part-ne-SIZE : goal.returns-then-part-ne-SIZE
unfolding parameter_bytes rows last_at
returns-then-part-ne-SIZE c = left_alone c.args.part.now c.if-part-ne-SIZE.true

pub returns : goal.returns
unfolding parameter_bytes rows last_at
returns c =
    let n = c.from-2 in
    c.fill_within.ensures
    ∙ (ap (filled_within versions_at) (c.fresh_rows.ensures ∙ ap (fresh_rows rows) c.put_number.ensures)
    ∙ made_fresh c.args.part.now n.result c.if-part-ne-SIZE.false (n.ensures ∙ c.from.ensures) c.fill.new.self (c.fill.ensures.after (λ y z. z)))
