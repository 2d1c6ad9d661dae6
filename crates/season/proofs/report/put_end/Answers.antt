-- `x`, and the number of what ended it.
use mathlib.Core.Path.{◌≡◌, ap, ◌∙◌}
use lib.Dec.{lit≤}
use Rattle.std.specs.Prelude.{Err}
use Rattle.season.specs.declared.Stop.TheVariants.{Over}
use Rattle.journal.specs.Text.{decimal}
use Rattle.journal.proofs.Pieces.{fitted}
use Rattle.season.proofs.report.put_end.Goals as goal

pub returns-in-Err-Over : goal.returns-in-Err-Over
unfolding decimal
returns-in-Err-Over c =
    let e : c.args.last ≡ Err Over = c.in-Err-Over.is ∙ ap Err (rw c.in-Err-Over.is at c.in-Err-Over.field-0-is) in rw e (fitted 5 c.put_bytes-in-Err-Over.ensures (lit≤ tt) c.requires)
