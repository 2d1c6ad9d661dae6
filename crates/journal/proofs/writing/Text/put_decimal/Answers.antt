-- Ten digits are enough.
use mathlib.Core.Path.{sym, ap, ◌∙◌}
use native.Mathlib.Omega.{arith}
use Rattle.journal.specs.Text.{decimal, decimal_in}
use Rattle.journal.proofs.Pieces.{said, decimal_enough}
use Rattle.journal.proofs.writing.Text.put_decimal.Goals as goal

pub returns : goal.returns
unfolding decimal
returns c = said c.put_decimal_in.ensures (decimal_enough 9 19 c.args.x (omega arith) (omega arith) ∙ ap (decimal_in 9) (sym c.from.ensures))
