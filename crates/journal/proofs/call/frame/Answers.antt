-- No reply is longer than the largest frame.
use mathlib.Core.Path.{sym}
use mathlib.Core.Bool.{true, false}
use Rattle.station.proofs.Past.{past_stays}
use Rattle.journal.proofs.call.frame.Goals as goal

pub returns-then-merged-clause-length_bound : goal.returns-then-merged-clause-length_bound
returns-then-merged-clause-length_bound c = (past_stays true _ _ _ _ _ _ (sym c.exchange.ensures.reply_after)).0

pub returns-else-merged-clause-length_bound : goal.returns-else-merged-clause-length_bound
returns-else-merged-clause-length_bound c = (past_stays false _ _ _ _ _ _ (sym c.frame.ensures.reply_after)).0
