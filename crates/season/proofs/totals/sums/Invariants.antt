-- The sums so far, none of which reaches 2^64.
use mathlib.Core.Path.{◌≡◌}
use lib.ListN.{take, drop}
use Rattle.season.specs.Season.{plus, reaches}
use Rattle.season.proofs.totals.sums.Given as goal

abbrev pub invariant-loop-i : goal.invariant-loop-i
invariant-loop-i l = (reaches (drop l.i (plus l.totals l.counts)) ≡ reaches (plus l.totals l.counts)) × (take l.i l.sum-items ≡ take l.i (plus l.totals l.counts))
