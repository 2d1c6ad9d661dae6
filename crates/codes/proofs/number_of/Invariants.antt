use Rattle.codes.specs.Code.{got, word}
use lib.ListN.{drop}
use mathlib.Core.Path.{◌≡◌}
use Rattle.codes.proofs.number_of.Given as goal

abbrev pub invariant-loop-b : goal.invariant-loop-b
invariant-loop-b l = (word l.b-index).read l.bytes ≡ got l.x (drop l.b-index l.bytes)
