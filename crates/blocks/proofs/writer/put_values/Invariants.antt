-- Value by value, each after those that are put.
use Rattle.codes.specs.Code.{word, write_all}
use Rattle.codes.specs.Number.{put}
use lib.ListN.{take}
use mathlib.Core.Path.{◌≡◌}
use Rattle.blocks.proofs.writer.put_values.Given as goal

abbrev pub invariant-loop-j : goal.invariant-loop-j
invariant-loop-j l = l.out ≡ put l.initial.out l.at (write_all (word l.size).write (take l.j l.values))
