-- Word by word, each after those that are put.
use Rattle.codes.specs.Number.{put}
use Rattle.codes.specs.Code.{word, write_all}
use lib.ListN.{take}
use Rattle.catalogue.specs.Table.{offset_of}
use mathlib.Core.Path.{◌≡◌}
use Rattle.part.proofs.record.put_codes.Given as goal

abbrev pub invariant-loop-i : goal.invariant-loop-i
invariant-loop-i l = l.part ≡ put l.initial.part (offset_of 947) (write_all (word 2).write (take l.i l.fn.b))
