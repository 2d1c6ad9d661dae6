-- What a host is handed of an answer: all of it, but of a cycle not whether it acknowledged a situation and whether it entered S4.
use Rattle.std.specs.Prelude.{List, ℕ}
use Rattle.station.specs.declared.Cycled.{Cycled}
use Rattle.station.specs.declared.Framed.{Framed}
use Rattle.station.specs.declared.Listed.{Listed}
use Rattle.station.specs.declared.Returned.{Returned}
use Rattle.station.specs.Calls.{Answer, to_cycle, to_frame, to_list, to_return}

pub data Handed : Type 0 where
  of_cycle : Cycled → Handed
  of_frame : Framed → List ℕ → Handed
  of_list : Listed → Handed
  of_return : Returned → Handed

abbrev pub handed : Answer → Handed
handed (to_cycle c) = of_cycle c.told
handed (to_frame f reply) = of_frame f reply
handed (to_list l) = of_list l
handed (to_return r) = of_return r
