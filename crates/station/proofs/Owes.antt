-- What every kind of call owes, each shown in its own file; so the station's calls are isolated, and keep its size and the parts of others.
use Rattle.station.specs.Isolation.{Sized}
use Rattle.station.specs.Calls.{cycle, frame, exchange, list, go_back, kinds}
use Rattle.station.specs.Owed.{EveryKindOwes}
use Rattle.station.specs.Laws.{IsolatedStation, KeepsSize, KeepsOthers}
use Rattle.station.proofs.CycleOwes.{cycle_owes}
use Rattle.station.proofs.FrameOwes.{frame_owes}
use Rattle.station.proofs.ExchangeOwes.{exchange_owes}
use Rattle.station.proofs.VersionsOwes.{list_owes, return_owes}
use Rattle.station.proofs.Isolation.{length_after, other, isolated}

pub owes : EveryKindOwes
owes (cycle axis i) = cycle_owes axis i
owes (frame farm f m) = frame_owes farm f m
owes (exchange farm f m) = exchange_owes farm f m
owes (list farm) = list_owes farm
owes (go_back farm n) = return_owes farm n

pub sized : Sized kinds
unfolding Sized
sized c = (owes c).sized

pub isolated_station : IsolatedStation
isolated_station = isolated kinds sized

pub keeps_size : KeepsSize
keeps_size = length_after kinds sized

pub keeps_others : KeepsOthers
keeps_others c s size k low high = other kinds sized c s k (record { low = low; high = high; size = size })
