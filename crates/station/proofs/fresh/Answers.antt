-- Part after part, each made fresh after those that are.
use mathlib.Core.Path.{◌≡◌, refl, ◌∙◌}
use Prim.Native.Nat.{◌+◌, ◌-◌, ◌*◌}
use native.Mathlib.Omega.{arith}
use lib.ListN.{length, take, drop, length-take, length-drop}
use borrow.Author.Tests.{eq-eqb, ne_eqb}
use Rattle.catalogue.specs.Table.{rows, parameter_bytes}
use Rattle.versions.specs.Layout.{last_at}
use Rattle.part.specs.Layout.{part_size}
use Rattle.station.specs.Parts.{farms, station_size, fresh_number, fresh_station}
use Rattle.station.proofs.FreshParts.{made, next_part, all_made}
use Rattle.station.proofs.fresh.Goals as goal

pub returns-then-station-ne-STATION : goal.returns-then-station-ne-STATION
unfolding fresh_number fresh_station parameter_bytes rows last_at
returns-then-station-ne-STATION c = rw (ne_eqb _ _ c.if-station-ne-STATION.true) (record { value = refl; done = λ n. absurd (c.if-station-ne-STATION.true n); station_after = refl })

pub loop-i-preserved : goal.loop-i-preserved
unfolding parameter_bytes rows last_at
loop-i-preserved c =
    let l = c.loop-i in
    let f = c.fresh in
    let n : length (take (l.i * part_size + part_size - l.i * part_size) (drop (l.i * part_size) l.station)) ≡ part_size = simp (length-take, length-drop) (omega arith) in
    next_part l.i l.station f.new.part (omega arith) (f.auto.part ∙ n) (f.ensures ∙ made _ n) l.invariant

pub returns : goal.returns
unfolding fresh_number fresh_station parameter_bytes rows last_at
returns c =
    let l = c.loop-i in
    let n : length c.args.station.now ≡ station_size = c.if-station-ne-STATION.false in
    let e : l.i ≡ farms = omega arith in
    rw (eq-eqb _ _ n) (record { value = refl; done = λ n. refl; station_after = all_made l.station (l.auto.station ∙ n) (rw e at l.invariant) })
