-- The write is a frame that is no read; where it is done, its response is handed over.
use Rattle.station.specs.Calls.{kinds, frame}
use Rattle.station.specs.Exchange.{fetch_all}
use Rattle.station.proofs.Answers.{lent}
use Rattle.station.proofs.Exchanges.{stops, home, lent_again, hands, ends}
use Rattle.station.proofs.exchange.Goals as goal

pub returns-then-written-ne0 : goal.returns-then-written-ne0
returns-then-written-ne0 c =
    let a = c.args in
    let w = c.frame-written in
    let e = rw c.without_read.ensures at w.ensures in
    let both = stops a.farm a.f.now a.reply.now a.station.now w.result w.new.reply w.new.station e.reply_after e.station_after c.if-written-ne0.true in record { reply_after = both.0; station_after = both.1 }

pub place_of-requires : goal.place_of-requires
place_of-requires c =
    let a = c.args in
    let w = c.frame-written in
    let e = rw c.without_read.ensures at w.ensures in
    let h = home a.farm a.f.now a.reply.now a.station.now w.result w.new.reply w.new.station e.reply_after e.station_after c.if-written-ne0.false in
    (h.low, h.high)

pub slice_bounds-read_on-end : goal.slice_bounds-read_on-end
slice_bounds-read_on-end c =
    let a = c.args in
    let w = c.frame-written in
    let e = rw c.without_read.ensures at w.ensures in
    (lent_again a.farm a.f.now a.reply.now a.station.now w.result w.new.reply w.new.station e.reply_after e.station_after c.if-written-ne0.false _ c.place_of.ensures).within

pub read_on-fetched-requires : goal.read_on-fetched-requires
read_on-fetched-requires c =
    let a = c.args in
    let w = c.frame-written in
    let e = rw c.without_read.ensures at w.ensures in
    let l = lent_again a.farm a.f.now a.reply.now a.station.now w.result w.new.reply w.new.station e.reply_after e.station_after c.if-written-ne0.false _ c.place_of.ensures in
    let h = hands a.farm a.f.now a.reply.now a.station.now w.result w.new.reply w.new.station e.reply_after e.station_after c.if-written-ne0.false in
    rw (lent kinds (frame a.farm fetch_all w.new.reply) w.new.station _ l) h

pub returns : goal.returns
returns c =
    let a = c.args in
    let w = c.frame-written in
    let e = rw c.without_read.ensures at w.ensures in
    let x = c.read_on-fetched in
    let l = lent_again a.farm a.f.now a.reply.now a.station.now w.result w.new.reply w.new.station e.reply_after e.station_after c.if-written-ne0.false _ c.place_of.ensures in
    let r = rw (lent kinds (frame a.farm fetch_all w.new.reply) w.new.station _ l) at x.ensures in
    let both = (ends a.farm a.f.now a.reply.now a.station.now w.result w.new.reply w.new.station e.reply_after e.station_after c.if-written-ne0.false _ c.place_of.ensures x.result x.new.reply x.new.part r.value r.reply_after r.part_after) in
    rw c.if-written-ne0.false (record { reply_after = both.0; station_after = both.1 })
