-- By the kind of the record.
use mathlib.Core.Path.{sym, ap, ◌∙◌}
use borrow.Author.Rules.{rules}
use Rattle.std.specs.Prelude.{None}
use Rattle.journal.specs.Line.{cycle_call, frame_call, return_call}
use Rattle.journal.specs.History.{acted_by}
use Rattle.journal.proofs.Lines.{frame_acted}
use Rattle.journal.proofs.Records.{comes_of, found}
use Rattle.journal.proofs.act.Goals as goal

pub returns-in_err-kind_of : goal.returns-in_err-kind_of
returns-in_err-kind_of c =
    let e = comes_of c.args.bytes.now c.args.station.now None (sym c.in_err-kind_of.was ∙ c.kind_of.ensures) in
    record { value = c.from_residual.ensures ∙ sym e.acted; station_after = sym e.after }

pub cycle-requires : goal.cycle-requires
cycle-requires c = (found c.args.bytes.now c.args.station.now c.kind_of.ensures c.in_ok-kind_of.was c.in-Cycle.is).1

pub bounds-bytes-1 : goal.bounds-bytes-1
bounds-bytes-1 c = let long = (found c.args.bytes.now c.args.station.now c.kind_of.ensures c.in_ok-kind_of.was c.in-Cycle.is).1 in search rules

pub returns-in-Cycle : goal.returns-in-Cycle
returns-in-Cycle c =
    let r = c.args.bytes.now in
    let e = (found r c.args.station.now c.kind_of.ensures c.in_ok-kind_of.was c.in-Cycle.is).0 in
    record { value = ap (acted_by (cycle_call r)) c.cycle.ensures.result_value ∙ sym e.acted; station_after = c.cycle.ensures.station_after ∙ sym e.after }

pub frame-f-requires : goal.frame-f-requires
frame-f-requires c =
    let e = found c.args.bytes.now c.args.station.now c.kind_of.ensures c.in_ok-kind_of.was c.in-Frame.is in (e.1, (e.2, (e.3, search rules)))

pub bounds-bytes-1-in-Frame : goal.bounds-bytes-1-in-Frame
bounds-bytes-1-in-Frame c =
    let long = (found c.args.bytes.now c.args.station.now c.kind_of.ensures c.in_ok-kind_of.was c.in-Frame.is).1 in search rules

pub returns-in-Frame : goal.returns-in-Frame
returns-in-Frame c =
    let r = c.args.bytes.now in
    let e = (found r c.args.station.now c.kind_of.ensures c.in_ok-kind_of.was c.in-Frame.is).0 in
    record {
      value = frame_acted r c.frame-f.result c.frame-f.new.reply ∙ (ap (acted_by (frame_call r)) c.frame-f.ensures.reply_after ∙ sym e.acted);
      station_after = c.frame-f.ensures.station_after ∙ sym e.after;
    }

pub go_back-requires : goal.go_back-requires
go_back-requires c = (found c.args.bytes.now c.args.station.now c.kind_of.ensures c.in_ok-kind_of.was c.in-Return.is).1

pub bounds-bytes-1-in-Return : goal.bounds-bytes-1-in-Return
bounds-bytes-1-in-Return c =
    let long = (found c.args.bytes.now c.args.station.now c.kind_of.ensures c.in_ok-kind_of.was c.in-Return.is).1 in search rules

pub returns-in-Return : goal.returns-in-Return
returns-in-Return c =
    let r = c.args.bytes.now in
    let e = (found r c.args.station.now c.kind_of.ensures c.in_ok-kind_of.was c.in-Return.is).0 in
    record { value = ap (acted_by (return_call r)) c.go_back.ensures.result_value ∙ sym e.acted; station_after = c.go_back.ensures.station_after ∙ sym e.after }
