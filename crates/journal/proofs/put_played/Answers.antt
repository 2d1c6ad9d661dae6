-- By the kind of the record.
use mathlib.Core.Path.{sym, ap, ◌∙◌}
use native.Mathlib.Omega.{arith}
use borrow.Author.Rules.{rules}
use Rattle.std.specs.Prelude.{None}
use Rattle.journal.specs.Line.{cycle_call, frame_call, return_call, line_of}
use Rattle.journal.proofs.Lines.{frame_line_lem}
use Rattle.journal.proofs.Records.{comes_of, found}
use Rattle.journal.proofs.Pieces.{said, within}
use Rattle.journal.proofs.put_played.Goals as goal

pub cycle-done-requires : goal.cycle-done-requires
cycle-done-requires c = (found c.args.bytes.now c.args.station.now c.requires.0 c.in-Some-Cycle.is (rw c.in-Some-Cycle.is at c.in-Some-Cycle.field-0-is)).1

pub bounds-bytes-1 : goal.bounds-bytes-1
bounds-bytes-1 c = let long = (found c.args.bytes.now c.args.station.now c.requires.0 c.in-Some-Cycle.is (rw c.in-Some-Cycle.is at c.in-Some-Cycle.field-0-is)).1 in search rules

pub returns-in-Some-Cycle : goal.returns-in-Some-Cycle
returns-in-Some-Cycle c =
    let r = c.args.bytes.now in
    let e = (found r c.args.station.now c.requires.0 c.in-Some-Cycle.is (rw c.in-Some-Cycle.is at c.in-Some-Cycle.field-0-is)).0 in
    record {
      text_after = within (said c.put_cycle.ensures (e.line ∙ ap (line_of (cycle_call r)) (sym c.cycle-done.ensures.result_value))) (omega arith);
      station_after = c.cycle-done.ensures.station_after ∙ sym e.after;
    }

pub frame-f-requires : goal.frame-f-requires
frame-f-requires c = let e = found c.args.bytes.now c.args.station.now c.requires.0 c.in-Some-Frame.is (rw c.in-Some-Frame.is at c.in-Some-Frame.field-0-is) in (e.1, (e.2, (e.3, search rules)))

pub bounds-bytes-1-in-Some-Frame : goal.bounds-bytes-1-in-Some-Frame
bounds-bytes-1-in-Some-Frame c = let long = (found c.args.bytes.now c.args.station.now c.requires.0 c.in-Some-Frame.is (rw c.in-Some-Frame.is at c.in-Some-Frame.field-0-is)).1 in search rules

pub returns-in-Some-Frame : goal.returns-in-Some-Frame
returns-in-Some-Frame c =
    let r = c.args.bytes.now in
    let e = found r c.args.station.now c.requires.0 c.in-Some-Frame.is (rw c.in-Some-Frame.is at c.in-Some-Frame.field-0-is) in
    let line = ap (line_of (frame_call r)) (sym c.frame-f.ensures.reply_after) ∙ frame_line_lem r c.in-Some-Frame.merged c.frame-f.result c.frame-f.new.reply e.3 in
    record {
      text_after = said c.put_frame.ensures (e.0.line ∙ line);
      station_after = c.frame-f.ensures.station_after ∙ sym e.0.after;
    }

pub go_back-r-requires : goal.go_back-r-requires
go_back-r-requires c = (found c.args.bytes.now c.args.station.now c.requires.0 c.in-Some-Return.is (rw c.in-Some-Return.is at c.in-Some-Return.field-0-is)).1

pub bounds-bytes-1-in-Some-Return : goal.bounds-bytes-1-in-Some-Return
bounds-bytes-1-in-Some-Return c = let long = (found c.args.bytes.now c.args.station.now c.requires.0 c.in-Some-Return.is (rw c.in-Some-Return.is at c.in-Some-Return.field-0-is)).1 in search rules

pub returns-in-Some-Return : goal.returns-in-Some-Return
returns-in-Some-Return c =
    let r = c.args.bytes.now in
    let e = (found r c.args.station.now c.requires.0 c.in-Some-Return.is (rw c.in-Some-Return.is at c.in-Some-Return.field-0-is)).0 in
    record {
      text_after = within (said c.put_return.ensures (e.line ∙ ap (line_of (return_call r)) (sym c.go_back-r.ensures.result_value))) (omega arith);
      station_after = c.go_back-r.ensures.station_after ∙ sym e.after;
    }

pub returns-in-None : goal.returns-in-None
returns-in-None c =
    let e = comes_of c.args.bytes.now c.args.station.now None (sym c.in-None.is ∙ c.requires.0) in
    record { text_after = within (said c.put_bad.ensures e.line) (omega arith); station_after = sym e.after }
