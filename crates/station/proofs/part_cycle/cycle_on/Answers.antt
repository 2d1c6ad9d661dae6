-- A quiet cycle, and any other that is done.
use mathlib.Core.Path.{◌≡◌, sym, ap, ap₂, ◌∙◌}
use mathlib.Core.Bool.{false, not}
use Rattle.codes.proofs.Fixed.{Bytes}
use Rattle.drive.specs.declared.CycleEnd.{CycleEnd}
use Rattle.drive.specs.Cycle.{cycle_of}
use Rattle.drive.specs.Motion.{with_faults, moved_of, quiet_of}
use Rattle.part.specs.Record.{drive_of, put_motion, put_drive}
use Rattle.station.specs.Cycle.{input_of, cycled}
use Rattle.station.proofs.Cycles.{loaded_whole, cycles, quiet_cycles}
use borrow.Author.Rules.{rules}
use Rattle.station.proofs.part_cycle.cycle_on.Goals as goal

pub returns-then-is_quiet : goal.returns-then-is_quiet
returns-then-is_quiet c =
    let a = c.args in
    let bytes : Bytes a.part.now = λ n. search rules in
    let input = c.input_of-input.ensures in
    let motion = c.load_motion-motion.ensures in
    let empty = c.has_no_fault-empty.ensures in
    let quiet = sym (c.is_quiet.ensures ∙ (λ j. quiet_of (motion j).word (empty j) (input j))) ∙ c.if-is_quiet.true in
    let o = quiet_cycles a.k a.sent a.part.now (sym c.well_formed-2.ensures ∙ c.if-not-well_formed.false) c.if-sent-gt3.false bytes quiet in
    let e = c.quiet_cycle.ensures in record { value = e.value ∙ ((λ j. cycled (moved_of (motion j) (not (empty j)) false (input j)).output) ∙ o.0); part_after = e.part_after ∙ ((λ j. put_motion (moved_of (motion j) (not (empty j)) false (input j)).motion a.part.now) ∙ o.1) }

pub returns : goal.returns
returns c =
    let a = c.args in
    let o = cycles a.k a.sent a.part.now (sym c.well_formed-2.ensures ∙ c.if-not-well_formed.false) c.if-sent-gt3.false in
    let e : c.cycle_lent-done.result ≡ cycle_of (drive_of a.part.now) (input_of a.sent a.part.now) = c.cycle_lent-done.ensures ∙ ap₂ cycle_of (c.with_faults-before.ensures ∙ (ap₂ with_faults c.load_motion-motion.ensures c.load_faults.ensures ∙ loaded_whole a.part.now)) c.input_of-input.ensures in
    record { value = c.answered.ensures ∙ (ap (λ (x : CycleEnd). cycled x.output) e ∙ o.0); part_after = c.store.ensures ∙ (ap (λ (x : CycleEnd). put_drive x.drive a.part.now) e ∙ o.1) }
