-- The loop's invariant: what is left to do from where it stands is what was to be done at first.
use mathlib.Core.Path.{◌≡◌}
use Prim.Native.Nat.{◌+◌, ◌-◌, ◌<◌}
use native.Mathlib.Omega.{arith}
use Rattle.access.proofs.Reading.{step_left}
use Rattle.blocks.specs.Place.{address_in}
use Rattle.access.proofs.Changing.{block_left, turn, finish}
use Rattle.access.proofs.change.change_all.Goals as goal

pub head_here-h-requires : goal.head_here-h-requires
head_here-h-requires c =
    let l = c.loop in
    block_left c.args.block.now l.from (c.args.n - l.counter) (omega (arith, c.loop-test.true)) l.invariant.changes.valued

pub loop-preserved : goal.loop-preserved
loop-preserved c =
    let a = c.args in
    let l = c.loop in
    let h = c.head_here-h in
    let d = c.change_one-d in
    let w = c.put_answer in
    let left = a.n - l.counter in
    let more : 0 < left = omega (arith, c.loop-test.true) in
    let step = step_left a.block.now l.at left more l.invariant.changes.whole in
    let one_less : a.n - (l.counter + 1) ≡ left - 1 = omega arith in
    record {
      place = omega (arith, l.invariant.place);
      changes =
          rw (one_less, c.unwrap_or-stored.ensures)
          (turn a.block.now a.n a.part.now l.part a.reply.now l.reply l.at l.from l.stored left (address_in a.block.now l.at) (l.at + 6) h.result d.new.part d.result w.new.reply more step h.ensures (rw (← c.address_of.ensures) d.ensures) d.auto.part w.ensures l.invariant.changes);
    }

pub returns : goal.returns
returns c =
    let a = c.args in
    let l = c.loop in
    finish a.block.now a.n a.part.now l.part a.reply.now l.reply l.at l.from l.stored (a.n - l.counter) (omega arith) l.invariant.changes
