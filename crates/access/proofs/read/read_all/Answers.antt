-- The loop's invariant: what is left to answer from where it stands is what was to be answered at first.
use native.Mathlib.Omega.{arith}
use mathlib.Core.Path.{◌∙◌, ap}
use Prim.Native.Nat.{◌+◌, ◌-◌}
use Rattle.blocks.specs.declared.reader.Address.{Address}
use Rattle.access.specs.Read.{read_block}
use Rattle.access.specs.Walk.{with_block}
use Rattle.blocks.specs.Place.{address_in}
use Rattle.access.proofs.Reading.{step_left, turn, finish}
use Rattle.access.proofs.read.read_all.Goals as goal

pub loop-after-preserved : goal.loop-after-preserved
loop-after-preserved c =
    let a = c.args in
    let l = c.loop-after in
    let o = c.read_one in
    let s = a.block.now in
    record {
      place = omega (arith, l.invariant.place, c.loop-after-test.true);
      answers =
          turn a.part.now s a.n a.reply.now l.reply l.at l.after (address_in s l.at) (l.at + 6) o.new.reply c.loop-after-test.true
          (step_left s l.at l.after c.loop-after-test.true l.invariant.answers.whole)
          (o.ensures ∙ ap (λ (x : Address). with_block (read_block a.part.now l.reply.next (l.after - 1) x) l.reply) c.address_of.ensures)
          l.invariant.answers;
    }

pub returns : goal.returns
returns c =
    let a = c.args in
    let l = c.loop-after in
    finish a.part.now a.block.now a.n a.reply.now l.reply l.at l.after (omega (arith, c.loop-after-test.false)) l.invariant.answers
