-- The loop's invariant: what is left to store from where it stands is what was to be stored at first.
use mathlib.Core.Path.{◌≡◌}
use Prim.Native.Nat.{◌+◌, ◌-◌}
use native.Mathlib.Omega.{arith}
use Rattle.access.proofs.Storing.{store_next}
use Rattle.access.proofs.change.store_each.Goals as goal

pub loop-to-preserved : goal.loop-to-preserved
loop-to-preserved c =
    let a = c.args in
    let l = c.loop-to in
    let left = a.i + a.v.count - l.to in
    let one_less : a.i + a.v.count - (l.to + 1) ≡ left - 1 = omega arith in
    rw one_less
    (store_next a.r a.v.size a.v.count a.block.now a.v.at a.i a.part.now l.part l.at l.to left l.invariant c.number_at.result c.put_element.new.part
    (omega (arith, c.loop-to-test.true)) c.number_at.ensures c.put_element.ensures c.put_element.auto.part)
