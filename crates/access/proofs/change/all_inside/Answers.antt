-- The loop's invariant: what is left to test from where it stands decides as all of them do.
use mathlib.Core.Path.{◌≡◌, sym, ◌∙◌}
use Prim.Native.Nat.{◌+◌, ◌-◌}
use native.Mathlib.Omega.{arith}
use mir.Syntax.{w32}
use mir.ValLaws.{to_z-of_z}
use Rattle.access.proofs.Valued.{value_inside}
use Rattle.access.proofs.Storing.{test_next, test_stop}
use Rattle.access.proofs.change.all_inside.Goals as goal

pub returns-then-not-is_within : goal.returns-then-not-is_within
returns-then-not-is_within c =
    let a = c.args in
    let l = c.loop in
    let x = c.value_here in
    let t = c.is_within in
    let value = to_z-of_z w32 x.result (record { sfits = x.type_inv }) in
    let same = value_inside a.r a.v.size a.block.now l.at x.result t.result c.requires.1 x.ensures (rw value at t.ensures) in
    test_stop a.r a.v.size a.v.count a.block.now a.v.at l.at (a.v.count - l.counter) l.invariant (omega (arith, c.loop-test.true)) (sym same ∙ c.if-not-is_within.true)

pub loop-preserved : goal.loop-preserved
loop-preserved c =
    let a = c.args in
    let l = c.loop in
    let x = c.value_here in
    let t = c.is_within in
    let value = to_z-of_z w32 x.result (record { sfits = x.type_inv }) in
    let same = value_inside a.r a.v.size a.block.now l.at x.result t.result c.requires.1 x.ensures (rw value at t.ensures) in
    let one_less : a.v.count - (l.counter + 1) ≡ a.v.count - l.counter - 1 = omega arith in
    rw one_less (test_next a.r a.v.size a.v.count a.block.now a.v.at l.at (a.v.count - l.counter) l.invariant (omega (arith, c.loop-test.true)) (sym same ∙ c.if-not-is_within.false))
