-- The walk goes on over the blocks that are left, stops where none stands, and ends after the last.
use mathlib.Core.Path.{◌≡◌, refl, sym, ◌∙◌}
use Prim.Native.Nat.{◌-◌, ◌+◌}
use native.Mathlib.Omega.{arith}
use Rattle.blocks.proofs.Turns.{walk_starts, walk_stops, walk_goes_on, walk_ends}
use Rattle.blocks.proofs.blocks_end.Goals as goal

pub loop-init : goal.loop-init
loop-init g c =
    let a = c.args in
    let all : a.n - 0 ≡ a.n = omega arith in
    rw all (walk_starts (g.R.Rule.fits a.rule) a.s.now a.from a.n c.requires)

pub returns-in_err-head : goal.returns-in_err-head
returns-in_err-head g c =
    let a = c.args in
    let l = c.loop in
    rw c.from_residual.ensures (walk_stops (g.R.Rule.fits a.rule) a.s.now a.from a.n l.at (a.n - l.counter) l.error l.invariant (omega arith) (sym c.block_at.ensures ∙ c.in_err-head.was))

pub loop-preserved : goal.loop-preserved
loop-preserved g c =
    let a = c.args in
    let l = c.loop in
    let less : a.n - (l.counter + 1) ≡ a.n - l.counter - 1 = omega arith in
    rw less (walk_goes_on (g.R.Rule.fits a.rule) a.s.now a.from a.n l.at (a.n - l.counter) l.error l.invariant (omega arith) c.in_ok-head.head _ (sym c.block_at.ensures ∙ c.in_ok-head.was) refl)

pub returns : goal.returns
returns g c =
    let a = c.args in
    let l = c.loop in
    walk_ends (g.R.Rule.fits a.rule) a.s.now a.from a.n l.at (a.n - l.counter) l.error l.invariant (omega arith)
