-- The first j elements are gathered.
use mathlib.Core.Path.{◌∙◌, ap}
use Prim.Native.Nat.{ℕ, ◌+◌}
use native.Mathlib.Omega.{arith}
use lib.ListN.{set, take, length-set}
use Rattle.access.proofs.Gathered.{gather_next}
use Rattle.access.proofs.read.gather.Goals as goal

pub loop-j-preserved : goal.loop-j-preserved
loop-j-preserved c =
    let a = c.args in
    let l = c.loop-j in (
      simp length-set l.invariant.0,
      ap (λ (x : ℕ). take (l.j + 1) (set l.values l.j x)) c.element.ensures
          ∙ gather_next a.r a.part.now a.i l.j l.values (omega (arith, l.invariant.0, c.loop-j-test.true, c.requires)) l.invariant.1,
    )
