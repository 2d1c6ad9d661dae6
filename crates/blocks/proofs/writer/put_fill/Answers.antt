-- One byte or none.
use Rattle.codes.proofs.Put.{put_none, sets_put}
use mathlib.Core.Path.{◌≡◌, sym}
use mathlib.Core.List.{[], ◌∷◌}
use native.Mathlib.Omega.{arith}
use Rattle.blocks.proofs.writer.put_fill.Goals as goal

pub returns-then-fill-eq1 : goal.returns-then-fill-eq1
returns-then-fill-eq1 c = let a = c.args in rw c.if-fill-eq1.true (sets_put a.out.now a.at (0 ∷ []) (omega arith))

pub returns-else-fill-eq1 : goal.returns-else-fill-eq1
returns-else-fill-eq1 c =
    let a = c.args in
    let none : a.fill ≡ 0 = omega arith in
    rw none (sym (put_none a.out.now a.at))
