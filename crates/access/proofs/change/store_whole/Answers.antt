-- All values are tested; then all are stored, or none.
use mathlib.Core.Path.{sym, ◌∙◌}
use native.Mathlib.Omega.{arith}
use Rattle.access.proofs.Storing.{whole_stored}
use Rattle.access.proofs.change.store_whole.Goals as goal

pub returns : goal.returns
returns c =
    let a = c.args in
    let t = c.all_inside in
    let m = c.store in
    whole_stored a.r a.i a.v.size a.v.count a.block.now a.v.at a.part.now m.new.part (omega arith) (sym (c.if-not-all_inside.false) ∙ t.ensures) m.ensures
