-- One element more, in its place.
use mathlib.Core.Path.{refl, ◌∙◌}
use Prim.Native.Nat.{◌+◌}
use native.Mathlib.Omega.{arith}
use Rattle.versions.proofs.Bytewise.{put_within}
use Rattle.versions.proofs.Slots.{take_next}
use Rattle.versions.proofs.Columns.take.Goals as goal

pub loop-e-preserved : goal.loop-e-preserved
loop-e-preserved c =
    let a = c.args in
    let l = c.loop-e in
    put_within l.v c.put_number.new.bytes c.place_of-at.result (c.place_of-at.result + c.element_size-size.result) _ c.element_size-size.result c.element.result (omega arith) (omega arith) (omega arith) refl c.put_number.ensures
    ∙ rw (c.place_of-at.ensures.0, c.element_size-size.ensures, c.element.ensures, l.invariant) (take_next a.self a.slot.at a.part.now a.v.now l.e)
