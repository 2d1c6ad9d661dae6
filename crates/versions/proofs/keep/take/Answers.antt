-- The settings, and then the number.
use mathlib.Core.Path.{refl, ◌∙◌, ap}
use mathlib.Core.List.{List}
use Prim.Native.Nat.{ℕ, ◌+◌}
use native.Mathlib.Omega.{arith}
use Rattle.codes.specs.Number.{put}
use Rattle.catalogue.specs.Table.{rows}
use Rattle.versions.specs.Low.{low_bytes}
use Rattle.versions.specs.Layout.{last_at}
use Rattle.versions.proofs.Bytewise.{put_within}
use Rattle.versions.proofs.Slots.{taken_alone, taken_is}
use Rattle.versions.proofs.keep.take.Goals as goal

pub returns-in_default : goal.returns-in_default
unfolding last_at rows
returns-in_default c = let a = c.args in taken_alone a.part.now a.v.now c.in_default.ensures.cases

pub returns : goal.returns
unfolding last_at rows
returns c =
    let a = c.args in
    let whole = c.in-Some.ensures.cases in
    let last = c.last_used-last in
    let v = c.take_rows.new.v in
    put_within v c.put_number.new.bytes 640 642 _ 2 (c.from-2.result + 1) (omega arith) (omega arith) (omega arith) refl c.put_number.ensures
    ∙ (ap (λ (l : List ℕ). put l last_at (low_bytes 2 (c.from-2.result + 1))) c.take_rows.ensures
    ∙ rw (c.from.ensures, c.from-2.ensures, whole.same) (taken_is a.part.now a.v.now whole.long last.result (rw whole.same at last.ensures)))
