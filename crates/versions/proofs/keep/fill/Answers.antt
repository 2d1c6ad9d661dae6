-- The first i slots hold them.
use mathlib.Core.Path.{◌≡◌, refl, ◌∙◌, ap}
use mathlib.Core.List.{List}
use Prim.Native.Nat.{ℕ}
use native.Mathlib.Omega.{arith}
use native.Mathlib.Numerals.{add-one}
use Rattle.codes.specs.Number.{put}
use Rattle.catalogue.specs.Table.{rows}
use Rattle.versions.specs.Low.{low_bytes}
use Rattle.versions.specs.Layout.{last_at}
use Rattle.versions.specs.Keep.{fill_slots}
use Rattle.versions.proofs.Bytewise.{put_within}
use Rattle.versions.proofs.Slots.{filled_alone, filled_is}
use Rattle.versions.proofs.keep.fill.Goals as goal

pub returns-in_default : goal.returns-in_default
unfolding last_at rows
returns-in_default c = let a = c.args in filled_alone a.part.now a.v.now c.in_default.ensures.cases

pub loop-at-preserved : goal.loop-at-preserved
loop-at-preserved c = c.take_rows.ensures ∙ rw (add-one c.loop-at.at, c.loop-at.invariant) refl

pub returns : goal.returns
unfolding last_at rows
returns c =
    let a = c.args in
    let l = c.loop-at in
    let whole = c.in-Some.ensures.cases in
    let e : l.at ≡ 16 = omega arith in
    put_within l.v c.put_number.new.bytes 640 642 _ 2 0 (omega arith) (omega arith) (omega arith) refl c.put_number.ensures
    ∙ (ap (λ (x : List ℕ). put x last_at (low_bytes 2 0)) (l.invariant ∙ (ap (λ (k : ℕ). fill_slots k a.part.now c.in-Some.v.now) e ∙ ap (fill_slots 16 a.part.now) whole.same))
    ∙ filled_is a.part.now a.v.now whole.long)
