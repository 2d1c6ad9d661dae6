use mathlib.Core.Bool.{Bool, true, false, not, ◌||◌}
use mathlib.Core.Logic.{◌⊎◌, inl, inr}
use mathlib.Core.Path.{◌≡◌}
use Rattle.blocks.proofs.Turns.{met}
use Rattle.blocks.proofs.whole.Goals as goal

has : (need error : Bool) → (need ≡ false) ⊎ ((need ≡ true) × (error ≡ true)) → not need || error ≡ true
has need error (inl e) = rw e
has need error (inr p) = rw p.0 p.1

pub returns-then-error : goal.returns-then-error
returns-then-error c =
    let a = c.args in
    let r = c.in-Some.field-0 in
    rw c.in-Some.is (met a.s.now r a.need (rw c.in-Some.is at c.requires) (has a.need r.error c.if-error.either))
