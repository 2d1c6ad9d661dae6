-- What is left from `at` on is as long as they are.
use mathlib.Core.Path.{◌≡◌, sym, ◌∙◌}
use Prim.Native.Nat.{ℕ, ◌+◌, ◌-◌, ◌≤◌}
use native.Mathlib.Omega.{arith}
use lib.Dec.{eqb}
use borrow.Author.Tests.{eq-eqb, ne_eqb, eqb-true, eqb-false}
use borrow.Table.Steps.{cases}
use Rattle.std.specs.Prelude.{Option, Some, None}
use Rattle.std.specs.Option.{SomeIff, option_eq}
use Rattle.catalogue.specs.Table.{rows}
use Rattle.versions.specs.Layout.{last_at}
use Rattle.versions.proofs.within.stand_from.Goals as goal

left_is : (left : Option ℕ) (at n k : ℕ) → SomeIff left (at ≤ n) (n - at) → option_eq eqb left (Some k) ≡ eqb n (at + k)
left_is None at n k h = sym (ne_eqb n (at + k) (λ e. h (omega arith)))
left_is (Some x) at n k h =
    cases (eqb x k)
    (λ e. e ∙ sym (eq-eqb n (at + k) (omega (arith, h, eqb-true x k e))))
    (λ d. d ∙ sym (ne_eqb n (at + k) (λ e. eqb-false x k d (omega (arith, h)))))

pub returns : goal.returns
unfolding last_at rows
returns c = c.eq.ensures ∙ left_is _ _ _ _ c.checked_sub.ensures
