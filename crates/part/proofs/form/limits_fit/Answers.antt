-- All elements of a row that is asked are inside.
use Rattle.part.proofs.Every.{unasked, asked_all}
use Rattle.part.specs.WellFormed.{limits_fit}
use Rattle.catalogue.specs.Element.{inside, element_of}
use Rattle.std.proofs.lemmas.Iterator.{YieldsList-from_range}
use Rattle.std.proofs.lemmas.Iterator.Search.{all_from_yields_List}
use Rattle.std.proofs.Common.{rules, tests}
use Prim.Native.Nat.{ℕ}
use mathlib.Core.Path.{refl, ◌∙◌}
use native.Mathlib.Omega.{arith}
use Rattle.part.proofs.form.limits_fit.Goals as goal

pub returns-then-not-r : goal.returns-then-not-r
unfolding limits_fit
returns-then-not-r c =
    let a = c.args in
    unasked (λ (i : ℕ). inside a.r (element_of a.r i a.part.now)) a.r.writable a.r.count c.if-not-r.true

pub returns-else-not-r : goal.returns-else-not-r
unfolding limits_fit
returns-else-not-r c =
    let a = c.args in
    all_from_yields_List (λ (i : ℕ). inside a.r (element_of a.r i a.part.now)) _ _ c.all.result c.all.ensures.ran (YieldsList-from_range 0 a.r.count a.r.count refl (omega arith)) (λ x b q k. search (rules, tests))
    ∙ asked_all (λ (i : ℕ). inside a.r (element_of a.r i a.part.now)) a.r.writable a.r.count c.if-not-r.false
