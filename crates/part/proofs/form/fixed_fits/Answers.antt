-- All elements of a row that is asked are as fresh.
use Rattle.part.proofs.Every.{unasked, asked_all}
use Rattle.part.specs.WellFormed.{fixed_fit}
use Rattle.catalogue.specs.Element.{element_of, fresh_of}
use Rattle.std.proofs.lemmas.Iterator.{YieldsList-from_range}
use Rattle.std.proofs.lemmas.Iterator.Search.{all_from_yields_List}
use Rattle.std.proofs.Common.{rules, tests}
use Rattle.std.proofs.lemmas.Bool.Decides.{nat_tests}
use lib.Dec.{eqb}
use Prim.Native.Nat.{ℕ}
use native.Mathlib.Omega.{arith}
use mathlib.Core.Bool.{not, ◌||◌}
use mathlib.Core.Path.{◌≡◌, refl, sym, ◌∙◌, ap}
use Rattle.part.proofs.form.fixed_fits.Goals as goal
use Rattle.part.proofs.form.fixed_fits.Goals.{then-r-eq930, else-r-eq930}

pub returns-then-not-is_fixed : goal.returns-then-not-is_fixed
unfolding fixed_fit
returns-then-not-is_fixed c =
    let a = c.args in
    let asked : (eqb a.r.pnu 930 || eqb a.r.pnu 965) ≡ c.if-r-eq930.is_fixed = search (rules, tests) in
    ap not (sym asked) ∙ unasked (λ (i : ℕ). eqb (element_of a.r i a.part.now) (fresh_of a.r i)) (eqb a.r.pnu 930 || eqb a.r.pnu 965) a.r.count (asked ∙ c.if-not-is_fixed.true)

pub returns-else-not-is_fixed : goal.returns-else-not-is_fixed
unfolding fixed_fit
returns-else-not-is_fixed c =
    let a = c.args in
    let asked : (eqb a.r.pnu 930 || eqb a.r.pnu 965) ≡ c.if-r-eq930.is_fixed = grind (arith, nat_tests) in
    all_from_yields_List (λ (i : ℕ). eqb (element_of a.r i a.part.now) (fresh_of a.r i)) _ _ c.all.result c.all.ensures.ran (YieldsList-from_range 0 a.r.count a.r.count refl (omega arith)) (λ x b q k. search (rules, tests))
    ∙ asked_all (λ (i : ℕ). eqb (element_of a.r i a.part.now) (fresh_of a.r i)) (eqb a.r.pnu 930 || eqb a.r.pnu 965) a.r.count (asked ∙ c.if-not-is_fixed.false)
