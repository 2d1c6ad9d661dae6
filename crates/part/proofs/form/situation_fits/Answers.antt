-- A code and those after it decide as the rule says.
use Rattle.part.proofs.Situations.{proper_zero, proper_other}
use Rattle.drive.specs.Faults.{proper}
use Rattle.std.proofs.lemmas.Iterator.{YieldsList-from_slice}
use Rattle.std.proofs.lemmas.Iterator.Search.{all_from_yields_List}
use Rattle.std.proofs.Common.{rules, tests}
use lib.Dec.{eqb}
use lib.ListN.{length, take, drop}
use Prim.Native.Nat.{ℕ, ◌+◌, ◌-◌}
use mathlib.Core.Bool.{Bool, not, ◌&&◌}
use mathlib.Core.Path.{sym, ◌∙◌, ap}
use Rattle.part.proofs.form.situation_fits.Goals as goal

pub returns-then-code-eq0 : goal.returns-then-code-eq0
returns-then-code-eq0 c =
    let s = c.args.s.now in
    let i = c.loop-i.i in
    all_from_yields_List (λ (x : ℕ). eqb x 0) _ _ c.all.result c.all.ensures.ran (YieldsList-from_slice (take (length s - (i + 1)) (drop (i + 1) s)) c.iter.ensures.rest) (λ x b q k. search (rules, tests))
    ∙ (proper_zero s i c.loop-i-test.true c.if-code-eq0.true ∙ sym c.loop-i.invariant)

pub returns-then-contains : goal.returns-then-contains
returns-then-contains c =
    let s = c.args.s.now in
    let i = c.loop-i.i in
    ap (λ (t : Bool). not t && proper (drop (i + 1) s)) (sym c.if-contains.true)
    ∙ sym (c.loop-i.invariant ∙ proper_other s i c.loop-i-test.true c.if-code-eq0.false c.contains.result c.contains.ensures.value)

pub loop-i-preserved : goal.loop-i-preserved
loop-i-preserved c =
    let s = c.args.s.now in
    let i = c.loop-i.i in
    c.loop-i.invariant
    ∙ (proper_other s i c.loop-i-test.true c.if-code-eq0.false c.contains.result c.contains.ensures.value
    ∙ ap (λ (t : Bool). not t && proper (drop (i + 1) s)) c.if-contains.false)
