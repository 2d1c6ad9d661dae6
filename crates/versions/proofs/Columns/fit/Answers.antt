-- One number more, and none left.
use mathlib.Core.Path.{◌≡◌, ◌∙◌, ap}
use Prim.Native.Nat.{ℕ, ◌*◌, ◌+◌, ◌-◌}
use Rattle.versions.proofs.Fits.{run_begins, run_step, run_over}
use native.Mathlib.Omega.{arith}
use mathlib.Core.List.{[], ◌∷◌}
use lib.ListN.{length-append, take, drop, length-drop}
use Rattle.std.specs.declared.slice.ChunksExact.{ChunksExact}
use Rattle.catalogue.specs.Table.{element_size}
use Rattle.catalogue.specs.Element.{inside}
use Rattle.versions.specs.Fit.{columns_fit}
use Rattle.versions.proofs.Columns.fit.Goals as goal

pub loop-number-init : goal.loop-number-init
loop-number-init c =
    let a = c.args in
    let r = a.self.row in
    let z = c.element_size-size.ensures in
    let same = c.into_iter-number-iterator.ensures.into_iter_gives in
    let rest : c.into_iter-number-iterator.result.rest.now ≡ take (a.self.at + c.from.result * 16 * c.element_size-size.result - a.self.at) (drop a.self.at a.v.now) = rw same c.chunks_exact-number-items.ensures.rest in
    let long : a.self.at + c.from.result * 16 * c.element_size-size.result - a.self.at ≡ r.count * 16 * element_size r.kind = rw (c.from.ensures, z) (omega arith) in
    let all = run_begins (element_size r.kind) (inside r) (r.count * 16) _ (drop a.self.at a.v.now) _ long (omega (arith, long, c.requires, c.type_inv.v, length-drop a.self.at a.v.now)) rest in
    record {
      by_size = ap (λ (s : ChunksExact ℕ). s.size) same ∙ (c.chunks_exact-number-items.ensures.size ∙ z);
      length_left = all.0;
      all_fit = all.1;
    }

pub loop-number-preserved : goal.loop-number-preserved
loop-number-preserved c =
    let r = c.args.self.row in
    let step = c.in-Some.ensures.steps in
    let i = c.loop-number.invariant in
    let next = run_step (element_size r.kind) (inside r) _ _ _ _ _ _ _ (omega (arith, c.loop-number.iterator)) (omega (arith, length-append c.loop-number.yielded (c.in-Some.number ∷ []))) (step.1.1 ∙ i.by_size) step.1.0 i.length_left i.all_fit in
    record {
      by_size = step.0 ∙ i.by_size;
      length_left = next.0;
      all_fit = rw (c.is_inside-all.ensures, c.number_of.ensures) next.1;
    }

pub returns : goal.returns
unfolding columns_fit
returns c =
    let r = c.args.self.row in
    let step = c.in-None.ensures.steps in
    let i = c.loop-number.invariant in
    run_over (element_size r.kind) (inside r) _ _ _ _ (rw i.by_size at step.1.0) i.length_left i.all_fit
