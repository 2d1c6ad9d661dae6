-- No such farm, a sum that reaches 2^64, and sums that do not.
use mathlib.Core.Path.{ap, ◌∙◌}
use Prim.Native.Nat.{ℕ, ◌+◌, ◌-◌, ◌*◌}
use native.Mathlib.Omega.{arith}
use borrow.Rule.Slice.PartMut.{put_same}
use Rattle.std.specs.Prelude.{Ok}
use Rattle.season.specs.Season.{added}
use Rattle.season.proofs.Adds.{Comes, below, above, over, within}
use Rattle.season.proofs.totals.add.Goals.{then-k-eq0-via-then-k-eq0, then-k-eq0-via-else-k-eq0+then-k-gt-FARMS}
use Rattle.season.proofs.totals.add.Goals as goal

pub returns-then-k-eq0 : goal.returns-then-k-eq0
returns-then-k-eq0 c =
    let a = c.args in
    let both : Comes a.k a.counts.now a.totals.now (Ok tt) a.totals.now =
    elim c.then-k-eq0.branch [
      | then-k-eq0-via-then-k-eq0 w ↦ below a.k a.counts.now a.totals.now (omega (arith, c.from-k.ensures))
      | then-k-eq0-via-else-k-eq0+then-k-gt-FARMS w ↦ above a.k a.counts.now a.totals.now (omega (arith, c.from-k.ensures))
    ] in record { value = both.0; totals_after = both.1 }

pub returns-in_default : goal.returns-in_default
returns-in_default c =
    let a = c.args in
    let both = over c.from-k.result a.counts.now a.totals.now (omega arith) (omega arith) c.in_default.ensures in
    let first = (c.from-k.result - 1) * 10 in
    record {
      value = both.0 ∙ ap (λ (k : ℕ). (added k a.counts.now a.totals.now).last) c.from-k.ensures;
      totals_after = put_same first (first + 10 - first) a.totals.now ∙ (both.1 ∙ ap (λ (k : ℕ). (added k a.counts.now a.totals.now).totals) c.from-k.ensures);
    }

pub returns : goal.returns
returns c =
    let a = c.args in
    let fits = c.in-Some.ensures in
    let both = within c.from-k.result a.counts.now a.totals.now (omega arith) (omega arith) fits.0 c.copy_from_slice.new.self (c.copy_from_slice.ensures.after ∙ fits.1) in
    record {
      value = both.0 ∙ ap (λ (k : ℕ). (added k a.counts.now a.totals.now).last) c.from-k.ensures;
      totals_after = both.1 ∙ ap (λ (k : ℕ). (added k a.counts.now a.totals.now).totals) c.from-k.ensures;
    }
