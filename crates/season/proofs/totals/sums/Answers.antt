-- One sum more, or the first that reaches 2^64.
use mathlib.Core.Path.{◌≡◌, sym, ◌∙◌}
use mathlib.Core.List.{[], ◌∷◌, ◌++◌}
use native.Mathlib.Omega.{arith}
use native.Mathlib.Numerals.{add-one}
use lib.ListN.{length}
use lib.Seq.{take-suc, take-suc-set, take_all}
use Rattle.season.specs.Season.{plus}
use Rattle.season.proofs.Sums.{plus_length, plus_at, some_reaches, reach_next, reach_end}
use Rattle.season.proofs.totals.sums.Goals as goal

pub returns-in_err-sum : goal.returns-in_err-sum
returns-in_err-sum c =
    let ms = c.args.totals.now in
    let ns = c.args.counts.now in
    let both : length ms ≡ length ns = omega arith in
    let size = plus_length ms ns both in
    let i = c.loop-i.i in
    let at = plus_at ms ns both i (omega arith) in
    rw c.from_residual.ensures (some_reaches (plus ms ns) i (omega arith) (omega (arith, at, c.in_err-sum.ensures)))

pub loop-i-preserved : goal.loop-i-preserved
loop-i-preserved c =
    let ms = c.args.totals.now in
    let ns = c.args.counts.now in
    let both : length ms ≡ length ns = omega arith in
    let size = plus_length ms ns both in
    let l = c.loop-i in
    let at = plus_at ms ns both l.i (omega arith) in
    let sum = c.in_ok-sum.ensures.1 ∙ sym at in (
      sym (reach_next (plus ms ns) l.i (omega arith) (omega (arith, at, c.in_ok-sum.ensures.0))) ∙ l.invariant.0,
      rw (add-one l.i) (take-suc-set l.sum-items l.i _ (omega arith) ∙ ((λ j. l.invariant.1 j ++ (sum j ∷ [])) ∙ sym (take-suc (plus ms ns) l.i 0 (omega arith)))),
    )

pub returns : goal.returns
returns c =
    let ms = c.args.totals.now in
    let ns = c.args.counts.now in
    let both : length ms ≡ length ns = omega arith in
    let size = plus_length ms ns both in
    let l = c.loop-i in
    let i = l.i in
    (sym l.invariant.0 ∙ reach_end (plus ms ns) i (omega arith), sym (take_all i l.sum-items (omega arith)) ∙ (l.invariant.1 ∙ take_all i (plus ms ns) (omega arith)))
