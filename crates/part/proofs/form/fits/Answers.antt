-- The same tests in the same order; the first that fails decides.
use Rattle.part.proofs.Rule.{state_is, others, right_size}
use Rattle.part.specs.Layout.{part_size, versions_at, versions}
use Rattle.catalogue.specs.Table.{rows, parameter_bytes}
use Rattle.versions.specs.Layout.{last_at}
use Rattle.versions.specs.Fit.{versions_fit}
use Rattle.std.proofs.Common.{rules, tests}
use lib.ListN.{length, length-drop}
use lib.Seq.{take_all}
use native.Mathlib.Omega.{arith}
use mathlib.Core.Path.{◌≡◌, ◌∙◌, ap}
use Rattle.part.proofs.form.fits.Goals as goal

pub returns-then-unused_fits : goal.returns-then-unused_fits
unfolding parameter_bytes rows last_at
returns-then-unused_fits c =
    let p = c.args.part.now in
    let size : length p ≡ part_size = search rules in
    let state = state_is c.byte_at.ensures c.try_from.ensures c.is_ok.ensures.value in
    let kept : c.fit.result ≡ versions_fit (versions p) = c.fit.ensures ∙ ap versions_fit (take_all 642 (versions p) (omega (arith, length-drop versions_at p))) in
    let chain : c.fit.result ≡ others c.args.axis p = search (rules, tests, state, kept) in
    chain ∙ right_size c.args.axis p size

pub returns-else-unused_fits : goal.returns-else-unused_fits
unfolding parameter_bytes rows last_at
returns-else-unused_fits c =
    let p = c.args.part.now in
    let size : length p ≡ part_size = search rules in
    let state = state_is c.byte_at.ensures c.try_from.ensures c.is_ok.ensures.value in
    let chain : c.if-waiting_fits.value ≡ others c.args.axis p = search (rules, tests, state) in
    chain ∙ right_size c.args.axis p size
