-- The bytes after the waiting response, up to the versions.
use Rattle.part.specs.Layout.{response_at}
use Rattle.catalogue.specs.Table.{rows, parameter_bytes}
use Rattle.versions.specs.Layout.{last_at}
use Rattle.part.proofs.Waits.{waiting_bytes, unused_is}
use lib.ListN.{length}
use Prim.Native.Nat.{◌+◌}
use native.Mathlib.Omega.{arith}
use mathlib.Core.Path.{refl, ◌∙◌, ap}
use borrow.Author.Rules.{rules}
use Rattle.part.proofs.form.unused_fits.Goals as goal

pub slice_bounds-is_clear-end : goal.slice_bounds-is_clear-end
unfolding parameter_bytes rows last_at
slice_bounds-is_clear-end c = omega arith

pub returns-then-waiting_length-eq0 : goal.returns-then-waiting_length-eq0
unfolding parameter_bytes rows last_at
returns-then-waiting_length-eq0 c = c.is_clear.ensures ∙ unused_is c.args.part.now (omega arith) 0 response_at (omega arith) (omega arith)

pub waiting-requires : goal.waiting-requires
unfolding parameter_bytes rows last_at
waiting-requires c = search (rules, arith)

pub slice_bounds-is_clear-count-2 : goal.slice_bounds-is_clear-count-2
unfolding parameter_bytes rows last_at
slice_bounds-is_clear-count-2 c = omega (arith, ap length c.waiting.ensures, waiting_bytes c.args.part.now (omega arith))

pub slice_bounds-is_clear-start-2 : goal.slice_bounds-is_clear-start-2
unfolding parameter_bytes rows last_at
slice_bounds-is_clear-start-2 c = omega (arith, ap length c.waiting.ensures, waiting_bytes c.args.part.now (omega arith))

pub slice_bounds-is_clear-end-2 : goal.slice_bounds-is_clear-end-2
unfolding parameter_bytes rows last_at
slice_bounds-is_clear-end-2 c = omega arith

pub returns : goal.returns
unfolding parameter_bytes rows last_at
returns c =
    let p = c.args.part.now in
    let n = length c.waiting.result.now in
    c.is_clear-2.ensures ∙ unused_is p (omega arith) n _ (ap length c.waiting.ensures ∙ waiting_bytes p (omega arith)) (omega arith)
