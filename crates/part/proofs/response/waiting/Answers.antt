-- The length stands before the bytes, and no more than a block of them are taken.
use Rattle.part.proofs.Waits.{waiting_is}
use Rattle.part.specs.Layout.{response_at}
use Rattle.catalogue.specs.Table.{rows, parameter_bytes}
use lib.ListN.{take, drop}
use Prim.Native.Nat.{ℕ, ◌+◌, ◌-◌}
use native.Mathlib.Omega.{arith}
use mathlib.Core.Path.{◌≡◌, ◌∙◌, ap}
use Rattle.part.proofs.response.waiting.Goals as goal

pub slice_bounds-result-end : goal.slice_bounds-result-end
unfolding parameter_bytes rows
slice_bounds-result-end c = omega arith

pub returns : goal.returns
unfolding parameter_bytes rows
returns c =
    let p = c.args.part.now in
    let n = c.min-n.result in
    let e : response_at + n - response_at ≡ n = omega arith in
    ap (λ (k : ℕ). take k (drop response_at p)) e ∙ waiting_is p n (omega arith)
