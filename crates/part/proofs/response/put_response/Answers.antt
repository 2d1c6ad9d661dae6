-- The length, the bytes and the zeros after them are stored one after the other.
use Rattle.catalogue.specs.Table.{rows, parameter_bytes}
use Rattle.codes.specs.Number.{put}
use Rattle.part.specs.Layout.{response_at}
use Rattle.part.proofs.StoredResponse.{response_unput, response_put}
use lib.ListN.{length, take}
use Prim.Native.Nat.{ℕ}
use mathlib.Core.List.{List}
use mathlib.Core.Path.{◌∙◌, ap}
use native.Mathlib.Omega.{arith}
use Rattle.part.proofs.response.put_response.Goals as goal

pub returns-then-part-lt-VERSIONS : goal.returns-then-part-lt-VERSIONS
unfolding rows parameter_bytes
returns-then-part-lt-VERSIONS c =
    let e = c.put_number.ensures in
    e ∙ response_unput c.args.part.now c.args.bytes.now c.min-n.result c.min-n.ensures (omega (arith, ap length e))

pub returns : goal.returns
unfolding rows parameter_bytes
returns c =
    let a = c.args in
    let n = c.min-n.result in
    let e = c.put_number.ensures in
    response_put a.part.now a.bytes.now n c.min-n.ensures (omega (arith, ap length e)) c.put_bytes.new.out c.fill.new.self
    (c.put_bytes.ensures ∙ ap (λ (l : List ℕ). put l response_at (take n a.bytes.now)) e)
    (c.fill.ensures.after (λ y z. z))
