-- The pieces of the line one after the other.
use mathlib.Core.Path.{◌≡◌, ap}
use Prim.Native.Nat.{ℕ, ◌+◌, ◌-◌, ◌*◌}
use native.Mathlib.Omega.{arith}
use lib.Dec.{lit≤}
use lib.ListN.{take, drop}
use Rattle.station.specs.Parts.{window}
use Rattle.journal.proofs.Pieces.{and_then, said, within, fitted}
use Rattle.season.specs.Report.{spaced, farm_line}
use Rattle.season.proofs.report.put_line.Goals as goal

pub returns : goal.returns
unfolding window farm_line
returns c =
    let a = c.args in
    let first = (a.farm - 1) * 10 in
    let ten : 10 ≡ first + 10 - first = omega arith in
    let letter = fitted 1 c.put_bytes.ensures (lit≤ tt) (omega arith) in
    let farm = fitted 21 c.put_spaced_number.ensures.text_after (omega arith) (omega arith) in
    let counts = said c.put_spaced.ensures (ap (λ (k : ℕ). spaced (take k (drop first a.totals.now))) ten) in
    let end = fitted 1 c.put_bytes-2.ensures (lit≤ tt) (omega arith) in
    within (and_then letter (and_then (and_then farm counts) end)) (omega arith)
