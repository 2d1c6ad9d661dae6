-- Line by line.
use Prim.Native.Nat.{◌+◌, ◌-◌}
use mathlib.Core.List.{◌++◌}
use mathlib.Core.Path.{◌≡◌}
use native.Mathlib.Omega.{arith}
use native.Mathlib.Numerals.{add-one}
use lib.Dec.{lit≤}
use Rattle.journal.proofs.Pieces.{wrote_none, and_then, said, within}
use Rattle.season.specs.Report.{farm_line, lines_to}
use Rattle.season.proofs.report.put_lines.Goals as goal

pub loop-farm-init : goal.loop-farm-init
unfolding lines_to
loop-farm-init c = (lit≤ tt, wrote_none 0 c.args.text.now)

pub loop-farm-preserved : goal.loop-farm-preserved
unfolding lines_to
loop-farm-preserved c =
    let k = c.loop-farm.farm in
    let t = c.args.totals.now in
    let e : k - 1 + 1 ≡ k = omega arith in
    let f : k + 1 - 1 ≡ k - 1 + 1 = omega arith in
    let more : lines_to (k + 1 - 1) t ≡ lines_to (k - 1) t ++ farm_line k t = rw (f, add-one (k - 1), ← add-one (k - 1), e) in
    (omega arith, within (said (and_then c.loop-farm.invariant.1 c.put_line.ensures) more) (omega arith))

pub returns : goal.returns
returns c = let all : c.loop-farm.farm - 1 ≡ 16 = omega arith in rw all at c.loop-farm.invariant.1
