-- Line by line.
use Prim.Native.Nat.{◌-◌, ◌*◌, ◌≤◌}
use Rattle.journal.specs.Written.{Wrote}
use Rattle.season.specs.Report.{lines_to}
use Rattle.season.proofs.report.put_lines.Given as goal

abbrev pub invariant-loop-farm : goal.invariant-loop-farm
invariant-loop-farm l = (l.farm ≤ 17) × Wrote (233 * (l.farm - 1)) (lines_to (l.farm - 1) l.totals) l.initial.text l.text
