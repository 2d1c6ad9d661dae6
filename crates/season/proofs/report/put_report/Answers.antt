-- The lines, and what ends them.
use mathlib.Core.Path.{sym, ◌∙◌}
use mathlib.Core.List.{◌++◌}
use native.Mathlib.Omega.{arith}
use lib.ListN.{drop}
use Rattle.journal.proofs.Pieces.{and_then, whole}
use Rattle.season.specs.Report.{report_text}
use Rattle.season.proofs.report.put_report.Goals as goal

pub returns : goal.returns
unfolding report_text
returns c =
    let w = and_then c.put_lines.ensures c.put_end.ensures in
    let none = c.new-report.ensures.none in
    record {
      text_after = whole w none ∙ (λ j. report_text c.args.totals.now c.args.last ++ drop (sym c.len.ensures.value j) (c.new-report.ensures.memory_value j));
      value = (omega (arith, w.longer, none, c.len.ensures.value), omega (arith, w.longer, w.limit, none, c.len.ensures.value));
    }
