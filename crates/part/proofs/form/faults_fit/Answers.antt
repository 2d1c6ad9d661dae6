-- A buffer of zeros is proper, and so is one of single codes.
use Rattle.part.proofs.Words.{clear_words}
use Rattle.part.specs.Record.{faults_of}
use Rattle.drive.specs.Faults.{situations, buffer_codes, all_proper, proper_faults}
use Rattle.catalogue.specs.Table.{rows, parameter_bytes, find_of, offset_of}
use native.Mathlib.Omega.{arith}
use mathlib.Core.Bool.{true}
use mathlib.Core.Path.{◌≡◌, sym, ◌∙◌, ap}
use Rattle.part.proofs.form.faults_fit.Goals as goal
use Rattle.part.proofs.form.faults_fit.Goals.{then-is_clear, else-is_clear}

pub returns-then-are_single : goal.returns-then-are_single
unfolding offset_of find_of rows parameter_bytes
returns-then-are_single c =
    let p = c.args.part.now in
    let fit : proper_faults (faults_of p) ≡ true =
    elim c.if-is_clear.branch [
      | then-is_clear w ↦
          ap (all_proper situations) (clear_words buffer_codes p (offset_of 947) (omega arith) (sym c.is_clear.ensures ∙ w.if-is_clear.true))
      | else-is_clear w ↦ w.are_single.ensures (sym w.value-is ∙ c.if-are_single.true)
    ] in
    c.if-are_single.true ∙ sym fit
