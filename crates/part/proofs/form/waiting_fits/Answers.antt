-- A part reaches to its end.
use Rattle.catalogue.specs.Table.{rows, parameter_bytes}
use native.Mathlib.Omega.{arith}
use borrow.Author.Rules.{rules}
use Rattle.part.proofs.form.waiting_fits.Goals as goal

pub waiting-block-requires : goal.waiting-block-requires
unfolding parameter_bytes rows
waiting-block-requires c = search (rules, arith)
