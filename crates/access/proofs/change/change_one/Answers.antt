-- The address's checks, then its error or its elements.
use Rattle.std.specs.Prelude.{Ok, Err}
use mathlib.Core.Path.{sym, ◌∙◌}
use Rattle.std.proofs.lemmas.Result.{err_from_is_err_and}
use Rattle.access.specs.Walk.{block_in}
use Rattle.access.proofs.Checks.{checked_inside}
use Rattle.access.proofs.Failing.{did_fail, change_is}
use borrow.Author.Rules.{rules}
use Rattle.access.proofs.change.change_one.Goals as goal

pub change_elements-requires : goal.change_elements-requires
change_elements-requires c =
    (checked_inside c.args.a c.in_ok-r.r c.in_ok-r.n (sym c.check.ensures ∙ c.in_ok-r.was), search rules)

pub returns-in_err-r : goal.returns-in_err-r
returns-in_err-r c =
    let a = c.args in
    let p = err_from_is_err_and c.from_residual.result c.from_residual.ensures.1 in
    rw (p.1, p.2)
    (change_is a.a (block_in a.block.now a.at) a.part.now a.part.now (Err c.in_err-r.field-0.0) (Err c.in_err-r.field-0.0) (sym c.in_err-r.was ∙ c.check.ensures)
    (did_fail c.in_err-r.field-0.0 a.part.now))

pub returns : goal.returns
returns c =
    let a = c.args in
    let d = c.change_elements in
    change_is a.a (block_in a.block.now a.at) a.part.now d.new.part d.result (Ok (c.in_ok-r.r, c.in_ok-r.n)) (sym c.in_ok-r.was ∙ c.check.ensures) d.ensures
