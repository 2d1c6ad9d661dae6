-- The address's checks, then its error or its elements.
use Rattle.std.specs.Prelude.{Ok, Err}
use mathlib.Core.Path.{sym, ◌∙◌, ap}
use Rattle.blocks.specs.Block.{Block}
use Rattle.access.specs.Walk.{with_block}
use Rattle.access.proofs.Checks.{checked_inside}
use Rattle.access.proofs.Room.{block_is}
use borrow.Author.Rules.{rules}
use Rattle.access.proofs.read.read_one.Goals as goal

pub put_elements-requires : goal.put_elements-requires
put_elements-requires c = (checked_inside c.args.a c.in-Ok.r c.in-Ok.n (sym c.check.ensures ∙ c.in-Ok.is), search rules, search rules)

pub returns-in-Err : goal.returns-in-Err
returns-in-Err c =
    let a = c.args in
    let x = a.reply.now in
    c.put_failed.ensures
    ∙ ap (λ (b : Block). with_block b x) (block_is a.part.now x.next a.after a.a (Err c.in-Err.e) (sym c.in-Err.is ∙ c.check.ensures))

pub returns-in-Ok : goal.returns-in-Ok
returns-in-Ok c =
    let a = c.args in
    let x = a.reply.now in
    c.put_elements.ensures
    ∙ ap (λ (b : Block). with_block b x) (block_is a.part.now x.next a.after a.a (Ok (c.in-Ok.r, c.in-Ok.n)) (sym c.in-Ok.is ∙ c.check.ensures))
