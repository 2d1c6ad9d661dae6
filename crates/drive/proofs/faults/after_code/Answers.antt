-- `faults::after_code` meets its contract. Assumes nothing.
use Rattle.std.proofs.Common.{rules, sym, ap, ◌∙◌, is_some}
use Rattle.drive.proofs.Find.{put_found}
use Rattle.drive.proofs.faults.after_code.Goals as goal

pub returns-in-Some : goal.returns-in-Some
returns-in-Some c =
    let lacks = ap is_some (sym c.place_of.ensures) ∙ sym c.is_some.ensures ∙ c.if-is_some.false in
    c.put.ensures ∙ put_found c.args.code c.in-Some.end c.args.f (search rules) c.if-code-eq0.false lacks (sym c.place_of-2.ensures ∙ c.in-Some.is)
