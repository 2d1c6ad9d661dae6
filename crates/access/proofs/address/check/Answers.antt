-- The catalogue's row, or none.
use Rattle.access.proofs.Checks.{check_nothing, check_row}
use Rattle.access.proofs.address.check.Goals as goal

pub returns-in_default : goal.returns-in_default
returns-in_default c = check_nothing c.args.a c.find.result c.find.ensures c.in_default.is

pub returns : goal.returns
returns c = check_row c.args.a c.find.result c.find.ensures c.in-Some.r _ c.in-Some.is c.of_row.ensures
