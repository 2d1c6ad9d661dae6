-- The number stands after the columns.
use native.Mathlib.Omega.{arith}
use lib.ListN.{length}
use borrow.Author.Tests.{eq-eqb, ne_eqb}
use Rattle.catalogue.specs.Table.{rows}
use Rattle.versions.specs.Layout.{last_at, version_bytes, last_used}
use Rattle.versions.proofs.numbers.last_used.Goals as goal

pub returns-then-v-ne-SIZE : goal.returns-then-v-ne-SIZE
unfolding last_used last_at rows
returns-then-v-ne-SIZE c = let v = c.args.v.now in rw (ne_eqb (length v) version_bytes c.if-v-ne-SIZE.true)

pub returns : goal.returns
unfolding last_used last_at rows
returns c = let v = c.args.v.now in rw (eq-eqb (length v) version_bytes c.if-v-ne-SIZE.false) (omega (arith, c.type_inv.v 640, c.type_inv.v 641))
