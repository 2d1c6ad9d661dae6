-- Row by row.
use mathlib.Core.Path.{◌≡◌, refl, sym, ◌∙◌, ap}
use mathlib.Core.Bool.{Bool, true, false, ◌&&◌}
use Prim.Native.Nat.{ℕ}
use lib.Dec.{eqb}
use lib.ListN.{length, get_or, take}
use borrow.Author.Tests.{eq-eqb, ne_eqb}
use native.Mathlib.Omega.{arith}
use Rattle.catalogue.specs.Table.{rows}
use Rattle.versions.specs.Layout.{columns, last_at, version_bytes}
use Rattle.versions.specs.Fit.{columns_fit, every_columns, versions_fit}
use Rattle.versions.proofs.Slots.{no_columns, column_room}
use Rattle.versions.proofs.Every.{columns_next, columns_unfit}
use Rattle.versions.proofs.limits.fit.Goals as goal

pub returns-in_default : goal.returns-in_default
unfolding versions_fit last_at rows
returns-in_default c = let v = c.args.s.now in rw (ne_eqb (length v) version_bytes c.in_default.ensures.cases)

pub fit-requires : goal.fit-requires
unfolding columns last_at rows
fit-requires c = column_room c.loop-c.c-index _ _ c.loop-c-test.true refl

pub loop-c-preserved : goal.loop-c-preserved
unfolding columns rows
loop-c-preserved c =
    let ok = columns_fit c.args.s.now in
    let whole = c.in-Some.ensures.cases in
    let i = c.loop-c.c-index in
    sym (columns_next ok columns i no_columns c.loop-c-test.true)
    ∙ (ap (λ (b : Bool). b && ok (get_or columns i no_columns)) c.loop-c.invariant ∙ (sym (rw whole.same at c.fit.ensures) ∙ c.if-not-fit.false))

pub returns-then-not-fit : goal.returns-then-not-fit
unfolding versions_fit columns last_at rows
returns-then-not-fit c =
    let v = c.args.s.now in
    let whole = c.in-Some.ensures.cases in
    let size : eqb (length v) version_bytes ≡ true = eq-eqb (length v) version_bytes whole.long in
    let unfit : every_columns (columns_fit v) columns ≡ false = columns_unfit (columns_fit v) columns c.loop-c.c-index no_columns c.loop-c-test.true (sym (rw whole.same at c.fit.ensures) ∙ c.if-not-fit.true) in
    sym (ap (λ (b : Bool). b && every_columns (columns_fit v) columns) size ∙ unfit)

pub returns : goal.returns
unfolding versions_fit columns last_at rows
returns c =
    let v = c.args.s.now in
    let whole = c.in-Some.ensures.cases in
    let e : c.loop-c.c-index ≡ 7 = omega arith in
    let size : eqb (length v) version_bytes ≡ true = eq-eqb (length v) version_bytes whole.long in
    sym c.loop-c.invariant ∙ (ap (λ (k : ℕ). every_columns (columns_fit v) (take k columns)) e ∙ rw size)
