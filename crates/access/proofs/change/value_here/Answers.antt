-- Each kind's value is worked out from its bytes, and fits the machine's number.
use mathlib.Core.Path.{refl, sym, ◌∙◌, ap, subst}
use Prim.Native.Nat.{◌+◌, ◌*◌}
use native.Mathlib.Omega.{arith}
use lib.ListN.{get_or}
use mir.Syntax.{w16, w32}
use mir.Val.{SFits}
use Rattle.codes.specs.Number.{number_at}
use Rattle.codes.proofs.Fixed.{Bytes}
use Rattle.codes.proofs.Signed.{cast_signed_is, signed_fits}
use Rattle.drive.proofs.Signed.{widened}
use Rattle.catalogue.specs.declared.Kind.{Kind}
use Rattle.catalogue.specs.Table.{element_size}
use Rattle.catalogue.specs.Element.{value_of}
use Rattle.access.proofs.Valued.{both_are, one_byte, two_unsigned, two_signed}
use Rattle.access.proofs.change.value_here.Goals as goal

pub returns-in-U8 : goal.returns-in-U8
returns-in-U8 c =
    let a = c.args in
    let y : Bytes a.s.now = λ i. omega (arith, c.type_inv.s i) in
    let told = c.in-U8.is in
    one_byte a.s.now y a.at (rw told at c.requires) ∙ ap (λ (k : Kind). value_of k (number_at (element_size k) a.s.now a.at)) (sym told)

pub returns-in-U16 : goal.returns-in-U16
returns-in-U16 c =
    let a = c.args in
    let s = a.s.now in
    let y : Bytes s = λ i. omega (arith, c.type_inv.s i) in
    let told = c.in-U16.is in
    both_are (get_or s a.at 0) (y a.at) (get_or s (a.at + 1) 0) (y (a.at + 1))
    ∙ (two_unsigned s y a.at (rw told at c.requires) ∙ ap (λ (k : Kind). value_of k (number_at (element_size k) s a.at)) (sym told))

pub returns-in-I16 : goal.returns-in-I16
returns-in-I16 c =
    let a = c.args in
    let s = a.s.now in
    let y : Bytes s = λ i. omega (arith, c.type_inv.s i) in
    let told = c.in-I16.is in
    let n = get_or s a.at 0 * 256 + get_or s (a.at + 1) 0 in
    let e = c.cast_signed.ensures ∙ cast_signed_is 2 w16 refl n (omega (arith, y a.at, y (a.at + 1))) in
    widened w32 tt (subst (SFits w16) (sym e) (signed_fits 2 w16 refl n (omega (arith, y a.at, y (a.at + 1)))))
    ∙ (e ∙ (two_signed s y a.at (rw told at c.requires) ∙ ap (λ (k : Kind). value_of k (number_at (element_size k) s a.at)) (sym told)))
