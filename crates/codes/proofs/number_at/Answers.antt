-- Each test that fails says why there is no such number in the slice.
use Rattle.codes.proofs.Number.{number_of_part, number_wide, number_short}
use Rattle.codes.proofs.Fixed.{Bytes}
use mathlib.Core.Path.{sym}
use native.Mathlib.Omega.{arith}
use Rattle.codes.proofs.number_at.Goals as goal
use Rattle.codes.proofs.number_at.Goals.{else-w-le4-via-then-w-le4+else-stands, else-w-le4-via-else-w-le4}

pub returns-then-stands : goal.returns-then-stands
returns-then-stands c =
    let a = c.args in
    number_of_part a.w a.s.now a.at c.number_of.result (omega arith) (omega arith) c.number_of.ensures

pub returns-else-w-le4 : goal.returns-else-w-le4
returns-else-w-le4 c =
    let a = c.args in
    let y : Bytes a.s.now = λ i. omega (arith, c.type_inv.s i) in
    elim c.else-w-le4.branch [
      | else-w-le4-via-then-w-le4+else-stands w ↦ sym (number_short a.w a.s.now y a.at (grind arith))
      | else-w-le4-via-else-w-le4 w ↦ sym (number_wide a.w a.s.now a.at (omega arith))
    ]
