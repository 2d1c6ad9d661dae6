-- Two bytes stored one after the other.
use native.Mathlib.Omega.{arith}
use Rattle.access.proofs.Copied.{copied_two}
use Rattle.access.proofs.copies.copy_two.Goals as goal

pub returns : goal.returns
returns c =
    let a = c.args in
    copied_two a.out.now a.at a.s.now a.from (omega arith) (omega arith)
