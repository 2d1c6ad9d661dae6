-- What does not fit is not put; else byte by byte, each after those that are put.
use Rattle.codes.proofs.Put.{put_none, put_too_long}
use Rattle.codes.proofs.Stores.{copied_next}
use lib.ListN.{length, get_or, set, length-set}
use Prim.Native.Nat.{ℕ, ◌+◌, ◌≤◌}
use mathlib.Core.List.{List}
use mathlib.Core.Path.{refl, sym, ◌∙◌, ap}
use native.Mathlib.Omega.{arith}
use Rattle.codes.proofs.put_bytes.Goals as goal

pub returns-then-not-stands : goal.returns-then-not-stands
returns-then-not-stands c = sym (put_too_long c.args.out.now c.args.at c.args.from.now (grind arith))

pub loop-i-init : goal.loop-i-init
loop-i-init c = (refl, sym (put_none c.args.out.now c.args.at))

pub loop-i-preserved : goal.loop-i-preserved
loop-i-preserved c =
    let a = c.args in
    let l = c.loop-i in
    let fits : a.at + length a.from.now ≤ length a.out.now = grind arith in (
      simp length-set l.invariant.0,
      ap (λ (x : List ℕ). set x (a.at + l.i) (get_or a.from.now l.i 0)) l.invariant.1
          ∙ copied_next a.out.now a.at a.from.now l.i (omega arith) fits,
    )
