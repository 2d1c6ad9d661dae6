-- What does not fit is not put; else byte by byte from the last.
use Rattle.codes.proofs.Put.{put_none, put_too_long, put_more, word_length}
use Rattle.codes.specs.Code.{word}
use Rattle.codes.specs.Number.{put}
use Prim.Native.Nat.{ℕ, ◌+◌, ◌-◌}
use mathlib.Core.Path.{◌≡◌, sym, ◌∙◌, ap}
use native.Mathlib.Omega.{arith}
use Rattle.codes.proofs.put_number.Goals as goal

pub returns-then-not-stands : goal.returns-then-not-stands
returns-then-not-stands c =
    let a = c.args in
    sym (put_too_long a.out.now a.at ((word a.w).write a.x) (grind (arith, word_length a.w a.x)))

pub loop-i-preserved : goal.loop-i-preserved
loop-i-preserved c =
    let a = c.args in
    let l = c.loop-i in
    let k = l.i - 1 - a.at in
    let place : a.at + k ≡ l.i - 1 = omega arith in
    let more : k + 1 ≡ l.i - a.at = omega arith in (
      omega arith,
      (rw place at (put_more l.out a.at k l.rest (omega arith)))
          ∙ ap (λ (n : ℕ). put l.out a.at ((word n).write l.rest)) more
          ∙ l.invariant.1,
    )

pub returns : goal.returns
returns c =
    let a = c.args in
    let l = c.loop-i in
    let e : l.i - a.at ≡ 0 = omega arith in
    sym (put_none l.out a.at) ∙ ap (λ (k : ℕ). put l.out a.at ((word k).write l.rest)) (sym e) ∙ l.invariant.1
