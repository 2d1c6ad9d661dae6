-- The loop's invariant: what is left to be held against the addresses is what was to be held at first, and stands in both blocks.
use mathlib.Core.Path.{◌≡◌, sym, ◌∙◌, subst}
use Prim.Native.Nat.{ℕ, ◌+◌, ◌-◌}
use native.Mathlib.Omega.{arith}
use Rattle.codes.proofs.Fixed.{Bytes}
use Rattle.checker.specs.Inner.{AsRead}
use Rattle.checker.proofs.Counting.{Counting, begins, no_block, turn, stands}
use Rattle.checker.proofs.counts_fit.Goals as goal

pub loop-init : goal.loop-init
loop-init c =
    let a = c.args in
    let s = a.request.now in
    let t = a.response.now in
    let pre = c.requires in
    let bs : Bytes s = λ i. omega (arith, c.type_inv.request i) in
    let bt : Bytes t = λ i. omega (arith, c.type_inv.response i) in
    let first : AsRead s t (λ q r. Counting s t q r 4 4 (a.count - 0)) = λ q r es et. let all : a.count - 0 ≡ a.count = omega arith in rw all (begins s t q r es et a.count pre.1) in
    (first, stands s t pre.0 bs bt 4 4 (a.count - 0) first)

pub returns-then-not-count_fits : goal.returns-then-not-count_fits
returns-then-not-count_fits c q r es et =
    let a = c.args in
    let s = a.request.now in
    let t = a.response.now in
    let l = c.loop in
    let k = c.count_fits in
    let bs : Bytes s = λ i. omega (arith, c.type_inv.request i) in
    let bt : Bytes t = λ i. omega (arith, c.type_inv.response i) in
    (turn s t bs bt q r l.from l.at (a.count - l.counter) (omega arith) (l.invariant.0 q r es et)).fails (sym k.ensures ∙ c.if-not-count_fits.true)

pub loop-preserved : goal.loop-preserved
loop-preserved c =
    let a = c.args in
    let s = a.request.now in
    let t = a.response.now in
    let pre = c.requires in
    let l = c.loop in
    let k = c.count_fits in
    let z = c.answer_size-at in
    let bs : Bytes s = λ i. omega (arith, c.type_inv.request i) in
    let bt : Bytes t = λ i. omega (arith, c.type_inv.response i) in
    let next : AsRead s t (λ q r. Counting s t q r (l.from + 6) (l.at + z.result) (a.count - (l.counter + 1))) =
    λ q r es et.
    let less : a.count - l.counter - 1 ≡ a.count - (l.counter + 1) = omega arith in
    subst (λ (x : ℕ). Counting s t q r (l.from + 6) (l.at + x) (a.count - (l.counter + 1))) (sym z.ensures)
    (rw less at ((turn s t bs bt q r l.from l.at (a.count - l.counter) (omega arith) (l.invariant.0 q r es et)).goes (sym k.ensures ∙ c.if-not-count_fits.false))) in
    (next, stands s t pre.0 bs bt (l.from + 6) (l.at + z.result) (a.count - (l.counter + 1)) next)

pub returns : goal.returns
returns c q r es et =
    let a = c.args in
    let s = a.request.now in
    let t = a.response.now in
    let l = c.loop in
    let none : a.count - l.counter ≡ 0 = omega arith in
    no_block s t q r l.from l.at (subst (λ (n : ℕ). Counting s t q r l.from l.at n) none (l.invariant.0 q r es et))
