-- Where nothing is seen, the situations have at most one code each.
use Rattle.part.proofs.Situations.{joined_next, all_single}
use Rattle.drive.specs.Faults.{situations, situation_codes, zeros}
use Rattle.catalogue.specs.Table.{rows, parameter_bytes, find_of, offset_of}
use borrow.Author.Count.{below_more}
use lib.ListN.{take, drop}
use mathlib.Core.Bool.{true}
use Prim.Native.Nat.{ℕ, ◌+◌, ◌*◌, ◌-◌}
use native.Mathlib.Omega.{arith}
use mathlib.Core.Path.{◌≡◌, sym, ◌∙◌, ap}
use Rattle.part.proofs.form.are_single.Goals as goal

pub loop-k-preserved : goal.loop-k-preserved
unfolding offset_of find_of rows parameter_bytes
loop-k-preserved c = λ e.
    let l = c.loop-k in
    let p = c.args.part.now in
    let at = offset_of 947 + l.k * (situation_codes * 2) + 2 in
    let m : at + (situation_codes - 1) * 2 - at ≡ (situation_codes - 1) * 2 = omega arith in
    let none = joined_next l.seen c.join_all-seen.result e in
    below_more (λ (k : ℕ). zeros (take ((situation_codes - 1) * 2) (drop (offset_of 947 + k * (situation_codes * 2) + 2) p)) ≡ true) l.k (l.invariant none.0)
    (ap (λ (n : ℕ). zeros (take n (drop at p))) (sym m) ∙ (sym c.join_all-seen.ensures ∙ none.1))

pub returns : goal.returns
unfolding offset_of find_of rows parameter_bytes
returns c = λ e.
    let all : situations ≡ c.loop-k.k = omega arith in
    all_single c.args.part.now (offset_of 947) (omega arith) (λ k h. c.loop-k.invariant e k (omega arith))
