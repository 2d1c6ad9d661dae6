use Rattle.codes.proofs.Fixed.{Bytes, word_small, word_next}
use native.Mathlib.Omega.{arith}
use native.Mathlib.Nat.{zero-add}
use Rattle.codes.proofs.number_of.Goals as goal

pub overflow_mul-x : goal.overflow_mul-x
overflow_mul-x c = let l = c.loop-b in omega (arith, word_small l.b-index l.x _ _ l.invariant (omega arith))

pub overflow_add-x : goal.overflow_add-x
overflow_add-x c =
    let l = c.loop-b in
    omega (arith, word_small l.b-index l.x _ _ l.invariant (omega arith), c.type_inv.bytes l.b-index)

pub loop-b-preserved : goal.loop-b-preserved
loop-b-preserved c =
    let s = c.args.bytes.now in
    let l = c.loop-b in
    let y : Bytes s = λ i. omega (arith, c.type_inv.bytes i) in
    let e = simp zero-add at (word_next s y 0 l.b-index l.x (omega arith) (rw zero-add l.invariant)) in
    cc (e, c.from.ensures)
