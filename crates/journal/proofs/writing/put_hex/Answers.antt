-- One byte more in hex: its two digits, one after the other.
use mathlib.Core.Path.{◌≡◌, refl, sym, ap, ◌∙◌}
use mathlib.Core.List.{List, [], ◌∷◌, ◌++◌, append_assoc}
use Prim.Native.Nat.{ℕ, suc, ◌+◌, ◌*◌, ◌<◌}
use native.Mathlib.Omega.{arith}
use native.Mathlib.Numerals.{add-one}
use lib.ListN.{length, get_or, set, take, length-set}
use lib.Seq.{take-suc-set}
use Rattle.std.proofs.lemmas.List.{take_all}
use Rattle.journal.specs.Text.{hex_byte, hex_bytes}
use Rattle.journal.proofs.Pieces.{one_more}
use Rattle.journal.proofs.writing.put_hex.Goals as goal

-- two bytes stored one after the other
two_more : (d : List ℕ) (k x y : ℕ) → k + 1 < length d → take (k + 2) (set (set d k x) (k + 1) y) ≡ take k d ++ (x ∷ y ∷ [])
two_more d k x y h =
    let two : k + 2 ≡ suc (k + 1) = omega arith in
    let second = take-suc-set (set d k x) (k + 1) y (omega (arith, length-set d k x)) in
    let first : take (k + 1) (set d k x) ≡ take k d ++ (x ∷ []) = rw (add-one k) (take-suc-set d k x (omega arith)) in
    ap (λ (n : ℕ). take n (set (set d k x) (k + 1) y)) two ∙ (second ∙ (ap (λ (l : List ℕ). l ++ (y ∷ [])) first ∙ append_assoc (take k d) (x ∷ []) (y ∷ [])))

pub loop-i-preserved : goal.loop-i-preserved
loop-i-preserved c =
    let l = c.loop-i in
    let twice : 2 * (l.i + 1) ≡ 2 * l.i + 2 = omega arith in
    let more = two_more l.digits (2 * l.i) c.digit-high.result c.digit-low.result (omega arith) in
    let digits : c.digit-high.result ∷ c.digit-low.result ∷ [] ≡ hex_byte (get_or c.args.bytes.now l.i 0) = λ j. c.digit-high.ensures j ∷ c.digit-low.ensures j ∷ [] in
    ap (λ (n : ℕ). take n (set (set l.digits (2 * l.i) c.digit-high.result) (2 * l.i + 1) c.digit-low.result)) twice
    ∙ (more ∙ ((λ j. l.invariant j ++ digits j) ∙ sym (one_more hex_byte hex_bytes refl (λ b bs. refl) c.args.bytes.now l.i (omega arith))))

pub returns : goal.returns
returns c =
    let l = c.loop-i in
    let bytes = c.args.bytes.now in
    sym (take_all (2 * l.i) l.digits (omega arith)) ∙ (l.invariant ∙ ap hex_bytes (take_all l.i bytes (omega arith)))
