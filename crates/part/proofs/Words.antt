-- The words of a run, read one after the other.
use mathlib.Core.Path.{◌≡◌, refl, sym, ◌∙◌, ap, subst}
use mathlib.Core.Bool.{true, and-eq-true_iff}
use mathlib.Core.List.{List, [], ◌∷◌, ◌++◌, map, append_assoc}
use denote.Param.Members.{Mut}
use native.Mathlib.Decide.{dec_le}
use Rattle.std.specs.Array.{IsFromFnResultFrom, IsFromFnResult}
use Rattle.std.proofs.lemmas.List.FromFn.{fill_by_all}
use Rattle.std.specs.Fn.{Called}
use Rattle.std.specs.List.{range_with_len}
use Prim.Native.Nat.{ℕ, zero, suc, ◌+◌, ◌*◌, ◌-◌, ◌≤◌, ◌<◌}
use native.Mathlib.Omega.{arith}
use lib.Dec.{eqb, lit≤, lit<}
use lib.ListN.{length, get_or, take, drop, replicate, length-drop, length-replicate, take-append-drop}
use lib.Seq.{drop_at, drop-drop, length-take-le}
use borrow.Author.Tests.{eqb-true}
use Rattle.codes.specs.Code.{AllOf, word, write_all}
use Rattle.codes.specs.Number.{number_at, put}
use Rattle.codes.proofs.Sound.{word_sound, valid_word}
use Rattle.codes.proofs.Put.{word_length, put_fits}
use Rattle.codes.proofs.Number.{number_is}
use Rattle.codes.proofs.Items.{all_length}
use Rattle.drive.specs.Faults.{zeros}
use Rattle.part.specs.Record.{words_at}

-- what `from_fn` makes by a closure that stays as it is
module _ {F : Type 0} {g : Mut F (ℕ × Unit {0}) ℕ} {f : F} (h : ℕ → ℕ) (call : (i y : ℕ) (q : F) → Called g f (i, tt) y q → (q ≡ f) × (y ≡ h i)) (ys : List ℕ) where
  each_made : (i n : ℕ) → IsFromFnResultFrom g f ys i n → (k : ℕ) → i ≤ k → k < i + n → get_or ys k 0 ≡ h k
  each_made i zero m k a b = absurd (omega arith)
  each_made i (suc n) m k a b =
      let u = call i m.1 m.0 m.3 in
      go (dec_le k i) u (each_made (i + 1) n (subst (λ (q : F). IsFromFnResultFrom g q ys (i + 1) n) u.0 m.4) k)
    where
      go : Dec (k ≤ i) → (m.0 ≡ f) × (m.1 ≡ h i) → (i + 1 ≤ k → k < i + 1 + n → get_or ys k 0 ≡ h k) → get_or ys k 0 ≡ h k
      go (yes y) u later = let e : k ≡ i = omega arith in rw e (m.2.1 0 ∙ u.1)
      go (no y) u later = later (omega arith) (omega arith)

  made : (n : ℕ) → IsFromFnResult g f ys n → ys ≡ map h (range_with_len 0 n)
  made n m = fill_by_all h ys n 0 m.long (λ k l. each_made 0 n m.each k (omega arith) (omega arith))

-- the words, made so
module _ (n : ℕ) (p : List ℕ) (at : ℕ) where
  abbrev word_in : ℕ → ℕ
  word_in i = number_at 2 p (at + i * 2)

  from : (a k : ℕ) → map word_in (range_with_len a k) ≡ words_at k p (at + a * 2)
  from a zero = refl
  from a (suc k) =
      let e : at + (a + 1) * 2 ≡ at + a * 2 + 2 = omega arith in
      ap (λ (l : List ℕ). word_in a ∷ l) (from (a + 1) k ∙ ap (words_at k p) e)

  pub words_made : {F : Type 0} {g : Mut F (ℕ × Unit {0}) ℕ} {f : F} (ys : List ℕ) → IsFromFnResult g f ys n
      → ((i y : ℕ) (q : F) → Called g f (i, tt) y q → (q ≡ f) × (y ≡ number_at 2 p (at + i * 2))) → ys ≡ words_at n p at
  words_made ys m call =
      let e : at + 0 * 2 ≡ at = omega arith in
      made word_in call ys n m ∙ (from 0 n ∙ ap (words_at n p) e)

-- some words of a run are a run of their own
pub take_words : (k n : ℕ) (p : List ℕ) (at : ℕ) → k ≤ n → take k (words_at n p at) ≡ words_at k p at
take_words zero n p at h = refl
take_words (suc k) zero p at h = absurd (omega arith)
take_words (suc k) (suc n) p at h = ap (λ (l : List ℕ). number_at 2 p at ∷ l) (take_words k n p (at + 2) (omega arith))

pub drop_words : (k n : ℕ) (p : List ℕ) (at : ℕ) → k ≤ n → drop k (words_at n p at) ≡ words_at (n - k) p (at + k * 2)
drop_words zero n p at h = let e : at + 0 * 2 ≡ at = omega arith in let f : n - 0 ≡ n = omega arith in rw (e, f)
drop_words (suc k) zero p at h = absurd (omega arith)
drop_words (suc k) (suc n) p at h =
    let e : at + 2 + k * 2 ≡ at + suc k * 2 = omega arith in
    let f : n - k ≡ suc n - suc k = omega arith in
    drop_words k n p (at + 2) (omega arith) ∙ (ap (words_at (n - k) p) e ∙ ap (λ (j : ℕ). words_at j p (at + suc k * 2)) f)

abbrev pub Words : List ℕ → Type 0
Words = AllOf (λ (x : ℕ). x < 65536)

words_read : (b q : List ℕ) (at : ℕ) (t : List ℕ) → Words b → drop at q ≡ write_all (word 2).write b ++ t → words_at (length b) q at ≡ b
words_read [] q at t v e = refl
words_read (x ∷ xs) q at t v e =
    let others = write_all (word 2).write xs ++ t in
    let f : drop at q ≡ (word 2).write x ++ others = e ∙ append_assoc ((word 2).write x) (write_all (word 2).write xs) t in
    let first : number_at 2 q at ≡ x = number_is 2 q at x others (lit≤ tt) (ap (word 2).read f ∙ (word_sound 2).back x others (valid_word 2 x v.0)) in
    let rest : drop (at + 2) q ≡ others = sym (drop-drop 2 at q) ∙ (ap (drop 2) f ∙ drop_at ((word 2).write x) others 2 (word_length 2 x)) in
    ap (λ (y : ℕ). y ∷ words_at (length xs) q (at + 2)) first ∙ ap (λ (l : List ℕ). x ∷ l) (words_read xs q (at + 2) t v.1 rest)

-- words that are put are got back
pub words_put : (b l : List ℕ) (at : ℕ) → Words b → at + length b * 2 ≤ length l → words_at (length b) (put l at (write_all (word 2).write b)) at ≡ b
words_put b l at v room =
    let bs = write_all (word 2).write b in
    let n = all_length (word 2).write 2 (word_length 2) b in
    words_read b (put l at bs) at (drop (at + length bs) l) v
    (ap (drop at) (put_fits l at bs (omega arith)) ∙ drop_at (take at l) (bs ++ drop (at + length bs) l) at (length-take-le at l (omega arith)))

zeros_are : (s : List ℕ) → zeros s ≡ true → s ≡ replicate (length s) 0
zeros_are [] h = refl
zeros_are (y ∷ ys) h =
    let both = (and-eq-true_iff (eqb y 0) (zeros ys)).0 h in
    rw (eqb-true y 0 both.0) (ap (λ (l : List ℕ). 0 ∷ l) (zeros_are ys both.1))

-- where every byte of some words is 0, so is every word
pub clear_words : (n : ℕ) (p : List ℕ) (at : ℕ) → at + n * 2 ≤ length p → zeros (take (n * 2) (drop at p)) ≡ true → words_at n p at ≡ replicate n 0
clear_words n p at room h =
    let bs = take (n * 2) (drop at p) in
    let m : length bs ≡ n * 2 = length-take-le (n * 2) (drop at p) (omega (arith, length-drop at p)) in
    let clear : bs ≡ write_all (word 2).write (replicate n 0) = zeros_are bs h ∙ (ap (λ (k : ℕ). replicate k 0) m ∙ sym (written n)) in
    ap (λ (k : ℕ). words_at k p at) (sym (length-replicate {A = ℕ} n 0))
    ∙ words_read (replicate n 0) p at (drop (n * 2) (drop at p)) (small n)
    (sym (take-append-drop (n * 2) (drop at p)) ∙ ap (λ (l : List ℕ). l ++ drop (n * 2) (drop at p)) clear)
  where
    small : (n : ℕ) → Words (replicate n 0)
    small zero = tt
    small (suc n) = (lit< tt, small n)

    written : (n : ℕ) → write_all (word 2).write (replicate n 0) ≡ replicate (n * 2) 0
    written zero = refl
    written (suc n) = let e : suc n * 2 ≡ suc (suc (n * 2)) = omega arith in rw e (ap (λ (l : List ℕ). 0 ∷ 0 ∷ l) (written n))
