-- How the tests of a situation and of the bytes that must be 0 go on from one place to the next.
use mathlib.Core.Path.{◌≡◌, refl, sym, ◌∙◌, ap}
use mathlib.Core.Bool.{Bool, true, cond, not, ◌&&◌, ◌||◌, and-true, and_assoc, and-eq-true_iff}
use mathlib.Core.List.{List, [], ◌∷◌}
use Prim.Native.Nat.{ℕ, zero, suc, ◌+◌, ◌*◌, ◌-◌, ◌≤◌, ◌<◌}
use native.Mathlib.Omega.{arith}
use native.Mathlib.Numerals.{add-one}
use lib.Dec.{eqb}
use Rattle.std.specs.List.{list_all, list_any, fold, range_with_len}
use Rattle.std.proofs.lemmas.List.{take_rest}
use lib.Bits.{bit_or, or_add_and, and_le_r}
use lib.ListN.{length, get_or, take, drop, replicate}
use lib.Seq.{drop-cons}
use borrow.Author.Tests.{eq-eqb, ne_eqb, eqb-true, eqb-false}
use borrow.Table.Steps.{cases}
use Rattle.codes.specs.Number.{number_at}
use Rattle.drive.specs.Faults.{situations, situation_codes, buffer_codes, is_in, zeros, proper, all_proper}
use Rattle.part.specs.Record.{words_at}
use Rattle.catalogue.proofs.Every.{every_is}
use Rattle.part.proofs.Every.{every_below}
use Rattle.part.proofs.Words.{take_words, drop_words, clear_words}

-- the library's tests of a whole list are those of the rule
pub zeros_all : (s : List ℕ) → list_all (λ x. eqb x 0) s ≡ zeros s
zeros_all [] = refl
zeros_all (x ∷ xs) = ap (λ (b : Bool). eqb x 0 && b) (zeros_all xs)

in_any : (x : ℕ) (s : List ℕ) → list_any (λ y. eqb y x) s ≡ is_in x s
in_any x [] = refl
in_any x (y ∷ ys) = ap (λ (b : Bool). eqb y x || b) (in_any x ys)

-- a code, and those after it
module _ (s : List ℕ) (i : ℕ) (h : i < length s) where
  abbrev others : List ℕ
  others = take (length s - (i + 1)) (drop (i + 1) s)

  proper_here : proper (drop i s) ≡ cond (eqb (get_or s i 0) 0) (zeros (drop (i + 1) s)) (not (is_in (get_or s i 0) (drop (i + 1) s)) && proper (drop (i + 1) s))
  proper_here = rw (drop-cons s i 0 h, add-one i)

  pub proper_zero : get_or s i 0 ≡ 0 → list_all (λ x. eqb x 0) others ≡ proper (drop i s)
  proper_zero e = rw (take_rest s (i + 1)) (zeros_all (drop (i + 1) s) ∙ sym (proper_here ∙ rw (eq-eqb (get_or s i 0) 0 e)))

  pub proper_other : (get_or s i 0 ≡ 0 → ⊥) → (t : Bool) → t ≡ list_any (λ y. eqb y (get_or s i 0)) others → proper (drop i s) ≡ (not t && proper (drop (i + 1) s))
  proper_other n t e =
      let f : t ≡ is_in (get_or s i 0) (drop (i + 1) s) = e ∙ (ap (list_any (λ y. eqb y (get_or s i 0))) (take_rest s (i + 1)) ∙ in_any (get_or s i 0) (drop (i + 1) s)) in
      proper_here ∙ rw (ne_eqb (get_or s i 0) 0 n, f)

-- bytes joined are 0 where each is
join_both : (a b : ℕ) → eqb (bit_or a b) 0 ≡ (eqb a 0 && eqb b 0)
join_both a b = cases (eqb a 0) (λ e. rw (eqb-true a 0 e)) (λ n. rw n (ne_eqb (bit_or a b) 0 (λ z. eqb-false a 0 n (omega (arith, or_add_and a b, and_le_r a b)))))

pub joined_next : (a b : ℕ) → eqb (bit_or a b) 0 ≡ true → (eqb a 0 ≡ true) × (eqb b 0 ≡ true)
joined_next a b e = (and-eq-true_iff (eqb a 0) (eqb b 0)).0 (sym (join_both a b) ∙ e)

pub joined : (a : ℕ) (s : List ℕ) → eqb (fold bit_or a s) 0 ≡ (eqb a 0 && zeros s)
joined a [] = sym (and-true (eqb a 0))
joined a (x ∷ xs) = joined (bit_or a x) xs ∙ (ap (λ (b : Bool). b && zeros xs) (join_both a x) ∙ and_assoc (eqb a 0) (eqb x 0) (zeros xs))

-- where the codes of the k-th situation stand in a buffer that begins at a place
module _ (p : List ℕ) (at : ℕ) where
  abbrev pub codes_in : ℕ → List ℕ
  codes_in k = words_at situation_codes p (at + k * (situation_codes * 2))

  from : (n a : ℕ) → list_all (λ k. proper (codes_in k)) (range_with_len a n) ≡ all_proper n (words_at (n * situation_codes) p (at + a * (situation_codes * 2)))
  from zero a = refl
  from (suc n) a =
      let here = at + a * (situation_codes * 2) in
      let all = words_at (suc n * situation_codes) p here in
      let e : suc n * situation_codes - situation_codes ≡ n * situation_codes = omega arith in
      let f : here + situation_codes * 2 ≡ at + (a + 1) * (situation_codes * 2) = omega arith in
      let first : take situation_codes all ≡ codes_in a = take_words situation_codes (suc n * situation_codes) p here (omega arith) in
      let others : drop situation_codes all ≡ words_at (n * situation_codes) p (at + (a + 1) * (situation_codes * 2)) =
      drop_words situation_codes (suc n * situation_codes) p here (omega arith) ∙ (ap (λ (k : ℕ). words_at k p (here + situation_codes * 2)) e ∙ ap (words_at (n * situation_codes) p) f) in
      ap (λ (b : Bool). proper (codes_in a) && b) (from n (a + 1))
      ∙ sym (ap (λ (l : List ℕ). proper l && all_proper n (drop situation_codes all)) first ∙ ap (λ (l : List ℕ). proper (codes_in a) && all_proper n l) others)

  pub all_situations : list_all (λ k. proper (codes_in k)) (range_with_len 0 situations) ≡ all_proper situations (words_at buffer_codes p at)
  all_situations = let e : at + 0 * (situation_codes * 2) ≡ at = omega arith in from situations 0 ∙ ap (λ (k : ℕ). all_proper situations (words_at buffer_codes p k)) e

  -- situations of at most one code each
  pub all_single : at + buffer_codes * 2 ≤ length p
      → ((k : ℕ) → k < situations → zeros (take ((situation_codes - 1) * 2) (drop (at + k * (situation_codes * 2) + 2) p)) ≡ true)
      → all_proper situations (words_at buffer_codes p at) ≡ true
  all_single room clear =
      sym all_situations
      ∙ (every_below (λ k. proper (codes_in k)) situations
      ∙ every_is (λ k. proper (codes_in k)) situations (λ k h.
      let here = at + k * (situation_codes * 2) in
      ap (λ (l : List ℕ). proper (number_at 2 p here ∷ l)) (clear_words (situation_codes - 1) p (here + 2) (omega arith) (clear k h)) ∙ single (number_at 2 p here)))
    where
      single : (x : ℕ) → proper (x ∷ replicate (situation_codes - 1) 0) ≡ true
      single x = cases (eqb x 0) (λ e. rw e) (λ n. rw (n, ne_eqb 0 x (λ e. eqb-false x 0 n (omega arith))))
