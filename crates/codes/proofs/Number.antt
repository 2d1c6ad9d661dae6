-- Numbers at a place: how large they are, where there are none, that what is put is got back and no other changes, numbers in turn, and that
-- what is read is written back as it was.
use mathlib.Core.Path.{◌≡◌, refl, sym, ◌∙◌, ap}
use mathlib.Core.Bool.{Bool, true, false, cond}
use mathlib.Core.List.{List, [], ◌++◌, append-nil, append_assoc}
use Prim.Native.Nat.{ℕ, zero, suc, ◌+◌, ◌-◌, ◌*◌, ◌≤◌, ◌<◌, ◌^◌}
use native.Mathlib.Omega.{arith}
use native.Mathlib.Nat.{one-le-pow, zero-add, suc-mul}
use native.Mathlib.Decide.{dec_le}
use lib.ListN.{length, get_or, take, drop, length-drop, drop_of_length-le, take-append-drop}
use lib.Seq.{length-take-le, take-add, take_at, drop_at, drop-append-le, drop-drop}
use lib.Dec.{leb}
use borrow.Author.Tests.{le-leb, lt-leb}
use Rattle.codes.specs.Code.{Got, got, bad, Code, word, write_all}
use Rattle.codes.specs.Number.{value_or, number_at, numbers_at, put}
use Rattle.codes.proofs.Sound.{Sound, not_got, word_sound, word_valid, valid_word}
use Rattle.codes.proofs.Fixed.{Bytes, byte_at, fixed_word}
use Rattle.codes.proofs.Put.{word_length, put_fits, put_too_long, put_drop}

-- a reader of w bytes looks at no byte after them
module _ {A : Type 0} (c : Code A) (sc : Sound c) (w : ℕ) (size : (a : A) → length (c.write a) ≡ w) where
  same_front : (p s t : List ℕ) → length p ≡ w → (a : A) (u : List ℕ) → c.read (p ++ s) ≡ got a u → c.read (p ++ t) ≡ got a t
  same_front p s t h a u e =
      let k = sc.only (p ++ s) a u e in
      let q : p ≡ c.write a = sym (take_at p s w h) ∙ (ap (λ (l : List ℕ). take w l) k.1 ∙ take_at (c.write a) u w (size a)) in
      rw q (sc.back a t k.0)

  pub front_only : (d : A) (p s t : List ℕ) → length p ≡ w → value_or d (c.read (p ++ s)) ≡ value_or d (c.read (p ++ t))
  front_only d p s t h = go (c.read (p ++ s)) (c.read (p ++ t)) refl refl
    where
      go : (g k : Got A) → c.read (p ++ s) ≡ g → c.read (p ++ t) ≡ k → value_or d g ≡ value_or d k
      go (got a u) k e f = ap (value_or d) (sym (same_front p s t h a u e) ∙ f)
      go bad (got b v) e f = not_got (sym e ∙ same_front p t s h b v f)
      go bad bad e f = refl

pub number_is : (w : ℕ) (s : List ℕ) (at x : ℕ) (t : List ℕ) → w ≤ 4 → (word w).read (drop at s) ≡ got x t → number_at w s at ≡ x
unfolding number_at
number_is w s at x t h e = rw (le-leb w 4 h, e)

pub number_small : (w : ℕ) (s : List ℕ) (at : ℕ) → number_at w s at < 256 ^ w
unfolding number_at
number_small w s at = pick (leb w 4)
  where
    some : 0 < 256 ^ w
    some = omega (arith, one-le-pow w 256 (omega arith))

    go : (g : Got ℕ) → (word w).read (drop at s) ≡ g → value_or 0 g < 256 ^ w
    go (got x t) e = word_valid w x ((word_sound w).only (drop at s) x t e).0
    go bad e = some

    pick : (b : Bool) → cond b (value_or 0 ((word w).read (drop at s))) 0 < 256 ^ w
    pick true = go ((word w).read (drop at s)) refl
    pick false = some

pub number_wide : (w : ℕ) (s : List ℕ) (at : ℕ) → 4 < w → number_at w s at ≡ 0
unfolding number_at
number_wide w s at h = rw (lt-leb w 4 h)

pub number_short : (w : ℕ) (s : List ℕ) → Bytes s → (at : ℕ) → length s < at + w → number_at w s at ≡ 0
unfolding number_at
number_short w s b at h = pick (leb w 4)
  where
    none : (k : ℕ) → value_or 0 ((word k).read []) ≡ 0
    none zero = refl
    none (suc k) = rw ((fixed_word (suc k)).short [] (λ i. omega arith) 0 (omega arith) (omega arith))

    go : Dec (at ≤ length s) → value_or 0 ((word w).read (drop at s)) ≡ 0
    go (yes y) = rw ((fixed_word w).short s b at y h)
    go (no n) = rw (drop_of_length-le s {i = at} (omega arith)) (none w)

    pick : (t : Bool) → cond t (value_or 0 ((word w).read (drop at s))) 0 ≡ 0
    pick true = go (dec_le at (length s))
    pick false = refl

pub byte_number : (s : List ℕ) → Bytes s → (at : ℕ) → at < length s → number_at 1 s at ≡ get_or s at 0
byte_number s b at h = number_is 1 s at (get_or s at 0) (drop (at + 1) s) (omega arith) (rw (byte_at s b at h, zero-add) refl)

-- what is put is got back
pub number_put : (w : ℕ) (l : List ℕ) (at x : ℕ) → w ≤ 4 → at + w ≤ length l → x < 256 ^ w → number_at w (put l at ((word w).write x)) at ≡ x
number_put w l at x h room small =
    let bs = (word w).write x in
    let n = word_length w x in
    let t = drop (at + length bs) l in
    let e : drop at (put l at bs) ≡ bs ++ t = ap (λ (k : List ℕ). drop at k) (put_fits l at bs (omega arith)) ∙ drop_at (take at l) (bs ++ t) at (length-take-le at l (omega arith)) in
    number_is w (put l at bs) at x t h (ap (word w).read e ∙ (word_sound w).back x t (valid_word w x small))

-- a number that ends in p does not hang on what follows p
number_front : (w k : ℕ) (p x y : List ℕ) → k + w ≤ length p → number_at w (p ++ x) k ≡ number_at w (p ++ y) k
unfolding number_at
number_front w k p x y h =
    let q = drop k p in
    let split : (z : List ℕ) → drop k (p ++ z) ≡ take w q ++ (drop w q ++ z) = λ z. drop-append-le k p z (omega arith) ∙ (ap (λ (l : List ℕ). l ++ z) (sym (take-append-drop w q)) ∙ append_assoc (take w q) (drop w q) z) in
    rw (split x, split y) (ap (λ (v : ℕ). cond (leb w 4) v 0) (front_only (word w) (word_sound w) w (word_length w) 0 (take w q) (drop w q ++ x) (drop w q ++ y) (length-take-le w q (omega (arith, length-drop k p)))))

-- a number in a part of a list is the list's own
pub number_within : (w : ℕ) (s : List ℕ) (at n k : ℕ) → k + w ≤ n → at + n ≤ length s → number_at w (take n (drop at s)) k ≡ number_at w s (at + k)
unfolding number_at
number_within w s at n k h room =
    let d = drop at s in
    let long : length (take n d) ≡ n = length-take-le n d (omega (arith, length-drop at s)) in
    ap (λ (l : List ℕ). number_at w l k) (sym (append-nil (take n d)))
    ∙ (number_front w k (take n d) [] (drop n d) (omega arith)
    ∙ (ap (λ (l : List ℕ). number_at w l k) (take-append-drop n d) ∙ rw (drop-drop k at s) refl))

-- the number that the part from at to at + w is, is the list's own there
pub number_of_part : (w : ℕ) (s : List ℕ) (at x : ℕ) → w ≤ 4 → at + w ≤ length s → let p = take (at + w - at) (drop at s) in (word (length p)).read p ≡ got x [] → x ≡ number_at w s at
number_of_part w s at x narrow room =
    let n : at + w - at ≡ w = omega arith in
    let long : length (take w (drop at s)) ≡ w = length-take-le w (drop at s) (omega (arith, length-drop at s)) in
    let z : at + 0 ≡ at = omega arith in
    rw (n, long)
    (λ e. sym (number_is w (take w (drop at s)) 0 x [] narrow e) ∙ (number_within w s at w 0 (omega arith) room ∙ ap (number_at w s) z))

-- and a number elsewhere is as it was
module _ (w : ℕ) (l : List ℕ) (at : ℕ) (bs : List ℕ) (k : ℕ) where
  pub number_after : at + length bs ≤ k → number_at w (put l at bs) k ≡ number_at w l k
  unfolding number_at
  number_after h = rw (put_drop l at bs k h)

  pub number_before : k + w ≤ at → number_at w (put l at bs) k ≡ number_at w l k
  number_before h = go (dec_le (at + length bs) (length l))
    where
      go : Dec (at + length bs ≤ length l) → number_at w (put l at bs) k ≡ number_at w l k
      go (yes y) =
          ap (λ (m : List ℕ). number_at w m k) (put_fits l at bs y)
          ∙ (number_front w k (take at l) (bs ++ drop (at + length bs) l) (drop at l) (omega (arith, length-take-le at l (omega arith)))
          ∙ ap (λ (m : List ℕ). number_at w m k) (take-append-drop at l))
      go (no n) = ap (λ (m : List ℕ). number_at w m k) (put_too_long l at bs (omega arith))

-- numbers one after the other: how many there are, and that two lists have the same where each is the same
pub numbers_length : (w n : ℕ) (s : List ℕ) (at : ℕ) → length (numbers_at w n s at) ≡ n
numbers_length w zero s at = refl
numbers_length w (suc n) s at = ap suc (numbers_length w n s (at + w))

pub numbers_same : (w n : ℕ) (s t : List ℕ) (at : ℕ) → ((i : ℕ) → i < n → number_at w s (at + i * w) ≡ number_at w t (at + i * w)) → numbers_at w n s at ≡ numbers_at w n t at
numbers_same w zero s t at h = refl
numbers_same w (suc n) s t at h =
    let first : number_at w s at ≡ number_at w t at = let z : at + 0 * w ≡ at = omega arith in rw z at (h 0 (omega arith)) in
    rw (first, numbers_same w n s t (at + w) (λ i k. let z : at + w + i * w ≡ at + suc i * w = omega arith in rw z (h (suc i) (omega arith))))

-- a number that is read is written as the bytes that it was read from, and so are numbers in turn
module _ (w : ℕ) (s : List ℕ) (b : Bytes s) (narrow : w ≤ 4) where
  pub number_back : (at : ℕ) → at + w ≤ length s → (word w).write (number_at w s at) ≡ take w (drop at s)
  number_back at h =
      let t = drop (at + w) s in
      let p = (fixed_word w).enough s b at h in
      let x = p.0 in
      let split : drop at s ≡ (word w).write x ++ t = ((word_sound w).only (drop at s) x t p.1).1 in
      ap (word w).write (number_is w s at x t narrow p.1) ∙ sym (ap (take w) split ∙ take_at ((word w).write x) t w (word_length w x))

  pub numbers_back : (n at : ℕ) → at + n * w ≤ length s → write_all (word w).write (numbers_at w n s at) ≡ take (n * w) (drop at s)
  numbers_back zero at h = let z : 0 * w ≡ 0 = omega arith in rw z
  numbers_back (suc n) at h =
      let e : suc n * w ≡ w + n * w = suc-mul n w ∙ omega arith in
      rw (e, take-add w (n * w) (drop at s), drop-drop w at s, number_back at (omega (arith, e)), numbers_back n (at + w) (omega (arith, e)))
