-- Codes that read a fixed number of bytes, whatever these are: reading is then a matter of the length.
use mathlib.Core.Path.{◌≡◌, subst}
use mathlib.Core.List.{List, [], ◌∷◌}
use Prim.Native.Nat.{ℕ, zero, suc, ◌+◌, ◌*◌, ◌%◌, ◌≤◌, ◌<◌}
use native.Mathlib.Omega.{arith}
use native.Mathlib.Numerals.{add-one}
use native.Mathlib.Nat.{add-zero, add_assoc, suc-mul, mul-le-mul, le_trans, lt_of_lt_of_le, pow-le-pow_right}
use native.Mathlib.Decide.{dec_le}
use lib.ListN.{length, get_or, drop, drop_of_length-le}
use lib.Seq.{drop-cons}
use lib.Dec.{lit≤, lit<}
use borrow.Author.Tests.{lt-ltb, eq-eqb, ne_eqb}
use Rattle.codes.specs.Code.{got, bad, Code, give, field, read_times, times, byte, fill, word}
use Rattle.codes.proofs.Sound.{word_sound, word_valid}

abbrev pub Bytes : List ℕ → Type 0
Bytes s = (i : ℕ) → get_or s i 0 < 256

pub byte_at : (s : List ℕ) → Bytes s → (at : ℕ) → at < length s → byte.read (drop at s) ≡ got (get_or s at 0) (drop (at + 1) s)
byte_at s b at h = rw (drop-cons s at 0 h, lt-ltb _ _ (b at), add-one)

pub byte_end : (s : List ℕ) (at : ℕ) → length s ≤ at → byte.read (drop at s) ≡ bad
byte_end s at h = rw (drop_of_length-le s h)

pub record Fixed {A : Type 0} (c : Code A) (w : ℕ) : Type 0 where
  pub enough : (s : List ℕ) → Bytes s → (at : ℕ) → at + w ≤ length s → (x : A) × (c.read (drop at s) ≡ got x (drop (at + w) s))
  pub short : (s : List ℕ) → Bytes s → (at : ℕ) → at ≤ length s → length s < at + w → c.read (drop at s) ≡ bad

pub fixed_byte : Fixed byte 1
fixed_byte =
    record {
      enough = λ s b at h. (get_or s at 0, byte_at s b at (omega arith));
      short = λ s b at h k. byte_end s at (omega arith);
    }

pub fixed_give : {A : Type 0} (x : A) → Fixed (give x) 0
fixed_give x = record { enough = λ s b at h. (x, rw add-zero); short = λ s b at h k. absurd (omega arith) }

module _ {R A : Type 0} (get : R → A) (c : Code A) (k : A → Code R) (w v : ℕ) (fc : Fixed c w) (fk : (a : A) → Fixed (k a) v) where
  field_enough : (s : List ℕ) → Bytes s → (at : ℕ) → at + (w + v) ≤ length s → (x : R) × ((field get c k).read (drop at s) ≡ got x (drop (at + (w + v)) s))
  field_enough s b at h =
      let p = fc.enough s b at (omega arith) in
      let q = (fk p.0).enough s b (at + w) (omega arith) in
      (q.0, rw (p.1, ← add_assoc) q.1)

  field_short : (s : List ℕ) → Bytes s → (at : ℕ) → at ≤ length s → length s < at + (w + v) → (field get c k).read (drop at s) ≡ bad
  field_short s b at h l = go (dec_le (at + w) (length s))
    where
      go : Dec (at + w ≤ length s) → (field get c k).read (drop at s) ≡ bad
      go (yes y) = let p = fc.enough s b at y in rw p.1 ((fk p.0).short s b (at + w) y (omega arith))
      go (no n) = rw (fc.short s b at h (omega arith))

  pub fixed_field : Fixed (field get c k) (w + v)
  fixed_field = record { enough = field_enough; short = field_short }

pub fixed_word : (w : ℕ) → Fixed (word w) w
fixed_word zero = fixed_give 0
fixed_word (suc w) =
    subst (λ (n : ℕ). Fixed (word (suc w)) n) (add-one w)
    (fixed_field _ _ _ w 1 (fixed_word w) (λ h. fixed_field (λ (x : ℕ). x % 256) _ _ 1 0 fixed_byte (λ l. fixed_give _)))

module _ {A : Type 0} (c : Code A) (w : ℕ) (fc : Fixed c w) where
  one_more : (n : ℕ) (s : List ℕ) (at : ℕ) (x : A) (xs : List A) → c.read (drop at s) ≡ got x (drop (at + w) s) → read_times c.read n (drop (at + w) s) ≡ got xs (drop (at + w + n * w) s) → read_times c.read (suc n) (drop at s) ≡ got (x ∷ xs) (drop (at + suc n * w) s)
  one_more n s at x xs p q =
      let e : at + suc n * w ≡ at + w + n * w = omega (arith, suc-mul n w) in
      rw (p, q, e)

  times_enough : (n : ℕ) (s : List ℕ) → Bytes s → (at : ℕ) → at + n * w ≤ length s → (x : List A) × (read_times c.read n (drop at s) ≡ got x (drop (at + n * w) s))
  times_enough zero s b at h = let e : at + 0 * w ≡ at = omega arith in ([], rw e)
  times_enough (suc n) s b at h =
      let p = fc.enough s b at (omega (arith, suc-mul n w)) in
      let q = times_enough n s b (at + w) (omega (arith, suc-mul n w)) in
      (p.0 ∷ q.0, one_more n s at p.0 q.0 p.1 q.1)

  times_short : (n : ℕ) (s : List ℕ) → Bytes s → (at : ℕ) → at ≤ length s → length s < at + n * w → read_times c.read n (drop at s) ≡ bad
  times_short zero s b at h l = absurd (omega arith)
  times_short (suc n) s b at h l = go (dec_le (at + w) (length s)) (omega (arith, suc-mul n w)) (times_short n s b (at + w))
    where
      go : Dec (at + w ≤ length s) → suc n * w ≡ w + n * w → (at + w ≤ length s → length s < at + w + n * w → read_times c.read n (drop (at + w) s) ≡ bad) → read_times c.read (suc n) (drop at s) ≡ bad
      go (yes y) e ih = let p = fc.enough s b at y in rw (p.1, ih y (omega arith))
      go (no n) e ih = rw (fc.short s b at h (omega arith))

  pub fixed_times : (n : ℕ) → Fixed (times n c) (n * w)
  fixed_times n = record { enough = times_enough n; short = times_short n }

-- A fill is read byte by byte where these are zero, and nowhere else.
module _ {A : Type 0} (x : A) (n : ℕ) (s : List ℕ) (b : Bytes s) (at : ℕ) (h : at < length s) where
  pub fill_zero : get_or s at 0 ≡ 0 → (fill (suc n) x).read (drop at s) ≡ (fill n x).read (drop (at + 1) s)
  fill_zero z = rw (byte_at s b at h, eq-eqb (get_or s at 0) 0 z)

  pub fill_other : (get_or s at 0 ≡ 0 → ⊥) → (fill (suc n) x).read (drop at s) ≡ bad
  fill_other z = rw (byte_at s b at h, ne_eqb (get_or s at 0) 0 z)

-- a count of bytes that a byte says, of values of at most four bytes, is small
pub small : (n z : ℕ) → n < 256 → z ≤ 4 → n * z ≤ 1020
small n z h k = let i : n ≤ 255 = omega arith in le_trans (mul-le-mul i k) (lit≤ tt)

-- A word that is read byte by byte.
pub word_small : (i x : ℕ) (l t : List ℕ) → (word i).read l ≡ got x t → i ≤ 3 → x < 16777216
word_small i x l t e h =
    lt_of_lt_of_le (word_valid i x ((word_sound i).only l x t e).0) (pow-le-pow_right {n = 256} (lit< tt) {i = i} {j = 3} h)

pub word_next : (s : List ℕ) → Bytes s → (at i x : ℕ) → at + i < length s → (word i).read (drop at s) ≡ got x (drop (at + i) s) → (word (i + 1)).read (drop at s) ≡ got (x * 256 + get_or s (at + i) 0) (drop (at + (i + 1)) s)
word_next s b at i x h e = rw (add-one i, e, byte_at s b (at + i) h, ← add-one i, add_assoc)
