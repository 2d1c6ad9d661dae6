-- Bytes put at a place: what is left of the list, and a number put byte by byte from its end.
use mathlib.Core.Path.{◌≡◌, refl, sym, ◌∙◌, ap}
use mathlib.Core.List.{List, [], ◌∷◌, ◌++◌, append_assoc}
use Prim.Native.Nat.{ℕ, zero, suc, ◌+◌, ◌-◌, ◌/◌, ◌%◌, ◌≤◌, ◌<◌}
use native.Mathlib.Omega.{arith}
use native.Mathlib.Numerals.{add-one}
use native.Mathlib.Nat.{add-zero}
use native.Mathlib.Decide.{dec_le}
use lib.ListN.{length, get_or, take, drop, set, replicate, length-append, length-drop, take-append-drop, get_or-append}
use lib.Seq.{sets, sets-eq, length-take-le, take-set-le, take_at, drop-cons, drop-set-lt, drop-append-add, drop-drop, get_or-set_same, get_or-take, lt-length-set}
use borrow.Author.Tests.{le-leb, lt-leb}
use Rattle.codes.specs.Code.{fill, word}
use Rattle.codes.specs.Number.{put}

pub word_length : (w x : ℕ) → length ((word w).write x) ≡ w
word_length zero x = refl
word_length (suc w) x = omega (arith, length-append ((word w).write (x / 256)) (x % 256 ∷ []), word_length w (x / 256))

pub fill_bytes : {A : Type 0} (n : ℕ) (x y : A) → (fill n x).write y ≡ replicate n 0
fill_bytes zero x y = refl
fill_bytes (suc n) x y = ap (λ (l : List ℕ). 0 ∷ l) (fill_bytes n x y)

module _ (l : List ℕ) (at : ℕ) (bs : List ℕ) where
  pub put_fits : at + length bs ≤ length l → put l at bs ≡ take at l ++ (bs ++ drop (at + length bs) l)
  unfolding put
  put_fits h = rw (le-leb (at + length bs) (length l) h)

  -- what does not fit is not put
  pub put_too_long : length l < at + length bs → put l at bs ≡ l
  unfolding put
  put_too_long h = rw (lt-leb (at + length bs) (length l) h)

  pub put_length : length (put l at bs) ≡ length l
  put_length = go (dec_le (at + length bs) (length l))
    where
      go : Dec (at + length bs ≤ length l) → length (put l at bs) ≡ length l
      go (yes h) =
          ap length (put_fits h)
          ∙ omega (arith, length-append (take at l) (bs ++ drop (at + length bs) l), length-append bs (drop (at + length bs) l), length-take-le at l (omega arith), length-drop (at + length bs) l)
      go (no n) = ap length (put_too_long (omega arith))

  -- no byte elsewhere changes
  pub put_before : (k : ℕ) → k < at → get_or (put l at bs) k 0 ≡ get_or l k 0
  put_before k b = go (dec_le (at + length bs) (length l))
    where
      go : Dec (at + length bs ≤ length l) → get_or (put l at bs) k 0 ≡ get_or l k 0
      go (yes h) =
          ap (λ (x : List ℕ). get_or x k 0) (put_fits h)
          ∙ (get_or-append (take at l) (bs ++ drop (at + length bs) l) 0 k (omega (arith, length-take-le at l (omega arith)))
          ∙ get_or-take at l k 0 b)
      go (no n) = ap (λ (x : List ℕ). get_or x k 0) (put_too_long (omega arith))

  pub put_drop : (k : ℕ) → at + length bs ≤ k → drop k (put l at bs) ≡ drop k l
  put_drop k b = go (dec_le (at + length bs) (length l))
    where
      go : Dec (at + length bs ≤ length l) → drop k (put l at bs) ≡ drop k l
      go (yes h) =
          let e : k ≡ length (take at l) + (length bs + (k - (at + length bs))) = omega (arith, length-take-le at l (omega arith)) in
          let f : at + length bs + (k - (at + length bs)) ≡ k = omega arith in
          ap (λ (x : List ℕ). drop k x) (put_fits h)
          ∙ (ap (λ (j : ℕ). drop j (take at l ++ (bs ++ drop (at + length bs) l))) e
          ∙ (drop-append-add (take at l) (bs ++ drop (at + length bs) l) (length bs + (k - (at + length bs)))
          ∙ (drop-append-add bs (drop (at + length bs) l) (k - (at + length bs))
          ∙ (drop-drop (k - (at + length bs)) (at + length bs) l ∙ ap (λ (j : ℕ). drop j l) f))))
      go (no n) = ap (λ (x : List ℕ). drop k x) (put_too_long (omega arith))

pub put_none : (l : List ℕ) (at : ℕ) → put l at [] ≡ l
put_none l at = go (dec_le (at + 0) (length l))
  where
    go : Dec (at + 0 ≤ length l) → put l at [] ≡ l
    go (yes h) = put_fits l at [] h ∙ rw add-zero (take-append-drop at l)
    go (no n) = put_too_long l at [] (omega arith)

-- one more byte, before those that are put
pub put_more : (l : List ℕ) (at i x : ℕ) → at + i < length l → put (set l (at + i) (x % 256)) at ((word i).write (x / 256)) ≡ put l at ((word (i + 1)).write x)
put_more l at i x h =
    let e : at + length ((word (suc i)).write x) ≡ suc (at + i) = omega (arith, word_length (suc i) x) in
    let f : at + length ((word i).write (x / 256)) ≡ at + i = omega (arith, word_length i (x / 256)) in
    let m = set l (at + i) (x % 256) in
    put_fits m at ((word i).write (x / 256)) (omega (arith, lt-length-set l (at + i) (x % 256) h))
    ∙ (rw (f, take-set-le at l (at + i) (x % 256) (omega arith), drop-cons m (at + i) 0 (lt-length-set l (at + i) (x % 256) h), get_or-set_same l (at + i) (x % 256) 0 h, drop-set-lt (suc (at + i)) l (at + i) (x % 256) (omega arith), add-one i, e, append_assoc) refl
    ∙ sym (put_fits l at ((word (i + 1)).write x) (omega (arith, word_length (i + 1) x))))

-- what follows bytes that are put is put with them
pub put_append : (l : List ℕ) (at : ℕ) (bs cs : List ℕ) → at + (length bs + length cs) ≤ length l → put (put l at bs) (at + length bs) cs ≡ put l at (bs ++ cs)
put_append l at bs cs h =
    let n : length (bs ++ cs) ≡ length bs + length cs = length-append bs cs in
    let m = put l at bs in
    let f : m ≡ (take at l ++ bs) ++ drop (at + length bs) l = put_fits l at bs (omega arith) ∙ sym (append_assoc (take at l) bs (drop (at + length bs) l)) in
    let g : length (take at l ++ bs) ≡ at + length bs = length-append (take at l) bs ∙ omega (arith, length-take-le at l (omega arith)) in
    let a : at + length bs + length cs ≡ at + length (bs ++ cs) = omega arith in
    put_fits m (at + length bs) cs (omega (arith, put_length l at bs))
    ∙ (rw (put_drop l at bs (at + length bs + length cs) (omega arith), f, take_at (take at l ++ bs) (drop (at + length bs) l) (at + length bs) g, a, append_assoc, append_assoc, n) refl
    ∙ sym (put_fits l at (bs ++ cs) (omega arith)))

-- what is put over no more bytes is all that is put
pub put_over : (l : List ℕ) (at : ℕ) (bs cs : List ℕ) → length bs ≤ length cs → at + length cs ≤ length l → put (put l at bs) at cs ≡ put l at cs
put_over l at bs cs over h =
    let m = put l at bs in
    let f : m ≡ take at l ++ (bs ++ drop (at + length bs) l) = put_fits l at bs (omega arith) in
    let front : take at m ≡ take at l = ap (take at) f ∙ take_at (take at l) (bs ++ drop (at + length bs) l) at (length-take-le at l (omega arith)) in
    put_fits m at cs (omega (arith, put_length l at bs))
    ∙ (rw (front, put_drop l at bs (at + length cs) (omega arith)) refl ∙ sym (put_fits l at cs h))

-- bytes stored one by one are put
pub sets_put : (l : List ℕ) (at : ℕ) (bs : List ℕ) → at + length bs ≤ length l → sets l at bs ≡ put l at bs
sets_put l at bs h = sets-eq bs l at h ∙ (append_assoc (take at l) bs (drop (at + length bs) l) ∙ sym (put_fits l at bs h))
