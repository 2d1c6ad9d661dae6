-- Windows of a list: what is put is found there, and a window apart from it is as it was.
use mathlib.Core.Path.{◌≡◌, sym, ap, ◌∙◌}
use mathlib.Core.List.{List, ◌++◌}
use Prim.Native.Nat.{ℕ, ◌+◌, ◌-◌, ◌≤◌, ◌<◌}
use native.Mathlib.Omega.{arith}
use lib.ListN.{length, take, drop, get_or, length-append, length-drop, get_or-append, take-append-drop}
use lib.Seq.{length-take-le, take_at, drop_at, get_or-take, get_or-drop, get_or-append-add, ext_get_or, drop-drop}
use Rattle.station.specs.Parts.{window, with_window}

pub length_window : (a n : ℕ) (s : List ℕ) → a + n ≤ length s → length (window a n s) ≡ n
unfolding window
length_window a n s h = length-take-le n (drop a s) (rw length-drop (omega arith))

at_window : (a n : ℕ) (s : List ℕ) (i : ℕ) → i < n → get_or (window a n s) i 0 ≡ get_or s (a + i) 0
unfolding window
at_window a n s i h = get_or-take n (drop a s) i 0 h ∙ get_or-drop a s i 0

-- a window put back as it was
pub with_same : (a n : ℕ) (s : List ℕ) → with_window a n (window a n s) s ≡ s
unfolding window with_window
with_same a n s = ap (λ (l : List ℕ). take a s ++ l) (take-append-drop n (drop a s)) ∙ take-append-drop a s

module _ (a n : ℕ) (ys s : List ℕ) (h : a + n ≤ length s) (l : length ys ≡ n) where
  front : length (take a s) ≡ a
  front = length-take-le a s (omega arith)

  pub length_with : length (with_window a n ys s) ≡ length s
  unfolding with_window
  length_with = simp (length-append, length-drop, front, l) (omega arith)

  at_before : (i : ℕ) → i < a → get_or (with_window a n ys s) i 0 ≡ get_or s i 0
  unfolding with_window
  at_before i b =
      let f : length (take a s) ≡ a = front in
      get_or-append (take a s) (ys ++ drop n (drop a s)) 0 i (omega arith) ∙ get_or-take a s i 0 b

  -- past the front
  past : (j : ℕ) → get_or (with_window a n ys s) (a + j) 0 ≡ get_or (ys ++ drop n (drop a s)) j 0
  unfolding with_window
  past j =
      ap (λ (k : ℕ). get_or (take a s ++ (ys ++ drop n (drop a s))) (k + j) 0) (sym front)
      ∙ get_or-append-add (take a s) (ys ++ drop n (drop a s)) j 0

  at_after : (i : ℕ) → a + n ≤ i → get_or (with_window a n ys s) i 0 ≡ get_or s i 0
  at_after i b =
      let e : a + (length ys + (i - (a + n))) ≡ i = omega arith in
      let f : a + n + (i - (a + n)) ≡ i = omega arith in
      ap (λ (k : ℕ). get_or (with_window a n ys s) k 0) (sym e)
      ∙ past (length ys + (i - (a + n)))
      ∙ get_or-append-add ys (drop n (drop a s)) (i - (a + n)) 0
      ∙ ap (λ (m : List ℕ). get_or m (i - (a + n)) 0) (drop-drop n a s)
      ∙ get_or-drop (a + n) s (i - (a + n)) 0
      ∙ ap (λ (k : ℕ). get_or s k 0) f

  pub window_same : window a n (with_window a n ys s) ≡ ys
  unfolding window with_window
  window_same = ap (take n) (drop_at (take a s) (ys ++ drop n (drop a s)) a front) ∙ take_at ys (drop n (drop a s)) n l

  -- what is put there again is all that is put
  pub with_again : (zs : List ℕ) → with_window a n zs (with_window a n ys s) ≡ with_window a n zs s
  unfolding with_window
  with_again zs =
      let t = take a s ++ (ys ++ drop n (drop a s)) in
      let first : take a t ≡ take a s = take_at (take a s) (ys ++ drop n (drop a s)) a front in
      let rest : drop n (drop a t) ≡ drop n (drop a s) =
      ap (drop n) (drop_at (take a s) (ys ++ drop n (drop a s)) a front) ∙ drop_at ys (drop n (drop a s)) n l in
      rw (first, rest)

  -- a window whose every place is as it was
  kept : (b m : ℕ) → b + m ≤ length s → ((i : ℕ) → i < m → get_or (with_window a n ys s) (b + i) 0 ≡ get_or s (b + i) 0)
      → window b m (with_window a n ys s) ≡ window b m s
  kept b m o same =
      let u : length (window b m (with_window a n ys s)) ≡ m = length_window b m (with_window a n ys s) (omega (arith, length_with)) in
      ext_get_or 0 (window b m (with_window a n ys s)) (window b m s) (u ∙ sym (length_window b m s o))
      (λ i k. at_window b m (with_window a n ys s) i (omega arith) ∙ same i (omega arith) ∙ sym (at_window b m s i (omega arith)))

  pub window_before : (b m : ℕ) → b + m ≤ a → window b m (with_window a n ys s) ≡ window b m s
  window_before b m d = kept b m (omega arith) (λ i k. at_before (b + i) (omega arith))

  pub window_after : (b m : ℕ) → a + n ≤ b → b + m ≤ length s → window b m (with_window a n ys s) ≡ window b m s
  window_after b m d o = kept b m o (λ i k. at_after (b + i) (omega arith))
