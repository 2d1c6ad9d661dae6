-- Where what is read stands, and the items of a repetition.
use mathlib.Core.Path.{◌≡◌, refl, sym, ◌∙◌, ap}
use mathlib.Core.List.{List, [], ◌∷◌, ◌++◌, append_assoc, append-nil}
use Prim.Native.Nat.{ℕ, zero, suc, ◌+◌, ◌-◌, ◌*◌, ◌≤◌, ◌<◌}
use native.Mathlib.Omega.{arith}
use native.Mathlib.Numerals.{add-one}
use native.Mathlib.Nat.{suc-mul, mul-le-mul_right}
use lib.ListN.{length, get_or, take, drop, length-append, take-append-drop}
use lib.Seq.{drop-append-add, drop-append_seam, take-suc, length-take-le}
use Rattle.codes.specs.Code.{Got, got, bad, Code, and_then, read_times, AllOf, write_all, word}
use Rattle.codes.specs.Number.{put}
use Rattle.codes.proofs.Sound.{Sound, not_got}
use Rattle.codes.proofs.Put.{word_length, put_append}

-- values of w bytes each, one after the other
pub all_length : {A : Type 0} (f : A → List ℕ) (w : ℕ) → ((a : A) → length (f a) ≡ w) → (xs : List A) → length (write_all f xs) ≡ length xs * w
all_length f w h [] = omega arith
all_length f w h (x ∷ xs) = omega (arith, length-append (f x) (write_all f xs), h x, all_length f w h xs, suc-mul (length xs) w)

module _ {A : Type 0} (c : Code A) (sc : Sound c) (w : ℕ) (size : (a : A) → length (c.write a) ≡ w) (d : A) where
  past : (x : A) (l : List ℕ) (n : ℕ) → drop (w + n) (c.write x ++ l) ≡ drop n l
  past x l n = rw (← size x) (drop-append-add (c.write x) l n)

  -- the i-th value of a run of values of w bytes stands at i times w
  pub item_at : (xs : List A) → AllOf c.Valid xs → (t : List ℕ) (i : ℕ) → i < length xs → (u : List ℕ) × (c.read (drop (i * w) (write_all c.write xs ++ t)) ≡ got (get_or xs i d) u)
  item_at [] v t i h = absurd (omega arith)
  item_at (x ∷ xs) v t zero h = (write_all c.write xs ++ t, let e : 0 * w ≡ 0 = omega arith in rw (e, append_assoc) (sc.back x _ v.0))
  item_at (x ∷ xs) v t (suc i) h =
      let p = item_at xs v.1 t i (omega arith) in
      let e : suc i * w ≡ w + i * w = omega (arith, suc-mul i w) in
      (p.0, rw (append_assoc, e, past x _ (i * w)) p.1)

-- what is left of a list after some of it stands at its own length from the end
pub tail_stands : (s : List ℕ) (at : ℕ) (p t : List ℕ) → drop at s ≡ p ++ t → t ≡ drop (length s - length t) s
tail_stands s at p t e =
    let q : s ≡ (take at s ++ p) ++ t = sym (take-append-drop at s) ∙ (ap (λ (l : List ℕ). take at s ++ l) e ∙ sym (append_assoc (take at s) p t)) in
    let n : length s - length t ≡ length (take at s ++ p) = omega (arith, ap length q ∙ length-append (take at s ++ p) t) in
    sym (ap (λ (k : ℕ). drop k s) n ∙ (ap (λ (l : List ℕ). drop (length (take at s ++ p)) l) q ∙ drop-append_seam (take at s ++ p) t))

-- a run of values, written in two parts
module _ {A : Type 0} (f : A → List ℕ) where
  pub write_append : (xs ys : List A) → write_all f (xs ++ ys) ≡ write_all f xs ++ write_all f ys
  write_append [] ys = refl
  write_append (x ∷ xs) ys = rw (write_append xs ys, append_assoc)

  pub write_last : (xs : List A) (y : A) → write_all f (xs ++ (y ∷ [])) ≡ write_all f xs ++ f y
  write_last xs y = write_append xs (y ∷ []) ∙ rw append-nil

module _ (w : ℕ) (vs : List ℕ) (j : ℕ) (h : j < length vs) where
  -- a value of a run of values of w bytes stands inside the run
  pub value_inside : j * w + w ≤ length vs * w
  value_inside = omega (arith, suc-mul j w, mul-le-mul_right {m = suc j} {n = length vs} w h)

  -- one more value, after those that are put
  pub value_next : (l : List ℕ) (at : ℕ) → at + length vs * w ≤ length l → put (put l at (write_all (word w).write (take j vs))) (at + j * w) ((word w).write (get_or vs j 0)) ≡ put l at (write_all (word w).write (take (j + 1) vs))
  value_next l at k =
      let n : length (write_all (word w).write (take j vs)) ≡ j * w = all_length (word w).write w (word_length w) (take j vs) ∙ rw (length-take-le j vs (omega arith)) in
      rw (← n)
      (put_append l at (write_all (word w).write (take j vs)) ((word w).write (get_or vs j 0)) (omega (arith, value_inside, word_length w (get_or vs j 0)))
      ∙ rw (add-one, take-suc vs j 0 h, write_last (word w).write (take j vs) (get_or vs j 0)))

-- what is read in a row: the first, and then the others
pub first_read : {A : Type 0} (f : List ℕ → Got A) (n : ℕ) (s : List ℕ) (a : A) (more : List A) (u : List ℕ) → read_times f (suc n) s ≡ got (a ∷ more) u → (t : List ℕ) × (f s ≡ got a t) × (read_times f n t ≡ got more u)
first_read {A} f n s a more u = first (f s) refl
  where
    others : (x : A) (t : List ℕ) (g : Got (List A)) → f s ≡ got x t → read_times f n t ≡ g → and_then g (λ xs v. got (x ∷ xs) v) ≡ got (a ∷ more) u → (t : List ℕ) × (f s ≡ got a t) × (read_times f n t ≡ got more u)
    others x t (got xs v) e1 e2 e = (t, cc, cc)
    others x t bad e1 e2 e = not_got e

    first : (g : Got A) → f s ≡ g → and_then g (λ x t. and_then (read_times f n t) (λ xs v. got (x ∷ xs) v)) ≡ got (a ∷ more) u → (t : List ℕ) × (f s ≡ got a t) × (read_times f n t ≡ got more u)
    first (got x t) e1 e = others x t (read_times f n t) e1 refl e
    first bad e1 e = not_got e
