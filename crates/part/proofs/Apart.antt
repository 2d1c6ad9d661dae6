-- Bytes put at several places, one after the other: what stands apart from all of them is as it was.
use mathlib.Core.Path.{◌≡◌, refl, sym, ◌∙◌, ap}
use mathlib.Core.Bool.{Bool, true, ◌&&◌, ◌||◌, and-eq-true_iff}
use mathlib.Core.List.{List, [], ◌∷◌, ◌++◌}
use Prim.Native.Nat.{ℕ, ◌+◌, ◌^◌, ◌≤◌, ◌<◌}
use native.Mathlib.Omega.{arith}
use native.Mathlib.Decide.{dec_le}
use lib.Dec.{leb}
use lib.ListN.{length, take, drop, length-drop, take-append-drop}
use lib.Seq.{length-take-le, take-append-le, drop-append-le}
use borrow.Author.Tests.{leb-true}
use borrow.Table.Steps.{cases}
use Rattle.codes.specs.Code.{word}
use Rattle.codes.specs.Number.{number_at, put}
use Rattle.codes.proofs.Put.{put_length, put_fits, put_too_long, put_drop}
use Rattle.codes.proofs.Number.{number_put, number_after, number_before}

-- some bytes, how many they are, and where they go
pub record Write : Type 0 where
  pub at : ℕ
  pub size : ℕ
  pub bytes : List ℕ
  pub sized : length bytes ≡ size

-- the first of the list is done last
abbrev pub puts : List Write → List ℕ → List ℕ
puts [] p = p
puts (x ∷ xs) p = put (puts xs p) x.at x.bytes

pub puts_length : (xs : List Write) (p : List ℕ) → length (puts xs p) ≡ length p
puts_length [] p = refl
puts_length (x ∷ xs) p = put_length (puts xs p) x.at x.bytes ∙ puts_length xs p

-- w bytes from k on stand apart from every write
abbrev pub apart : ℕ → ℕ → List Write → Bool
apart w k [] = true
apart w k (x ∷ xs) = (leb (x.at + x.size) k || leb (k + w) x.at) && apart w k xs

pub number_apart : (w k : ℕ) (xs : List Write) (p : List ℕ) → apart w k xs ≡ true → number_at w (puts xs p) k ≡ number_at w p k
number_apart w k [] p h = refl
number_apart w k (x ∷ xs) p h =
    let b = (and-eq-true_iff (leb (x.at + x.size) k || leb (k + w) x.at) (apart w k xs)).0 h in
    cases (leb (x.at + x.size) k)
    (λ e. number_after w (puts xs p) x.at x.bytes k (omega (arith, x.sized, leb-true (x.at + x.size) k e)))
    (λ e. number_before w (puts xs p) x.at x.bytes k (leb-true (k + w) x.at (rw e at b.0)))
    ∙ number_apart w k xs p b.1

-- bytes that stand before those that are put are as they were
bytes_before : (w k : ℕ) (l : List ℕ) (at : ℕ) (bs : List ℕ) → k + w ≤ at → take w (drop k (put l at bs)) ≡ take w (drop k l)
bytes_before w k l at bs h = go (dec_le (at + length bs) (length l))
  where
    go : Dec (at + length bs ≤ length l) → take w (drop k (put l at bs)) ≡ take w (drop k l)
    go (yes y) =
        let n = length-take-le at l (omega arith) in
        let front : (z : List ℕ) → take w (drop k (take at l ++ z)) ≡ take w (drop k (take at l)) =
        λ z. ap (take w) (drop-append-le k (take at l) z (omega arith)) ∙ take-append-le w (drop k (take at l)) z (omega (arith, length-drop k (take at l))) in
        ap (λ (m : List ℕ). take w (drop k m)) (put_fits l at bs y)
        ∙ (front (bs ++ drop (at + length bs) l)
        ∙ (sym (front (drop at l)) ∙ ap (λ (m : List ℕ). take w (drop k m)) (take-append-drop at l)))
    go (no n) = ap (λ (m : List ℕ). take w (drop k m)) (put_too_long l at bs (omega arith))

-- and so are those that stand apart from every write
pub bytes_apart : (w k : ℕ) (xs : List Write) (p : List ℕ) → apart w k xs ≡ true → take w (drop k (puts xs p)) ≡ take w (drop k p)
bytes_apart w k [] p h = refl
bytes_apart w k (x ∷ xs) p h =
    let b = (and-eq-true_iff (leb (x.at + x.size) k || leb (k + w) x.at) (apart w k xs)).0 h in
    cases (leb (x.at + x.size) k)
    (λ e. ap (take w) (put_drop (puts xs p) x.at x.bytes k (omega (arith, x.sized, leb-true (x.at + x.size) k e))))
    (λ e. bytes_before w k (puts xs p) x.at x.bytes (leb-true (k + w) x.at (rw e at b.0)))
    ∙ bytes_apart w k xs p b.1

-- a number that is put, and not touched by what is put after it, is got back
pub number_stored : (xs ys : List Write) (p : List ℕ) (w at x : ℕ) → apart w at xs ≡ true → w ≤ 4 → at + w ≤ length p → x < 256 ^ w → number_at w (puts xs (put (puts ys p) at ((word w).write x))) at ≡ x
number_stored xs ys p w at x h narrow room small =
    number_apart w at xs (put (puts ys p) at ((word w).write x)) h
    ∙ number_put w (puts ys p) at x narrow (omega (arith, puts_length ys p)) small

-- every write ends at k or before it
abbrev pub ended : ℕ → List Write → Bool
ended k [] = true
ended k (x ∷ xs) = leb (x.at + x.size) k && ended k xs

pub drop_ended : (k : ℕ) (xs : List Write) (p : List ℕ) → ended k xs ≡ true → drop k (puts xs p) ≡ drop k p
drop_ended k [] p h = refl
drop_ended k (x ∷ xs) p h =
    let b = (and-eq-true_iff (leb (x.at + x.size) k) (ended k xs)).0 h in
    put_drop (puts xs p) x.at x.bytes k (omega (arith, x.sized, leb-true (x.at + x.size) k b.0))
    ∙ drop_ended k xs p b.1
