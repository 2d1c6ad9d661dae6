-- Tests of every number below another: how a loop that combines them goes on, and runs of runs.
use mathlib.Core.Path.{◌≡◌, refl, sym, ◌∙◌, ap}
use mathlib.Core.Bool.{Bool, true, false, ◌&&◌, and-true, and-false}
use mathlib.Core.List.Memᴰ
use mathlib.Core.List.{List, [], ◌∷◌, Memᴰ}
use mathlib.Core.Logic.{◌⊎◌, inl, inr}
use Prim.Native.Nat.{ℕ, zero, suc, ◌+◌, ◌*◌, ◌<◌}
use native.Mathlib.Omega.{arith}
use native.Mathlib.Numerals.{add-one}
use native.Mathlib.Nat.{add-zero, suc-mul}
use lib.Bits.{bit_or, or_zero_l, or_add_and, and_le_r}
use lib.Dec.{eqb}
use lib.ListN.{length, get_or, take}
use borrow.Author.Tests.{ne_eqb, eqb-true, eqb-false}
use borrow.Table.Steps.{cases}
use Rattle.codes.proofs.Demand.{both}
use Rattle.catalogue.specs.Element.{every_element}
use Rattle.versions.specs.declared.Columns.{Columns}
use Rattle.versions.specs.Fit.{every_columns}

-- two numbers joined bit by bit leave 0 where both are
pub or_none : (a b : ℕ) → eqb (bit_or a b) 0 ≡ (eqb a 0 && eqb b 0)
or_none a b =
    cases (eqb a 0)
    (λ e. let z = eqb-true a 0 e in rw (z, or_zero_l b))
    (λ n. rw n (ne_eqb (bit_or a b) 0 (λ e. eqb-false a 0 n (omega (arith, or_add_and a b, and_le_r a b)))))

pub and_assoc : (a b c : Bool) → (a && b && c) ≡ (a && (b && c))
and_assoc true b c = refl
and_assoc false b c = refl

-- a run in two parts
pub every_append : (ok : ℕ → Bool) (m n : ℕ) → every_element ok (m + n) ≡ (every_element ok m && every_element (λ k. ok (m + k)) n)
every_append ok m zero = rw add-zero (sym (and-true (every_element ok m)))
every_append ok m (suc n) =
    let e : m + suc n ≡ suc (m + n) = omega arith in
    rw (e, every_append ok m n) (and_assoc (every_element ok m) (every_element (λ k. ok (m + k)) n) (ok (m + n)))

-- n runs of w numbers are one run
pub every_flat : (ok : ℕ → Bool) (w n : ℕ) → every_element (λ e. every_element (λ k. ok (e * w + k)) w) n ≡ every_element ok (n * w)
every_flat ok w zero = let e : 0 * w ≡ 0 = omega arith in rw e
every_flat ok w (suc n) =
    let e : suc n * w ≡ n * w + w = omega (arith, suc-mul n w) in
    rw (e, every_flat ok w n) (sym (every_append ok (n * w) w))

pub columns_at_lem : (ok : Columns → Bool) (cs : List Columns) → every_columns ok cs ≡ true → (q : Columns) → Memᴰ q cs → ok q ≡ true
columns_at_lem ok [] e q m = absurd (Memᴰ.not-nil m)
columns_at_lem ok (c ∷ cs) e q m = go (columns_at_lem ok cs (both (ok c) (every_columns ok cs) e).1 q) (Memᴰ.cases_cons m)
  where
    go : (Memᴰ q cs → ok q ≡ true) → (q ≡ c) ⊎ Memᴰ q cs → ok q ≡ true
    go below (inl s) = ap ok s ∙ (both (ok c) (every_columns ok cs) e).0
    go below (inr k) = below k

pub columns_each : (ok : Columns → Bool) (cs : List Columns) (i : ℕ) (d : Columns) → every_columns ok cs ≡ true → i < length cs → ok (get_or cs i d) ≡ true
columns_each ok [] i d e h = absurd (omega arith)
columns_each ok (c ∷ cs) zero d e h = (both (ok c) (every_columns ok cs) e).0
columns_each ok (c ∷ cs) (suc i) d e h = columns_each ok cs i d (both (ok c) (every_columns ok cs) e).1 (omega arith)

pub columns_unfit : (ok : Columns → Bool) (cs : List Columns) (i : ℕ) (d : Columns) → i < length cs → ok (get_or cs i d) ≡ false → every_columns ok cs ≡ false
columns_unfit ok [] i d h f = absurd (omega arith)
columns_unfit ok (c ∷ cs) zero d h f = rw f
columns_unfit ok (c ∷ cs) (suc i) d h f = rw (columns_unfit ok cs i d (omega arith) f) (and-false (ok c))

-- one more
pub columns_next : (ok : Columns → Bool) (cs : List Columns) (i : ℕ) (d : Columns) → i < length cs → (every_columns ok (take i cs) && ok (get_or cs i d)) ≡ every_columns ok (take (i + 1) cs)
columns_next ok cs i d h = rw (add-one i) (go cs i h)
  where
    go : (cs : List Columns) (i : ℕ) → i < length cs → (every_columns ok (take i cs) && ok (get_or cs i d)) ≡ every_columns ok (take (suc i) cs)
    go [] i h = absurd (omega arith)
    go (c ∷ cs) zero h = sym (and-true (ok c))
    go (c ∷ cs) (suc i) h = and_assoc (ok c) (every_columns ok (take i cs)) (ok (get_or cs i d)) ∙ ap (λ (b : Bool). ok c && b) (go cs i (omega arith))
