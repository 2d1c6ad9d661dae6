-- Text, one piece after the other.
use mathlib.Core.Path.{◌≡◌, refl, sym, ap, ◌∙◌}
use mathlib.Core.Bool.{true, false, true≢false}
use mathlib.Core.List.{List, [], ◌∷◌, ◌++◌, append_assoc, append-nil}
use Prim.Native.Nat.{ℕ, zero, suc, ◌+◌, ◌-◌, ◌/◌, ◌%◌, ◌^◌, ◌≤◌, ◌<◌}
use native.Mathlib.Nat.{pow-suc, div-lt_iff_lt-mul}
use lib.Dec.{lit<}
use native.Mathlib.Omega.{arith}
use native.Mathlib.Numerals.{add-one}
use lib.ListN.{length, get_or, take, drop, length-append, take-append-drop}
use lib.Seq.{take-suc, drop-drop}
use lib.IntN.{ℤ, pos, negsuc, nat_abs}
use lib.Signed.{lt_z}
use borrow.Author.Tests.{lt-ltb, le-ltb}
use borrow.Rule.Slice.PartMut.{mid_of, put_mid, same_len_mid}
use Rattle.std.proofs.lemmas.Slice.{take-put_mid, drop-put_mid}
use Rattle.journal.specs.declared.writing.Text.{Text}
use Rattle.journal.specs.Text.{digit, decimal_in, decimal, signed}
use Rattle.journal.specs.Written.{room, Wrote, WroteIfFits}

-- nothing more
pub wrote_none : (n : ℕ) (t : Text) → Wrote n [] t t
wrote_none n t = record { same_memory = refl; text = sym (append-nil _); left = refl; longer = omega arith; size = refl; limit = omega arith }

-- a piece, and one after it
pub and_then : {m n : ℕ} {bs cs : List ℕ} {t u v : Text} → Wrote m bs t u → Wrote n cs u v → Wrote (m + n) (bs ++ cs) t v
and_then {m} {n} {bs} {cs} {t} {u} {v} a b =
    record {
      same_memory = b.same_memory ∙ a.same_memory;
      text = b.text ∙ (ap (λ (l : List ℕ). l ++ cs) a.text ∙ append_assoc _ bs cs);
      left = b.left ∙ (ap (drop (length cs)) a.left ∙ (drop-drop (length cs) (length bs) _ ∙ ap (λ (k : ℕ). drop k (drop t.written t.memory.now)) (sym (length-append bs cs))));
      longer = omega (arith, a.longer, b.longer, length-append bs cs);
      size = b.size ∙ a.size;
      limit = omega (arith, a.limit, b.limit, length-append bs cs);
    }

-- the same text, said otherwise
pub said : {n : ℕ} {bs cs : List ℕ} {t u : Text} → Wrote n bs t u → cs ≡ bs → Wrote n cs t u
said w e = rw e w

-- within a larger bound
pub within : {m n : ℕ} {bs : List ℕ} {t u : Text} → Wrote m bs t u → m ≤ n → Wrote n bs t u
within w h = record { same_memory = w.same_memory; text = w.text; left = w.left; longer = w.longer; size = w.size; limit = omega (arith, w.limit) }

-- what is written where it fits, where there is room for it
pub fitted : (n : ℕ) {bs : List ℕ} {t u : Text} → WroteIfFits bs t u → length bs ≤ n → room n t → Wrote n bs t u
fitted n w short space = within (w.fits (omega arith)) short

-- bytes that take the place of as many, from w on
pub put_there : (w n : ℕ) (m ys bs : List ℕ) → w + n ≤ length m → ys ≡ bs → n ≡ length bs → length ys ≡ length (mid_of w (w + n - w) m)
    → (take (w + n) (put_mid w (w + n - w) m ys) ≡ take w m ++ bs)
    × (drop (w + n) (put_mid w (w + n - w) m ys) ≡ drop (length bs) (drop w m))
    × (length (put_mid w (w + n - w) m ys) ≡ length m)
put_there w n m ys bs room all size same =
    let k = w + n - w in
    let low : w ≤ length m = omega arith in
    let long : length ys ≡ n = ap length all ∙ sym size in (
      take-put_mid w k m ys (w + n) (omega arith) low ∙ ap (λ (l : List ℕ). take w m ++ l) all,
      drop-put_mid w k m ys (w + n) (omega arith) low (omega arith) ∙ (sym (drop-drop n w m) ∙ ap (λ (i : ℕ). drop i (drop w m)) size),
      same_len_mid w k m ys same,
    )

-- all of the memory, of a text that nothing stood before
pub whole : {n : ℕ} {bs : List ℕ} {t u : Text} → Wrote n bs t u → t.written ≡ 0 → u.memory.now ≡ bs ++ drop u.written t.memory.now
whole {n} {bs} {t} {u} w e =
    let m = t.memory.now in
    let long : length bs ≡ u.written = omega (arith, w.longer) in
    sym (take-append-drop u.written u.memory.now)
    ∙ ((λ j. w.text j ++ w.left j)
    ∙ (ap (λ (k : ℕ). (take k m ++ bs) ++ drop (length bs) (drop k m)) e ∙ ap (λ (k : ℕ). bs ++ drop k m) long))

-- how a number in decimal begins
pub decimal_low : (n x : ℕ) → x < 10 → decimal_in n x ≡ digit x ∷ []
decimal_low zero x h = let e : x % 10 ≡ x = omega arith in ap (λ (d : ℕ). digit d ∷ []) e
decimal_low (suc n) x h = rw (lt-ltb x 10 h)

pub decimal_more : (n x : ℕ) → 0 < n → 10 ≤ x → decimal_in n x ≡ decimal_in (n - 1) (x / 10) ++ (digit (x % 10) ∷ [])
decimal_more zero x p h = absurd (omega arith)
decimal_more (suc n) x p h = let e : suc n - 1 ≡ n = omega arith in rw (le-ltb x 10 h, e)

-- digits that a number does not need are not written
pub decimal_enough : (n m x : ℕ) → n ≤ m → x < 10 ^ suc n → decimal_in m x ≡ decimal_in n x
decimal_enough zero m x h b = decimal_low m x b ∙ sym (decimal_low 0 x b)
decimal_enough (suc n) zero x h b = absurd (omega arith)
decimal_enough (suc n) (suc m) x h b = rw (decimal_enough n m (x / 10) (omega arith) ((div-lt_iff_lt-mul (lit< tt)).1 (rw (pow-suc 10 (suc n)) at b)))

pub twenty : (x : ℕ) → decimal x ≡ decimal_in 19 x
unfolding decimal
twenty x = refl

-- a signed number by its size
pub signed_below : (z : ℤ) → lt_z z (pos 0) ≡ true → signed z ≡ 0x2D ∷ decimal (nat_abs z)
unfolding signed
signed_below (pos k) h = absurd (grind (arith, h))
signed_below (negsuc k) h = refl

pub signed_above : (z : ℤ) → lt_z z (pos 0) ≡ false → signed z ≡ decimal (nat_abs z)
unfolding signed
signed_above (pos k) h = refl
signed_above (negsuc k) h = absurd (true≢false h)

-- texts one after the other: what each number of a list writes
module _ (each : ℕ → List ℕ) (all : List ℕ → List ℕ) (none : all [] ≡ []) (next : (x : ℕ) (xs : List ℕ) → all (x ∷ xs) ≡ each x ++ all xs) where
  all_append : (xs ys : List ℕ) → all (xs ++ ys) ≡ all xs ++ all ys
  all_append [] ys = rw none
  all_append (x ∷ xs) ys = rw (next x (xs ++ ys), all_append xs ys, next x xs, append_assoc)

  pub one_more : (xs : List ℕ) (i : ℕ) → i < length xs → all (take (i + 1) xs) ≡ all (take i xs) ++ each (get_or xs i 0)
  one_more xs i h = rw (add-one i, take-suc xs i 0 h, all_append (take i xs) (get_or xs i 0 ∷ []), next (get_or xs i 0) [], none, append-nil)
