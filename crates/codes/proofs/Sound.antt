-- What a code promises, and that each way of building codes keeps it.
use mathlib.Core.Path.{◌≡◌, refl, sym, ◌∙◌, ap, subst}
use mathlib.Core.List.{List, [], ◌∷◌, ◌++◌, append_assoc, append-nil}
use mathlib.Core.Bool.{Bool, true, false, cond}
use mathlib.Core.Logic.{◌↔◌}
use Prim.Native.Nat.{ℕ, zero, suc, ◌+◌, ◌*◌, ◌/◌, ◌%◌, ◌<◌, ◌^◌}
use native.Mathlib.Omega.{arith}
use lib.ListN.{length}
use borrow.Author.Tests.{ltb-true, lt-ltb, eqb-true}
use native.Mathlib.Nat.{pow-suc}
use Rattle.codes.specs.Code.{Got, got, bad, Code, and_then, item, check, give, field, AllOf, write_all, read_times, times, byte, within, fill, word, is_whole, reads_all}
use Rattle.codes.specs.Demand.{Writable}

pub record Sound {A : Type 0} (c : Code A) : Type 0 where
  pub back : (a : A) (s : List ℕ) → c.Valid a → c.read (c.write a ++ s) ≡ got a s
  pub only : (s : List ℕ) (a : A) (t : List ℕ) → c.read s ≡ got a t → c.Valid a × (s ≡ c.write a ++ t)

-- nothing was read, and something was: absurd
pub not_got : {A : Type 0} {a : A} {t : List ℕ} {X : Type 0} → bad ≡ got a t → X
not_got {A} {a} {t} e = absurd (let z : ◌≡◌ {A = ℕ} 0 1 = cc in omega arith)

pub item_sound : Sound item
item_sound = record { back = λ a s v. refl; only = go }
  where
    go : (s : List ℕ) (a : ℕ) (t : List ℕ) → item.read s ≡ got a t → Unit {0} × (s ≡ (a ∷ []) ++ t)
    go [] a t e = not_got e
    go (x ∷ s) a t e = (tt, cc)

pub give_sound : {A : Type 0} (x : A) → Sound (give x)
give_sound {A} x = record { back = λ a s v. ap (λ (y : A). got y s) (sym v); only = λ s a t e. (cc, cc) }

module _ {A : Type 0} (p : A → Bool) (c : Code A) (sc : Sound c) where
  check_back : (a : A) (s : List ℕ) → (check p c).Valid a → (check p c).read (c.write a ++ s) ≡ got a s
  check_back a s v = rw (sc.back a s v.0, v.1)

  check_only : (s : List ℕ) (a : A) (t : List ℕ) → (check p c).read s ≡ got a t → (check p c).Valid a × (s ≡ c.write a ++ t)
  check_only s a t = go (c.read s) refl
    where
      pick : (b : Bool) (x : A) (u : List ℕ) → p x ≡ b → c.read s ≡ got x u → cond b (got x u) bad ≡ got a t → (check p c).Valid a × (s ≡ c.write a ++ t)
      pick true x u q e h =
          let ex : x ≡ a = cc in
          let eu : c.read s ≡ got a t = cc in
          let r = sc.only s a t eu in
          ((r.0, (cc)), r.1)
      pick false x u q e h = not_got h

      go : (g : Got A) → c.read s ≡ g → and_then g (λ x u. cond (p x) (got x u) bad) ≡ got a t → (check p c).Valid a × (s ≡ c.write a ++ t)
      go (got x u) e h = pick (p x) x u refl e h
      go bad e h = not_got h

  pub check_sound : Sound (check p c)
  check_sound = record { back = check_back; only = check_only }

module _ {R A : Type 0} (get : R → A) (c : Code A) (k : A → Code R) (sc : Sound c) (sk : (a : A) → Sound (k a)) (same : (a : A) (r : R) → c.Valid a → (k a).Valid r → get r ≡ a) where
  field_back : (r : R) (s : List ℕ) → (field get c k).Valid r → (field get c k).read ((field get c k).write r ++ s) ≡ got r s
  field_back r s v = rw (append_assoc, sc.back (get r) _ v.0) ((sk (get r)).back r s v.1)

  field_only : (s : List ℕ) (r : R) (t : List ℕ) → (field get c k).read s ≡ got r t → (field get c k).Valid r × (s ≡ (field get c k).write r ++ t)
  field_only s r t = go (c.read s) refl
    where
      at : (a : A) (u : List ℕ) → get r ≡ a → c.Valid a → s ≡ c.write a ++ u → (k a).Valid r → u ≡ (k a).write r ++ t → (field get c k).Valid r × (s ≡ (field get c k).write r ++ t)
      at a u e va es vk eu =
          ((subst (λ (x : A). c.Valid x) (sym e) va, subst (λ (x : A). (k x).Valid r) (sym e) vk), rw (append_assoc, e, ← eu) es)

      go : (g : Got A) → c.read s ≡ g → and_then g (λ a u. (k a).read u) ≡ got r t → (field get c k).Valid r × (s ≡ (field get c k).write r ++ t)
      go (got a u) e h =
          let p = sc.only s a u e in
          let q = (sk a).only u r t h in
          at a u (same a r p.0 q.0) p.0 p.1 q.0 q.1
      go bad e h = not_got h

  pub field_sound : Sound (field get c k)
  field_sound = record { back = field_back; only = field_only }

module _ {A : Type 0} (c : Code A) (sc : Sound c) where
  times_back : (xs : List A) (s : List ℕ) → AllOf c.Valid xs → read_times c.read (length xs) (write_all c.write xs ++ s) ≡ got xs s
  times_back [] s v = refl
  times_back (x ∷ xs) s v = rw (append_assoc, sc.back x _ v.0, times_back xs s v.1)

  times_only : (n : ℕ) (s : List ℕ) (xs : List A) (t : List ℕ) → read_times c.read n s ≡ got xs t → (times n c).Valid xs × (s ≡ write_all c.write xs ++ t)
  times_only zero s xs t e = let x : [] ≡ xs = cc in let y : s ≡ t = cc in rw (← x) ((refl, tt), y)
  times_only (suc n) s xs t h = go (c.read s) refl (times_only n) h
    where
      at : (a : A) (ys : List A) (u : List ℕ) → a ∷ ys ≡ xs → c.Valid a → s ≡ c.write a ++ u → (times n c).Valid ys → u ≡ write_all c.write ys ++ t → (times (suc n) c).Valid xs × (s ≡ write_all c.write xs ++ t)
      at a ys u e va es vs eu = rw (← e, append_assoc, ← eu) ((ap suc vs.0, (va, vs.1)), es)

      in2 : (a : A) (u : List ℕ) (g : Got (List A)) → read_times c.read n u ≡ g → c.read s ≡ got a u → ((s₁ : List ℕ) (xs₁ : List A) (t₁ : List ℕ) → read_times c.read n s₁ ≡ got xs₁ t₁ → (times n c).Valid xs₁ × (s₁ ≡ write_all c.write xs₁ ++ t₁)) → and_then g (λ ys w. got (a ∷ ys) w) ≡ got xs t → (times (suc n) c).Valid xs × (s ≡ write_all c.write xs ++ t)
      in2 a u (got ys w) e1 e0 ih h =
          let p = sc.only s a u e0 in
          let ew : w ≡ t = cc in
          let q = ih u ys t (rw (← ew) e1) in
          at a ys u (cc) p.0 p.1 q.0 q.1
      in2 a u bad e1 e0 ih h = not_got h

      go : (g : Got A) → c.read s ≡ g → ((s₁ : List ℕ) (xs₁ : List A) (t₁ : List ℕ) → read_times c.read n s₁ ≡ got xs₁ t₁ → (times n c).Valid xs₁ × (s₁ ≡ write_all c.write xs₁ ++ t₁)) → and_then g (λ a u. and_then (read_times c.read n u) (λ ys w. got (a ∷ ys) w)) ≡ got xs t → (times (suc n) c).Valid xs × (s ≡ write_all c.write xs ++ t)
      go (got a u) e ih h = in2 a u (read_times c.read n u) refl e ih h
      go bad e ih h = not_got h

  pub times_sound : (n : ℕ) → Sound (times n c)
  times_sound n =
      record {
        back = λ xs s v. rw (← v.0) (times_back xs s v.1);
        only = times_only n;
      }

pub byte_sound : Sound byte
byte_sound = check_sound _ _ item_sound

pub within_sound : (lo hi : ℕ) → Sound (within lo hi)
within_sound lo hi = check_sound _ _ byte_sound

pub fill_sound : {A : Type 0} (n : ℕ) (x : A) → Sound (fill n x)
fill_sound zero x = give_sound x
fill_sound (suc n) x = field_sound _ _ _ (check_sound _ _ byte_sound) (λ z. fill_sound n x) (λ z r v w. sym (eqb-true z 0 v.1))

-- a fill tells no other value than the one that it was given
pub fill_valid : {A : Type 0} (n : ℕ) (x : A) → (fill n x).Valid x
fill_valid zero x = refl
fill_valid (suc n) x = (((tt, refl), refl), fill_valid n x)

pub valid_fill : {A : Type 0} (n : ℕ) (x y : A) → (fill n x).Valid y → y ≡ x
valid_fill zero x y v = v
valid_fill (suc n) x y v = valid_fill n x y v.1

pub word_sound : (w : ℕ) → Sound (word w)
word_sound zero = give_sound 0
word_sound (suc w) =
    field_sound _ _ _ (word_sound w)
    (λ h. field_sound _ _ _ byte_sound (λ l. give_sound _) (λ l x vl vx. low h l x (ltb-true l 256 vl.1) vx))
    (λ h x vh vx. high h x (ltb-true (x % 256) 256 vx.0.1) vx.1)
  where
    low : (h l x : ℕ) → l < 256 → x ≡ h * 256 + l → x % 256 ≡ l
    low h l x a e = omega arith

    high : (h x : ℕ) → x % 256 < 256 → x ≡ h * 256 + x % 256 → x / 256 ≡ h
    high h x a e = omega arith

-- a word of w bytes is a number below 256 to the w
pub word_valid : (w x : ℕ) → (word w).Valid x → x < 256 ^ w
word_valid zero x v = omega arith
word_valid (suc w) x v = let a = word_valid w (x / 256) v.0 in rw pow-suc (omega arith)

pub valid_word : (w x : ℕ) → x < 256 ^ w → (word w).Valid x
valid_word zero x h = omega arith
valid_word (suc w) x h =
    let h' : x < 256 ^ w * 256 = rw pow-suc at h in
    (valid_word w (x / 256) (omega arith), ((tt, lt-ltb (x % 256) 256 (omega arith)), omega arith))

-- The three theorems of demand 3, for any sound code.
module _ {A : Type 0} (c : Code A) (sc : Sound c) where
  -- what is written is read back as it was, with nothing left over
  pub read_back : (a : A) → c.Valid a → c.read (c.write a) ≡ got a []
  read_back a v = rw append-nil at (sc.back a [] v)

  pub read_iff_written : (s : List ℕ) → (reads_all c s ≡ true) ↔ Writable c.Valid c.write s
  read_iff_written s = (go (c.read s) refl, λ w. rw (← w.2, read_back w.0 w.1))
    where
      go : (g : Got A) → c.read s ≡ g → is_whole g ≡ true → Writable c.Valid c.write s
      go (got a []) e h = let p = sc.only s a [] e in (a, p.0, sym (p.1 ∙ append-nil (c.write a)))
      go (got a (x ∷ t)) e h = absurd (let z : ◌≡◌ {A = ℕ} 0 1 = cc in omega arith)
      go bad e h = absurd (let z : ◌≡◌ {A = ℕ} 0 1 = cc in omega arith)

  pub no_longer : (a b : A) (t : List ℕ) → c.Valid a → c.Valid b → c.write a ++ t ≡ c.write b → (t ≡ []) × (a ≡ b)
  no_longer a b t va vb e =
      let p : c.read (c.write b) ≡ got a t = rw (← e) (sc.back a t va) in
      let q = read_back b vb in
      (cc, cc)

  pub only_one : (a b : A) → c.Valid a → c.Valid b → c.write a ≡ c.write b → a ≡ b
  only_one a b va vb e = (no_longer a b [] va vb (append-nil (c.write a) ∙ e)).1
