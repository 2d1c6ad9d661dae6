-- Demand 3 for any sound code, and carried over to a page that says the same values and bytes in plain words.
use mathlib.Core.Path.{◌≡◌, refl, sym, ◌∙◌, ap}
use mathlib.Core.List.{List, [], ◌++◌}
use mathlib.Core.Bool.{Bool, true, false, ◌&&◌}
use mathlib.Core.Logic.{◌↔◌}
use Prim.Native.Nat.{ℕ, ◌≤◌}
use lib.ListN.{length}
use lib.Dec.{leb}
use borrow.Author.Tests.{leb-true, le-leb}
use Rattle.codes.specs.Code.{got, Code, reads_all, readable}
use Rattle.codes.specs.Demand.{Writable, WrittenAs, Demand3}
use Rattle.codes.proofs.Sound.{Sound, read_iff_written, read_back, no_longer, only_one}

pub both : (a b : Bool) → a && b ≡ true → (a ≡ true) × (b ≡ true)
both true b e = (refl, e)
both false b e = (cc, cc)

module _ {A : Type 0} (most : ℕ) (c : Code A) (sc : Sound c) where
  parts : (s : List ℕ) → readable most c s ≡ true → (length s ≤ most) × (reads_all c s ≡ true)
  unfolding readable
  parts s e = let p = both (leb (length s) most) (reads_all c s) e in (leb-true (length s) most p.0, p.1)

  written : (s : List ℕ) → readable most c s ≡ true → Writable c.Valid c.write s
  written s e = (read_iff_written c sc s).0 (parts s e).1

  -- a readable block is read to its end, as one value
  pub readable_read : (s : List ℕ) → readable most c s ≡ true → (a : A) × (c.read s ≡ got a [])
  readable_read s e = let w = written s e in (w.0, ap c.read (sym w.2) ∙ read_back c sc w.0 w.1)

  back : (s : List ℕ) → (length s ≤ most) × Writable c.Valid c.write s → readable most c s ≡ true
  unfolding readable
  back s w = rw (le-leb (length s) most w.0) ((read_iff_written c sc s).1 w.1)

  ends : (s t : List ℕ) → readable most c s ≡ true → readable most c (s ++ t) ≡ true → t ≡ []
  ends s t e f =
      let p = written s e in
      let q = written (s ++ t) f in
      (no_longer c sc p.0 q.0 t p.1 q.1 (ap (λ (l : List ℕ). l ++ t) p.2 ∙ sym q.2)).0

  pub demand : Demand3 most c.Valid c.write (readable most c)
  demand =
      record {
        exact = λ s. (λ e. ((parts s e).0, written s e), back s);
        unique = only_one c sc;
        final = ends;
      }

module _ {A : Type 0} {most : ℕ} {Valid Fits : A → Type 0} {write page : A → List ℕ} {test : List ℕ → Bool} where
  -- a page that allows the same values and writes the same bytes
  pub on_page : ((a : A) → Valid a ↔ Fits a) → ((a : A) → write a ≡ page a) → Demand3 most Valid write test → Demand3 most Fits page test
  on_page valid same d =
      record {
        exact =
            λ s. (
              λ e. let p = (d.exact s).0 e in (p.0, (p.1.0, (valid p.1.0).0 p.1.1, sym (same p.1.0) ∙ p.1.2)),
              λ w. (d.exact s).1 (w.0, (w.1.0, (valid w.1.0).1 w.1.1, same w.1.0 ∙ w.1.2)),
            );
        unique = λ a b v w e. d.unique a b ((valid a).1 v) ((valid b).1 w) (same a ∙ (e ∙ sym (same b)));
        final = d.final;
      }

-- a list is readable exactly where it is written as some value,
module _ {A : Type 0} {most : ℕ} {Valid : A → Type 0} {write : A → List ℕ} {test : List ℕ → Bool} (d : Demand3 most Valid write test) (s : List ℕ) where
  pub written_as : test s ≡ true → (a : A) × WrittenAs most Valid write s a
  written_as e = let w = (d.exact s).0 e in (w.1.0, record { fits = w.1.1; bytes = w.1.2; short = w.0 })

  pub is_readable : (a : A) → WrittenAs most Valid write s a → test s ≡ true
  is_readable a w = (d.exact s).1 (w.short, (a, w.fits, w.bytes))

-- and is then read as that
pub page_read :
    {A : Type 0} {Fits : A → Type 0} {page : A → List ℕ} (c : Code A) → Sound c → ((a : A) → c.Valid a ↔ Fits a) → ((a : A) → c.write a ≡ page a)
    → (most : ℕ) (s : List ℕ) (a : A) → WrittenAs most Fits page s a → c.read s ≡ got a []
page_read c sc valid same most s a w = ap c.read (sym (same a ∙ w.bytes)) ∙ read_back c sc a ((valid a).1 w.fits)
