-- The refusal of a frame by its number, where numbers 2 to 9 are tested first.
use mathlib.Core.Path.{◌≡◌, refl, sym, ap}
use mathlib.Core.Bool.{Bool, true, false, cond, not, ◌&&◌, ◌||◌, true≢false}
use mathlib.Core.List.{List}
use Prim.Native.Nat.{ℕ, ◌≤◌}
use native.Mathlib.Omega.{arith}
use lib.Dec.{eqb, leb, ltb}
use lib.ListN.{length}
use borrow.Author.Tests.{not-false, ltb-false}
use Rattle.codes.specs.Code.{readable}
use Rattle.blocks.specs.Block.{block_limit}
use Rattle.blocks.specs.Request.{request}
use Rattle.blocks.specs.Place.{header_of}
use Rattle.part.specs.Layout.{waiting_length}
use Rattle.part.specs.WellFormed.{well_formed}
use Rattle.access.specs.Work.{exhausts_in}
use Rattle.station.specs.Frame.{slot, index, length_byte, block_of, is_write, is_read, length_fits, frame_refusal}
use Rattle.station.specs.Inner.{early}

-- numbers 10, 11 and 15, which are not early
abbrev pub block_number : ℕ → List ℕ → List ℕ → ℕ
block_number k f p =
    cond (is_write f && not (readable block_limit request (block_of f))) 10
    (cond (is_write f && not (eqb (header_of (block_of f)).axis k)) 11
    (cond (is_write f && exhausts_in p (request.read (block_of f))) 15
    0))

-- an early refusal is the refusal
pub refused_early : (n x : ℕ) → n ≡ early x → (n ≡ 0 → ⊥) → x ≡ n
unfolding early
refused_early n x e z = go (leb x 9) refl
  where
    go : (b : Bool) → leb x 9 ≡ b → x ≡ n
    go true h = sym (rw h at e)
    go false h = absurd (z (rw h at e))

-- the tests in a row, n after them; and what is known where none of 2 to 9 fires
abbrev tests : Bool → Bool → Bool → Bool → Bool → Bool → Bool → Bool → ℕ → ℕ
tests b2 b3 b4 b5 b6 b7 b8 b9 n = cond b2 2 (cond b3 3 (cond b4 4 (cond b5 5 (cond b6 6 (cond b7 7 (cond b8 8 (cond b9 9 n)))))))

passed :
    (b2 b3 b4 b5 b6 b7 b8 b9 : Bool) (n : ℕ) → 0 ≡ early (tests b2 b3 b4 b5 b6 b7 b8 b9 n)
    → (b2 ≡ false) × (b3 ≡ false) × (b4 ≡ false) × (b8 ≡ false) × (tests b2 b3 b4 b5 b6 b7 b8 b9 n ≡ n)
unfolding early
passed true b3 b4 b5 b6 b7 b8 b9 n e = absurd (omega arith)
passed false true b4 b5 b6 b7 b8 b9 n e = absurd (omega arith)
passed false false true b5 b6 b7 b8 b9 n e = absurd (omega arith)
passed false false false true b6 b7 b8 b9 n e = absurd (omega arith)
passed false false false false true b7 b8 b9 n e = absurd (omega arith)
passed false false false false false true b8 b9 n e = absurd (omega arith)
passed false false false false false false true b9 n e = absurd (omega arith)
passed false false false false false false false true n e = absurd (omega arith)
passed false false false false false false false false n e = (refl, refl, refl, refl, refl)

neither : (a b : Bool) → a || b ≡ false → (a ≡ false) × (b ≡ false)
neither true b e = absurd (true≢false e)
neither false b e = (refl, e)

-- a frame that passed numbers 2 to 9
pub record Passed (k : ℕ) (f : List ℕ) (m : ℕ) (p : List ℕ) : Type 0 where
  pub formed : well_formed k p ≡ true
  pub room : 244 ≤ m
  pub head : 4 ≤ length f
  pub function : is_write f || is_read f ≡ true
  pub turn : (is_write f && not (eqb (waiting_length p) 0) || is_read f && eqb (waiting_length p) 0) ≡ false
  pub number : frame_refusal k f m p ≡ block_number k f p

pub passes : (k : ℕ) (f : List ℕ) (m : ℕ) (p : List ℕ) → 0 ≡ early (frame_refusal k f m p) → Passed k f m p
unfolding frame_refusal
passes k f m p e =
    let t =
    passed (not (well_formed k p)) (ltb m 244) (ltb (length f) 4 || not (is_write f || is_read f)) (not (eqb (slot f) 0)) (not (eqb (index f) 47)) (not (length_fits f))
    (is_write f && not (eqb (waiting_length p) 0) || is_read f && eqb (waiting_length p) 0) (is_read f && ltb (length_byte f) (waiting_length p))
    (block_number k f p) e in
    record {
      formed = not-false (well_formed k p) t.0;
      room = ltb-false m 244 t.1;
      head = ltb-false (length f) 4 (neither (ltb (length f) 4) (not (is_write f || is_read f)) t.2).0;
      function = not-false (is_write f || is_read f) (neither (ltb (length f) 4) (not (is_write f || is_read f)) t.2).1;
      turn = t.3;
      number = t.4;
    }

pub done_passes : (k : ℕ) (f : List ℕ) (m : ℕ) (p : List ℕ) → frame_refusal k f m p ≡ 0 → Passed k f m p
unfolding early
done_passes k f m p e = passes k f m p (sym (ap early e))
