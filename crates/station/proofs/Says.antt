-- What each number of a frame says, on a well-formed part.
use mathlib.Core.Path.{◌≡◌, refl}
use mathlib.Core.Bool.{Bool, true, false, cond, not, ◌&&◌, ◌||◌}
use mathlib.Core.List.{List}
use Prim.Native.Nat.{ℕ, ◌≤◌}
use native.Mathlib.Omega.{arith}
use lib.Dec.{eqb, ltb, lit≤}
use lib.ListN.{length}
use borrow.Author.Tests.{ltb-false, eqb-true, not-false}
use Rattle.codes.specs.Code.{readable}
use Rattle.blocks.specs.Block.{block_limit}
use Rattle.blocks.specs.Request.{request}
use Rattle.blocks.specs.Place.{header_of}
use Rattle.part.specs.Layout.{waiting_length}
use Rattle.access.specs.Work.{exhausts_in}
use Rattle.station.specs.Frame.{is_write, is_read, slot, index, length_byte, length_fits, block_of, frame_tests}
use Rattle.station.proofs.Tests.{by_test}

-- the block of a write that is worked
pub record Mine (k : ℕ) (f p : List ℕ) : Type 0 where
  pub reads : readable block_limit request (block_of f) ≡ true
  pub axis : (header_of (block_of f)).axis ≡ k
  pub left : exhausts_in p (request.read (block_of f)) ≡ false

-- what each number from 3 on says
pub data Says (k : ℕ) (f : List ℕ) (m : ℕ) (p : List ℕ) (n : ℕ) : Type 0 where
  small : n ≡ 3 → Says k f m p n
  framed : 4 ≤ n → 244 ≤ m → Says k f m p n
  worked : n ≡ 0 → 244 ≤ m → (is_write f ≡ true → Mine k f p) → Says k f m p n

of_write : (w b : Bool) → w && b ≡ false → w ≡ true → b ≡ false
of_write w b e is = rw is at e

-- a test of the frame itself
framing : (k : ℕ) (f : List ℕ) (m : ℕ) (p : List ℕ) → 244 ≤ m
    → (b : Bool) (n r : ℕ) → 4 ≤ n → (b ≡ false → Says k f m p r) → Says k f m p (cond b n r)
framing k f m p room b n r low more = by_test (Says k f m p) b n r (λ e. framed low room) more

pub says : (k : ℕ) (f : List ℕ) (m : ℕ) (p : List ℕ) → Says k f m p (frame_tests k f m p)
says k f m p =
    by_test (Says k f m p) (ltb m 244) 3 _ (λ e. small refl) (λ three.
    let next = framing k f m p (ltb-false m 244 three) in
    next (ltb (length f) 4 || not (is_write f || is_read f)) 4 _ (lit≤ tt) (λ four.
    next (not (eqb (slot f) 0)) 5 _ (lit≤ tt) (λ five.
    next (not (eqb (index f) 47)) 6 _ (lit≤ tt) (λ six.
    next (not (length_fits f)) 7 _ (lit≤ tt) (λ seven.
    next (is_write f && not (eqb (waiting_length p) 0) || is_read f && eqb (waiting_length p) 0) 8 _ (lit≤ tt) (λ eight.
    next (is_read f && ltb (length_byte f) (waiting_length p)) 9 _ (lit≤ tt) (λ nine.
    next (is_write f && not (readable block_limit request (block_of f))) 10 _ (lit≤ tt) (λ ten.
    next (is_write f && not (eqb (header_of (block_of f)).axis k)) 11 _ (lit≤ tt) (λ eleven.
    next (is_write f && exhausts_in p (request.read (block_of f))) 15 0 (lit≤ tt) (λ fifteen.
    worked refl (ltb-false m 244 three) (λ is.
    record {
      reads = not-false (readable block_limit request (block_of f)) (of_write (is_write f) (not (readable block_limit request (block_of f))) ten is);
      axis = eqb-true (header_of (block_of f)).axis k (not-false (eqb (header_of (block_of f)).axis k) (of_write (is_write f) (not (eqb (header_of (block_of f)).axis k)) eleven is));
      left = of_write (is_write f) (exhausts_in p (request.read (block_of f))) fifteen is;
    })))))))))))

-- a write that passes them all is its farm's to write
pub mine : (k : ℕ) (f : List ℕ) (m : ℕ) (p : List ℕ) → frame_tests k f m p ≡ 0 → is_write f ≡ true → Mine k f p
mine k f m p e is = go (frame_tests k f m p) e (says k f m p)
  where
    go : (n : ℕ) → n ≡ 0 → Says k f m p n → Mine k f p
    go n z (small e) = absurd (omega arith)
    go n z (framed low room) = absurd (omega arith)
    go n z (worked e room my) = my is

-- they are 0, or 3 and above
pub later : (k : ℕ) (f : List ℕ) (m : ℕ) (p : List ℕ) → frame_tests k f m p ≤ 2 → frame_tests k f m p ≡ 0
later k f m p = go (frame_tests k f m p) (says k f m p)
  where
    go : (n : ℕ) → Says k f m p n → n ≤ 2 → n ≡ 0
    go n (small e) few = absurd (omega arith)
    go n (framed low room) few = absurd (omega arith)
    go n (worked e room my) few = e
