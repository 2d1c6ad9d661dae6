-- A block, written at a place of a slice: it goes in whole, or not at all.
use mathlib.Core.Path.{◌≡◌, refl, sym, ◌∙◌}
use mathlib.Core.List.{List, [], ◌∷◌, ◌++◌}
use Prim.Native.Nat.{ℕ, ◌+◌, ◌*◌, ◌/◌, ◌%◌, ◌≤◌, ◌<◌}
use native.Mathlib.Omega.{arith}
use native.Mathlib.Numerals.{add-one}
use lib.ListN.{length, set, replicate, length-append, length-replicate}
use borrow.Author.Tests.{le-leb, lt-leb}
use Rattle.codes.specs.Code.{write_all, word}
use Rattle.codes.specs.Number.{put}
use Rattle.codes.proofs.Put.{put_too_long, put_append, sets_put}
use Rattle.codes.proofs.Items.{all_length}
use Rattle.blocks.proofs.Page.{number_length}
use Rattle.blocks.proofs.Blocks.{values_size_lem}
use Rattle.blocks.specs.Block.{Block, value_size, fill_size, values_size}
use Rattle.blocks.specs.Page.{number_bytes, block_bytes}
use Rattle.blocks.specs.Place.{put_block}

-- the bytes of a block: two, those of its values and what fills them up
pub block_written : (f n : ℕ) (vs : List ℕ) → n ≡ length vs → 2 + values_size f n ≡ length (block_bytes (record { format = f; values = vs }))
block_written f n vs e =
    let k = fill_size f (length vs) in
    let all = write_all (number_bytes (value_size f)) vs in
    rw e (omega (arith, values_size_lem f (length vs), length-append all (replicate k 0), all_length (number_bytes (value_size f)) (value_size f) (number_length (value_size f)) vs, length-replicate {A = ℕ} k 0))

-- a block of as many values as a byte counts
pub block_counted : (l : List ℕ) (at : ℕ) (b : Block) → length b.values ≤ 255 → put_block l at b ≡ put l at (block_bytes b)
block_counted l at b s = rw (le-leb (length b.values) 255 s)

pub block_uncounted : (l : List ℕ) (at : ℕ) (b : Block) → 255 < length b.values → put_block l at b ≡ l
block_uncounted l at b s = rw (lt-leb (length b.values) 255 s)

-- A block by its sizes: w bytes of values, and k that fill them.
module _ (l : List ℕ) (at f : ℕ) (vs : List ℕ) (few : length vs ≤ 255) where
  abbrev b : Block
  b = record { format = f; values = vs }

  abbrev w : ℕ
  w = length vs * value_size f

  abbrev k : ℕ
  k = fill_size f (length vs)

  size : length (block_bytes b) ≡ 2 + w + k
  size = omega (arith, block_written f (length vs) vs refl, values_size_lem f (length vs))

  -- one that does not fit is not put
  pub block_too_long : length l < at + (2 + w + k) → put_block l at b ≡ l
  block_too_long h = block_counted l at b few ∙ put_too_long l at (block_bytes b) (omega (arith, size))

  -- a format and a count stored, then the values put after them, and what fills them up after these
  pub block_stored : at + (2 + w + k) ≤ length l → put (put (set (set l at f) (at + 1) (length vs)) (at + 2) (write_all (number_bytes (value_size f)) vs)) (at + 2 + w) (replicate k 0) ≡ put_block l at b
  block_stored h =
      let head = f ∷ length vs ∷ [] in
      let all = write_all (number_bytes (value_size f)) vs in
      let long : length all ≡ w = all_length (number_bytes (value_size f)) (value_size f) (number_length (value_size f)) vs in
      let place : at + 2 + w ≡ at + length (head ++ all) = omega arith in
      rw (add-one, sets_put l at head (omega arith), put_append l at head all (omega arith), place)
      (put_append l at (head ++ all) (replicate {A = ℕ} k 0) (omega (arith, length-replicate {A = ℕ} k 0)) ∙ sym (block_counted l at b few))

-- `44 01` with its error word is a block
pub error_bytes : (e : ℕ) → block_bytes (record { format = 0x44; values = e ∷ [] }) ≡ 0x44 ∷ 1 ∷ number_bytes 2 e
unfolding value_size
error_bytes e = refl

-- the bytes of an error block, as one number of four bytes
pub error_number : (e : ℕ) → e < 65536 → (word 4).write (0x44010000 + e) ≡ 0x44 ∷ 1 ∷ number_bytes 2 e
error_number e h =
    let first : (0x44010000 + e) / 256 / 256 / 256 % 256 ≡ 0x44 = omega arith in
    let second : (0x44010000 + e) / 256 / 256 % 256 ≡ 1 = omega arith in
    let third : (0x44010000 + e) / 256 % 256 ≡ e / 256 % 256 = omega arith in
    let fourth : (0x44010000 + e) % 256 ≡ e % 256 = omega arith in
    rw (first, second, third, fourth) refl
