-- Fresh parts, made one after the other.
use mathlib.Core.Path.{◌≡◌, sym, ap, ◌∙◌}
use mathlib.Core.List.{List, ◌++◌, append_assoc, append-nil}
use Prim.Native.Nat.{ℕ, zero, suc, ◌+◌, ◌-◌, ◌*◌, ◌≤◌}
use native.Mathlib.Numerals.{add-one}
use native.Mathlib.Omega.{arith}
use borrow.Author.Tests.{eq-eqb}
use borrow.Rule.Slice.PartMut.{put_mid}
use lib.ListN.{length, take, drop, length-append}
use lib.Seq.{take_at, take_all, length-take-le}
use Rattle.part.specs.Layout.{part_size}
use Rattle.part.specs.Fresh.{fresh_part, fresh_over}
use Rattle.station.specs.Parts.{farms, station_size, fresh_parts}

-- a part of the right size is made fresh
pub made : (p : List ℕ) → length p ≡ part_size → fresh_over p ≡ fresh_part
unfolding fresh_over
made p e = rw (eq-eqb (length p) part_size e)

more : (n : ℕ) → fresh_parts n ++ fresh_part ≡ fresh_parts (suc n)
more zero = sym (append-nil fresh_part)
more (suc n) = append_assoc fresh_part (fresh_parts n) fresh_part ∙ ap (λ (l : List ℕ). fresh_part ++ l) (more n)

-- one more part, after i of them
module _ (i : ℕ) (s ys : List ℕ) (room : i * part_size + part_size ≤ length s) (l : length ys ≡ part_size) where
  front : length (take (i * part_size) s) ≡ i * part_size
  front = length-take-le (i * part_size) s (omega arith)

  pub next_part : ys ≡ fresh_part → take (i * part_size) s ≡ fresh_parts i → take ((i + 1) * part_size) (put_mid (i * part_size) (i * part_size + part_size - i * part_size) s ys) ≡ fresh_parts (i + 1)
  next_part e h =
      let n : length (take (i * part_size) s ++ ys) ≡ (i + 1) * part_size = length-append (take (i * part_size) s) ys ∙ omega (arith, front) in
      ap (take ((i + 1) * part_size)) (sym (append_assoc (take (i * part_size) s) ys (drop (i * part_size + part_size - i * part_size) (drop (i * part_size) s))))
      ∙ (take_at (take (i * part_size) s ++ ys) (drop (i * part_size + part_size - i * part_size) (drop (i * part_size) s)) ((i + 1) * part_size) n
      ∙ rw (h, e, add-one) (more i))

pub all_made : (s : List ℕ) → length s ≡ station_size → take (farms * part_size) s ≡ fresh_parts farms → s ≡ fresh_parts farms
all_made s l h = sym (take_all (farms * part_size) s (omega arith)) ∙ h
