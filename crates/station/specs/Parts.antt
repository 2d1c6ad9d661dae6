-- Document 01, "The box and its edges": the station's memory is 16 equal parts, one for each axis. Farm k owns axis k.
use Rattle.std.specs.Prelude.{cond, not, ◌&&◌, List, [], ◌++◌, ℕ, zero, suc, ◌-◌, ◌*◌, eqb, leb, length, take, drop}
use Rattle.part.specs.Layout.{part_size}
use Rattle.part.specs.Fresh.{fresh_part}

-- "A station has 16 axes, numbered 1 to 16."
abbrev pub farms : ℕ
farms = 16

abbrev pub station_size : ℕ
station_size = farms * part_size

-- n bytes of the list s from a on, and s with ys in their place
unfoldable pub window : ℕ → ℕ → List ℕ → List ℕ
window a n s = take n (drop a s)

unfoldable pub with_window : ℕ → ℕ → List ℕ → List ℕ → List ℕ
with_window a n ys s = take a s ++ (ys ++ drop n (drop a s))

-- the part of farm k, and the station with ys for it
abbrev pub part_of : ℕ → List ℕ → List ℕ
part_of k s = window ((k - 1) * part_size) part_size s

abbrev pub with_part : ℕ → List ℕ → List ℕ → List ℕ
with_part k ys s = with_window ((k - 1) * part_size) part_size ys s

-- number 1, "farm or axis not 1..16", and number 2, "station memory of wrong size"; else 0
unfoldable pub station_refusal : ℕ → ℕ → ℕ
station_refusal k size =
    cond (not (leb 1 k && leb k farms)) 1
    (cond (not (eqb size station_size)) 2
    0)

-- n fresh parts
abbrev pub fresh_parts : ℕ → List ℕ
fresh_parts zero = []
fresh_parts (suc n) = fresh_part ++ fresh_parts n

-- "A fresh station is made by a call of its own, which belongs to no farm and refuses only a wrong size (number 2, nothing changed)."
unfoldable pub fresh_number : List ℕ → ℕ
fresh_number s = cond (eqb (length s) station_size) 0 2

unfoldable pub fresh_station : List ℕ → List ℕ
fresh_station s = cond (eqb (length s) station_size) (fresh_parts farms) s
