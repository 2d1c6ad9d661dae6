-- Document 01, "numbers high byte first": numbers at a place of a list of bytes, signed ones included, one treatment for every width.
use Rattle.std.specs.Prelude.{List, [], ◌∷◌, ◌++◌, cond, ℕ, zero, suc, ◌+◌, ◌-◌, ◌/◌, ◌^◌, length, take, drop, leb, ltb, ℤ, pos, negsuc, ◌-ℤ◌}
use Rattle.codes.specs.Code.{Got, got, bad, word}

-- what was read, or d where nothing was
abbrev pub value_or : {A : Type 0} → A → Got A → A
value_or d (got x t) = x
value_or d bad = d

-- the number in the w bytes, four at most, from place at on; 0 where these do not all stand in the list
unfoldable pub number_at : ℕ → List ℕ → ℕ → ℕ
number_at w s at = cond (leb w 4) (value_or 0 ((word w).read (drop at s))) 0

-- n such numbers, one after the other
abbrev pub numbers_at : ℕ → ℕ → List ℕ → ℕ → List ℕ
numbers_at w zero s at = []
numbers_at w (suc n) s at = number_at w s at ∷ numbers_at w n s (at + w)

-- the list l with the bytes bs over its own from place at on; l itself where they do not all fit
unfoldable pub put : List ℕ → ℕ → List ℕ → List ℕ
put l at bs = cond (leb (at + length bs) (length l)) (take at l ++ (bs ++ drop (at + length bs) l)) l

-- the signed number that w bytes stand for: their upper half is negative
abbrev pub signed_of : ℕ → ℕ → ℤ
signed_of w x = cond (ltb x (256 ^ w / 2)) (pos x) (pos x -ℤ pos (256 ^ w))

-- the w bytes, as a number, that stand for a signed number
abbrev pub bits_of : ℕ → ℤ → ℕ
bits_of w (pos n) = n
bits_of w (negsuc n) = 256 ^ w - suc n
