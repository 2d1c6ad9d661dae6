-- Numbers in a list of bytes, low byte first.
use Rattle.std.specs.Prelude.{List, [], ◌∷◌, ℕ, zero, suc, ◌+◌, ◌*◌, ◌/◌, ◌%◌, get_or}

-- the number in the w bytes from place at on; what stands there counts as a byte does, so that no number is wider than w bytes
abbrev pub low_number : ℕ → List ℕ → ℕ → ℕ
low_number zero s at = 0
low_number (suc w) s at = low_number w s (at + 1) * 256 + get_or s at 0 % 256

-- the low w bytes of a number
abbrev pub low_bytes : ℕ → ℕ → List ℕ
low_bytes zero x = []
low_bytes (suc w) x = x % 256 ∷ low_bytes w (x / 256)
