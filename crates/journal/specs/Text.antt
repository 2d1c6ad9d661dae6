-- Document 01, "Journal program": numbers as a journal's line writes them: ASCII, decimal with a sign, and hex in capitals.
use Rattle.std.specs.Prelude.{cond, List, [], ◌∷◌, ◌++◌, ℕ, zero, suc, ◌+◌, ◌/◌, ◌%◌, ltb, ℤ, pos, negsuc}

-- a digit, below 16
abbrev pub digit : ℕ → ℕ
digit d = cond (ltb d 10) (0x30 + d) (0x37 + d)

-- a number in decimal, of at most n + 1 digits
abbrev pub decimal_in : ℕ → ℕ → List ℕ
decimal_in zero x = digit (x % 10) ∷ []
decimal_in (suc n) x = cond (ltb x 10) (digit x ∷ []) (decimal_in n (x / 10) ++ (digit (x % 10) ∷ []))

-- twenty digits are enough for 64 bits
unfoldable pub decimal : ℕ → List ℕ
decimal x = decimal_in 19 x

-- with its sign where it is below 0
unfoldable pub signed : ℤ → List ℕ
signed (pos x) = decimal x
signed (negsuc x) = 0x2D ∷ decimal (suc x)

-- a byte in two digits of hex, a word in four, and bytes one after the other
abbrev pub hex_byte : ℕ → List ℕ
hex_byte b = digit (b / 16) ∷ digit (b % 16) ∷ []

unfoldable pub hex_word : ℕ → List ℕ
hex_word w = hex_byte (w / 256) ++ hex_byte (w % 256)

abbrev pub hex_bytes : List ℕ → List ℕ
hex_bytes [] = []
hex_bytes (b ∷ bs) = hex_byte b ++ hex_bytes bs
