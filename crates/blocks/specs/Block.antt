-- Document 01, "Request block" and "Response block", with 02's R-2: what both are made of. A block is high byte first, of at most 240
-- bytes.
use Rattle.std.specs.Prelude.{List, Bool, cond, ◌&&◌, ◌||◌, ℕ, ◌%◌, length, replicate, leb, ltb, eqb}
use Rattle.codes.specs.Code.{Code, field, give, byte, check, times, fill, word}

-- "4 to 240 bytes"
abbrev pub block_limit : ℕ
block_limit = 240

-- a block of values: "format, number of values, values"
pub record Block : Type 0 where
  pub format : ℕ
  pub values : List ℕ

-- "Format sizes: 1 byte for 0x41, 2, 5; 2 for 0x42, 3, 6; 4 for 0x43, 4, 7. No other format": its size is 0
abbrev pub one_byte : ℕ → Bool
one_byte f = eqb f 0x41 || eqb f 2 || eqb f 5

abbrev pub two_bytes : ℕ → Bool
two_bytes f = eqb f 0x42 || eqb f 3 || eqb f 6

abbrev pub four_bytes : ℕ → Bool
four_bytes f = eqb f 0x43 || eqb f 4 || eqb f 7

unfoldable pub format_size : ℕ → ℕ
format_size f = cond (one_byte f) 1 (cond (two_bytes f) 2 (cond (four_bytes f) 4 0))

-- bytes of one value: the same, with the error word of a response, 0x44
unfoldable pub value_size : ℕ → ℕ
value_size f = cond (eqb f 0x44) 2 (format_size f)

-- the same by the codes of a response alone, 0x40 to 0x44: a data type has none
unfoldable pub code_size : ℕ → ℕ
code_size f = cond (leb 0x40 f) (value_size f) 0

-- Which blocks stand in a change: "No other format" than those that have a size; with any number of values.
unfoldable pub change_block_fits : ℕ → ℕ → Bool
change_block_fits f n = ltb 0 (format_size f)

-- Which blocks stand in a response: "0x41, 0x42 or 0x43, a count from 1 and the values; 40 00; or 44 01 and one error word".
abbrev pub value_fits : ℕ → ℕ → Bool
value_fits f n = (eqb f 0x41 || eqb f 0x42 || eqb f 0x43) && leb 1 n

abbrev pub empty_fits : ℕ → ℕ → Bool
empty_fits f n = eqb f 0x40 && eqb n 0

abbrev pub error_fits : ℕ → ℕ → Bool
error_fits f n = eqb f 0x44 && eqb n 1

-- By its identifier: "01 has value blocks only", "81 has value and error blocks", "82 has 40 00 and error blocks"
unfoldable pub response_block_fits : ℕ → ℕ → ℕ → Bool
response_block_fits id f n =
    cond (eqb id 1) (value_fits f n)
    (cond (eqb id 0x81) (value_fits f n || error_fits f n)
    (empty_fits f n || error_fits f n))

-- R-2: "an odd number of byte values is followed by one zero byte"; an even number of them, and wider values, by none
abbrev pub fill_size : ℕ → ℕ → ℕ
fill_size f n = cond (one_byte f) (n % 2) 0

-- n values of the format f. "The count leaves it out"
unfoldable pub values_of : ℕ → ℕ → Code (List ℕ)
values_of f n = field (λ vs. vs) (times n (word (value_size f))) (fill (fill_size f n))

-- the bytes that they take, whatever the values. "The length and the 0x15 rule count it"
unfoldable pub values_size : ℕ → ℕ → ℕ
values_size f n = length ((values_of f n).write (replicate n 0))

-- a block whose format and number of values pass the rule `fits`
unfoldable pub block : (ℕ → ℕ → Bool) → Code Block
block fits =
    field (λ b. b.format) byte (λ f.
    field (λ b. length b.values) (check (fits f) byte) (λ n.
    field (λ b. b.values) (values_of f n) (λ vs.
    give (record { format = f; values = vs }))))
