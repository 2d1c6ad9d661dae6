-- Document 01, "Control cycle", steps 2 and 3, and PNU 944 and 947: the fault buffer, situations of eight codes with the newest
-- situation first, and the fault counter. What the steps do to it; when they do it is said in `Cycle`.
-- Last, from "Frames and refusal numbers", when the buffer of a part is well-formed.
use Rattle.std.specs.Prelude.{ℕ, zero, suc, ◌+◌, ◌-◌, ◌*◌, ◌%◌, Bool, true, false, cond, not, ◌&&◌, ◌||◌, List, [], ◌∷◌, ◌++◌, eqb, ltb, take, drop, set, get_or, replicate}
use Rattle.drive.specs.declared.faults.Faults.{Faults}

-- how many situations the buffer holds
abbrev pub situations : ℕ
situations = 4

-- how many codes a situation holds
abbrev pub situation_codes : ℕ
situation_codes = 8

-- how many codes the buffer holds
abbrev pub buffer_codes : ℕ
buffer_codes = situations * situation_codes

-- every situation empty, the counter 0
abbrev pub no_faults : Faults
no_faults = record { counter = 0; buffer = replicate buffer_codes 0 }

-- codes fill a situation from its start, so situation 0 is empty where its first code is 0
abbrev pub is_empty_of : Faults → Bool
is_empty_of f = eqb (get_or f.buffer 0 0) 0

-- "The counter (PNU 944) goes from 65535 to 0."
abbrev pub bump_of : ℕ → ℕ
bump_of n = (n + 1) % 65536

-- "situations move down by one, the oldest is lost, situation 0 is empty"
abbrev pub shifted_of : List ℕ → List ℕ
shifted_of b = replicate situation_codes 0 ++ take (buffer_codes - situation_codes) b

-- the same, "and the fault counter adds 1"
abbrev pub acknowledged_of : Faults → Faults
acknowledged_of f = record { counter = bump_of f.counter; buffer = shifted_of f.buffer }

-- where x first stands in a list; the list's length where it does not
abbrev pub first_in : ℕ → List ℕ → ℕ
first_in x [] = 0
first_in x (y ∷ ys) = cond (eqb y x) 0 (suc (first_in x ys))

-- where x first stands in situation 0; `codes` where it does not
abbrev pub code_place : ℕ → List ℕ → ℕ
code_place x b = first_in x (take situation_codes b)

-- situation 0 has the code
abbrev pub holds : ℕ → Faults → Bool
holds x f = ltb (code_place x f.buffer) situation_codes

-- the end of situation 0, which is where its first 0 stands
abbrev pub end_of : Faults → ℕ
end_of f = code_place 0 f.buffer

-- situation 0 has room for one more
abbrev pub has_room : Faults → Bool
has_room f = ltb (end_of f) situation_codes

-- a code "is put" at a place of situation 0, "and the counter adds 1"
abbrev pub put_of : Faults → ℕ → ℕ → Faults
put_of f at x = record { counter = bump_of f.counter; buffer = set f.buffer at x }

-- "in each situation no code stands after a 0 or twice"
abbrev pub is_in : ℕ → List ℕ → Bool
is_in x [] = false
is_in x (y ∷ ys) = eqb y x || is_in x ys

abbrev pub zeros : List ℕ → Bool
zeros [] = true
zeros (y ∷ ys) = eqb y 0 && zeros ys

-- one situation
abbrev pub proper : List ℕ → Bool
proper [] = true
proper (y ∷ ys) = cond (eqb y 0) (zeros ys) (not (is_in y ys) && proper ys)

-- the first n situations
abbrev pub all_proper : ℕ → List ℕ → Bool
all_proper zero b = true
all_proper (suc n) b = proper (take situation_codes b) && all_proper n (drop situation_codes b)

abbrev pub proper_faults : Faults → Bool
proper_faults f = all_proper situations f.buffer
