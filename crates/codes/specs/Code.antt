-- Codes: which values may be written, how they are written as bytes, and how they are read back from the front of a list.
-- The blocks of document 01 are written down as codes, so that what is read and what is written is one definition.
use Rattle.std.specs.Prelude.{◌≡◌, List, [], ◌∷◌, ◌++◌, Bool, true, false, cond, ◌&&◌, ℕ, zero, suc, ◌+◌, ◌*◌, ◌/◌, ◌%◌, length, leb, ltb, eqb}

-- what a reader finds: a value and the bytes after it, or nothing
pub data Got (A : Type 0) : Type 0 where
  got : A → List ℕ → Got A
  bad : Got A

pub record Code (A : Type 0) : Type 1 where
  pub Valid : A → Type 0
  pub write : A → List ℕ
  pub read : List ℕ → Got A

abbrev pub and_then : {A B : Type 0} → Got A → (A → List ℕ → Got B) → Got B
and_then (got a s) k = k a s
and_then bad k = bad

abbrev pub first_of : List ℕ → Got ℕ
first_of [] = bad
first_of (x ∷ s) = got x s

-- one number, of any size
abbrev pub item : Code ℕ
item = record { Valid = λ x. Unit {0}; write = λ x. x ∷ []; read = first_of }

-- a value of the code c that passes the test p
abbrev pub check : {A : Type 0} → (A → Bool) → Code A → Code A
check p c =
    record {
      Valid = λ a. c.Valid a × (p a ≡ true);
      write = c.write;
      read = λ s. and_then (c.read s) (λ a t. cond (p a) (got a t) bad);
    }

-- no bytes: the value is x
abbrev pub give : {A : Type 0} → A → Code A
give x = record { Valid = λ y. y ≡ x; write = λ y. []; read = λ s. got x s }

-- the part `get r` of r by the code c, then r by the code that this part decides
abbrev pub field : {R A : Type 0} → (R → A) → Code A → (A → Code R) → Code R
field get c k =
    record {
      Valid = λ r. c.Valid (get r) × (k (get r)).Valid r;
      write = λ r. c.write (get r) ++ (k (get r)).write r;
      read = λ s. and_then (c.read s) (λ a t. (k a).read t);
    }

abbrev pub AllOf : {A : Type 0} → (A → Type 0) → List A → Type 0
AllOf P [] = Unit {0}
AllOf P (a ∷ xs) = P a × AllOf P xs

abbrev pub write_all : {A : Type 0} → (A → List ℕ) → List A → List ℕ
write_all f [] = []
write_all f (a ∷ xs) = f a ++ write_all f xs

abbrev pub read_times : {A : Type 0} → (List ℕ → Got A) → ℕ → List ℕ → Got (List A)
read_times f zero s = got [] s
read_times f (suc n) s = and_then (f s) (λ a t. and_then (read_times f n t) (λ xs u. got (a ∷ xs) u))

-- n values by the code c, one after the other
abbrev pub times : {A : Type 0} → ℕ → Code A → Code (List A)
times n c =
    record {
      Valid = λ xs. (length xs ≡ n) × AllOf c.Valid xs;
      write = write_all c.write;
      read = read_times c.read n;
    }

-- one byte
abbrev pub byte : Code ℕ
byte = check (λ b. ltb b 256) item

-- a byte between two limits, both included
abbrev pub within : ℕ → ℕ → Code ℕ
within lo hi = check (λ b. leb lo b && leb b hi) byte

-- n bytes that are zero, and tell nothing: the value is x
abbrev pub fill : {A : Type 0} → ℕ → A → Code A
fill zero x = give x
fill (suc n) x = field (λ y. 0) (check (λ b. eqb b 0) byte) (λ z. fill n x)

-- a number of w bytes, high byte first
abbrev pub word : ℕ → Code ℕ
word zero = give 0
word (suc w) = field (λ x. x / 256) (word w) (λ h. field (λ x. x % 256) byte (λ l. give (h * 256 + l)))

abbrev pub is_whole : {A : Type 0} → Got A → Bool
is_whole (got a []) = true
is_whole (got a (x ∷ t)) = false
is_whole bad = false

-- the whole list is read, with nothing left over
abbrev pub reads_all : {A : Type 0} → Code A → List ℕ → Bool
reads_all c s = is_whole (c.read s)

-- a block of at most `most` bytes that the code reads to its end
unfoldable pub readable : {A : Type 0} → ℕ → Code A → List ℕ → Bool
readable most c s = leb (length s) most && reads_all c s
