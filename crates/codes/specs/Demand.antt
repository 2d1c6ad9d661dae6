-- Demand 3: "a block of at most 240 bytes is readable exactly when the published layout can write it from some request;
-- that request is the only one; no readable block begins a longer one." Stated for any layout: which values are valid,
-- which bytes are written, and a test of lists of bytes.
use Rattle.std.specs.Prelude.{◌≡◌, List, [], ◌++◌, Bool, true, ◌↔◌, ℕ, ◌≤◌, length}

-- some valid value is written as exactly these bytes
abbrev pub Writable : {A : Type 0} → (A → Type 0) → (A → List ℕ) → List ℕ → Type 0
Writable {A} Valid write s = (a : A) × Valid a × (write a ≡ s)

-- and it is this value, in at most so many bytes
pub record WrittenAs {A : Type 0} (most : ℕ) (Valid : A → Type 0) (write : A → List ℕ) (s : List ℕ) (a : A) : Type 0 where
  pub fits : Valid a
  pub bytes : write a ≡ s
  pub short : length s ≤ most

pub record Demand3 {A : Type 0} (most : ℕ) (Valid : A → Type 0) (write : A → List ℕ) (readable : List ℕ → Bool) : Type 0 where
  pub exact : (s : List ℕ) → (readable s ≡ true) ↔ ((length s ≤ most) × Writable Valid write s)
  pub unique : (a b : A) → Valid a → Valid b → write a ≡ write b → a ≡ b
  pub final : (s t : List ℕ) → readable s ≡ true → readable (s ++ t) ≡ true → t ≡ []
