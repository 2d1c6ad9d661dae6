-- Where the code's walk over blocks stands, said as what a reader on lists finds. No contract of a public function cites
-- this page.
use Rattle.blocks.specs.declared.Head.{Head}
use Rattle.std.specs.Prelude.{◌≡◌, List, Bool, true, cond, not, ◌||◌, ℕ, ◌+◌, ◌≤◌, length, get_or, drop, Option, Some, None}
use Rattle.codes.specs.Code.{Got, got, bad, and_then}
use Rattle.blocks.specs.declared.Reached.{Reached}
use Rattle.blocks.specs.Block.{block}
use Rattle.blocks.specs.Place.{head_of}

-- the block that stands at a place by a rule
abbrev pub block_by : (ℕ → ℕ → Bool) → List ℕ → ℕ → Option Head
block_by fits s at = head_of (length s) ((block fits).read (drop at s))

-- the two bytes at a place
pub record Starts (s : List ℕ) (at format count : ℕ) : Type 0 where
  pub room : at + 2 ≤ length s
  pub format-is : format ≡ get_or s at 0
  pub count-is : count ≡ get_or s (at + 1) 0

-- r is the block at a place by every rule that its format and its count pass
abbrev pub ByRules : List ℕ → ℕ → Option Head → Type 0
ByRules s at r = (fits : ℕ → ℕ → Bool) → fits (get_or s at 0) (get_or s (at + 1) 0) ≡ true → r ≡ block_by fits s at

abbrev pub map_got : {A B : Type 0} → (A → B) → Got A → Got B
map_got f g = and_then g (λ a t. got (f a) t)

abbrev pub standing : List ℕ → Option Reached → Got Bool
standing s (Some r) = got r.error (drop r.at s)
standing s None = bad

abbrev pub InBlock : List ℕ → Option Reached → Type 0
InBlock s (Some r) = r.at ≤ length s
InBlock s None = Unit {0}

-- w is where the reader that found g in s stands, and whether what it read held an error
pub record Walked (s : List ℕ) (g : Got Bool) (w : Option Reached) : Type 0 where
  pub stands : standing s w ≡ g
  pub in_block : InBlock s w

-- where an error is needed, nothing is read without one
abbrev pub erring : Bool → Got Bool → Got Bool
erring need g = and_then g (λ error t. cond (not need || error) (got error t) bad)

-- what requests and responses share: the length, the reference and the number of parameters
pub record Framed (s : List ℕ) : Type 0 where
  pub long : 4 ≤ length s
  pub short : length s ≤ 240
  pub reference : 1 ≤ get_or s 0 0
  pub some : 1 ≤ get_or s 3 0
  pub few : get_or s 3 0 ≤ 39
