-- Document 01, "Response block": the layout as a code.
use Rattle.std.specs.Prelude.{List, [], ◌∷◌, Bool, false, cond, not, ◌||◌, ℕ, leb, eqb}
use Rattle.codes.specs.Code.{Code, field, give, byte, within, check, times}
use Rattle.blocks.specs.Block.{Block, response_block_fits, block}

pub record Response : Type 0 where
  pub reference : ℕ
  pub identifier : ℕ
  pub axis : ℕ
  pub count : ℕ
  pub blocks : List Block

-- "01/02 or 81/82"
abbrev pub is_answer : ℕ → Bool
is_answer id = eqb id 1 || eqb id 2 || eqb id 0x81 || eqb id 0x82

-- "02 ends there. 01, 81 and 82 go on with N blocks"
unfoldable pub response_blocks : ℕ → ℕ → ℕ
response_blocks id n = cond (eqb id 2) 0 n

abbrev pub is_error : Block → Bool
is_error b = eqb b.format 0x44

unfoldable pub has_error : List Block → Bool
has_error [] = false
has_error (b ∷ bs) = is_error b || has_error bs

-- 81 and 82: "at least one error"
unfoldable pub errors_fit : ℕ → List Block → Bool
errors_fit id bs = not (leb 0x81 id) || has_error bs

-- "Header: the same reference (1..255), 01/02 or 81/82, axis, N (1..39)"
unfoldable pub response : Code Response
response =
    field (λ r. r.reference) (within 1 255) (λ re.
    field (λ r. r.identifier) (check is_answer byte) (λ id.
    field (λ r. r.axis) byte (λ ax.
    field (λ r. r.count) (within 1 39) (λ n.
    field (λ r. r.blocks) (check (errors_fit id) (times (response_blocks id n) (block (response_block_fits id)))) (λ bls.
    give (record { reference = re; identifier = id; axis = ax; count = n; blocks = bls }))))))
