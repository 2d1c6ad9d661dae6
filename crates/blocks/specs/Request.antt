-- Document 01, "Request block": the layout as a code.
use Rattle.std.specs.Prelude.{List, cond, ℕ, length, eqb}
use Rattle.codes.specs.Code.{Code, field, give, byte, within, times, word}
use Rattle.blocks.specs.declared.reader.Address.{Address}
use Rattle.blocks.specs.Block.{Block, change_block_fits, block}

pub record Request : Type 0 where
  pub reference : ℕ
  pub identifier : ℕ
  pub axis : ℕ
  pub addresses : List Address
  pub blocks : List Block

-- "addresses of 6 bytes: attribute, number of elements, PNU (2), sub-index (2); all their values are readable"
unfoldable pub address : Code Address
address =
    field (λ a. a.attribute) byte (λ at.
    field (λ a. a.elements) byte (λ el.
    field (λ a. a.pnu) (word 2) (λ pn.
    field (λ a. a.subindex) (word 2) (λ su.
    give (record { attribute = at; elements = el; pnu = pn; subindex = su })))))

-- "A request ends there. A change goes on with N value blocks"
unfoldable pub request_blocks : ℕ → ℕ → ℕ
request_blocks id n = cond (eqb id 2) n 0

-- "Header: reference 1..255; 01 request or 02 change; axis; number of parameters N, 1..39. Then N addresses"
unfoldable pub request : Code Request
request =
    field (λ r. r.reference) (within 1 255) (λ re.
    field (λ r. r.identifier) (within 1 2) (λ id.
    field (λ r. r.axis) byte (λ ax.
    field (λ r. length r.addresses) (within 1 39) (λ n.
    field (λ r. r.addresses) (times n address) (λ ads.
    field (λ r. r.blocks) (times (request_blocks id n) (block change_block_fits)) (λ bls.
    give (record { reference = re; identifier = id; axis = ax; addresses = ads; blocks = bls })))))))
