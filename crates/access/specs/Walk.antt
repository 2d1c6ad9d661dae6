-- What the steps of the code leave, said of the definitions. No contract of a public function cites this page.
use Rattle.std.specs.Prelude.{◌≡◌, false, cond, not, ◌&&◌, ◌||◌, List, [], ◌∷◌, ℕ, ◌+◌, ◌≤◌, eqb, length, drop, replicate, Result, Ok, Err}
use Rattle.std.specs.Result.{result_unwrap_or}
use Rattle.codes.specs.Code.{read_times}
use Rattle.codes.specs.Number.{value_or, put}
use Rattle.drive.specs.Faults.{buffer_codes}
use Rattle.blocks.specs.Block.{Block, block_limit, change_block_fits, block}
use Rattle.blocks.specs.Page.{block_bytes}
use Rattle.blocks.specs.Request.{Request, request}
use Rattle.blocks.specs.Response.{is_error, response}
use Rattle.part.specs.Layout.{with_response, used_up}
use Rattle.access.specs.declared.reply.Reply.{Reply}
use Rattle.access.specs.declared.error.ParameterError.{ParameterError}
use Rattle.access.specs.declared.error.Refused.{Refused}
use Rattle.access.specs.Address.{error_block, empty_block}
use Rattle.access.specs.Change.{Changed, ChangedAll}
use Rattle.access.specs.Work.{Worked, worked_change, Outcome, refused, number_in, stored_in}

-- a response with no block yet
abbrev pub no_blocks : Reply
no_blocks = record { bytes = replicate block_limit 0; next = 4; error = false }

-- with one block more, and with blocks one after the other
abbrev pub with_block : Block → Reply → Reply
with_block b x =
    record {
      bytes = put x.bytes x.next (block_bytes b);
      next = x.next + length (block_bytes b);
      error = x.error || is_error b;
    }

abbrev pub with_blocks : List Block → Reply → Reply
with_blocks [] x = x
with_blocks (b ∷ bs) x = with_blocks bs (with_block b x)

-- the block of a change at a place, and n of them in a row; none where they are not readable
abbrev pub block_in : List ℕ → ℕ → Block
block_in s at = value_or empty_block ((block change_block_fits).read (drop at s))

abbrev pub blocks_in : ℕ → List ℕ → ℕ → List Block
blocks_in n s at = value_or [] (read_times (block change_block_fits).read n (drop at s))

-- how an address of a change is answered, and how many elements it stored
abbrev pub answer_in : Result ℕ ParameterError → Block
answer_in (Ok n) = empty_block
answer_in (Err e) = error_block e

abbrev pub counted : Result ℕ ParameterError → ℕ
counted d = result_unwrap_or d 0

-- an address came to c: d says so, and m is the part then
pub record Did (c : Changed) (m : List ℕ) (d : Result ℕ ParameterError) : Type 0 where
  pub block : answer_in d ≡ c.block
  pub part : m ≡ c.part
  pub stored : counted d ≡ c.stored
  pub few : counted d ≤ buffer_codes

-- all addresses came to c: m is the part then, x with their answers is y, and n elements were stored
pub record DidAll (c : ChangedAll) (m : List ℕ) (x y : Reply) (n : ℕ) : Type 0 where
  pub wrote : y ≡ with_blocks c.blocks x
  pub part : m ≡ c.part
  pub stored : n ≡ c.stored

-- the request that is read from a block
abbrev pub request_in : List ℕ → Request
request_in s = value_or (record { reference = 0; identifier = 0; axis = 0; addresses = []; blocks = [] }) (request.read s)

-- the part with the response waiting
abbrev pub responded_part : Worked → List ℕ
responded_part w = with_response (response.write w.response) w.part

-- what a change comes to, where it names the caller's axis
abbrev pub change_outcome : Request → List ℕ → Outcome
change_outcome r p =
    let w = worked_change r p in
    cond (used_up p && not (eqb w.stored 0)) (refused 15 p) (record { number = 0; stored = w.stored; part = responded_part w })

-- a block came to o: d says so, and m is the part then
pub record Reported (o : Outcome) (m : List ℕ) (d : Result ℕ Refused) : Type 0 where
  pub number : number_in d ≡ o.number
  pub stored : stored_in d ≡ o.stored
  pub part : m ≡ o.part
