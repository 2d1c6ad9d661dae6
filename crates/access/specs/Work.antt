-- Document 01, "Response block" and "Parameters of each axis", and document 02, R-7: a readable request worked on the part of its axis.
use Rattle.std.specs.Prelude.{Bool, false, cond, not, ◌&&◌, List, [], ℕ, eqb, length, Result, Ok, Err}
use Rattle.codes.specs.Code.{Got, got, bad, readable}
use Rattle.blocks.specs.Block.{Block, block_limit}
use Rattle.blocks.specs.Request.{Request, request}
use Rattle.blocks.specs.Response.{Response, has_error, response}
use Rattle.part.specs.Layout.{with_response, with_version, used_up}
use Rattle.access.specs.declared.error.Refused.{Refused}
use Rattle.access.specs.declared.error.Refused.TheVariants.{Unreadable, ForeignAxis, UsedUp}
use Rattle.access.specs.Read.{read_blocks}
use Rattle.access.specs.Change.{change_all}

-- the response, the part, and how many elements were stored
pub record Worked : Type 0 where
  pub response : Response
  pub part : List ℕ
  pub stored : ℕ

-- "Header: the same reference (1..255), 01/02 or 81/82, axis, N (1..39)."
abbrev pub answer_of : Request → ℕ → List Block → Response
answer_of r id bs =
    record { reference = r.reference; identifier = id; axis = r.axis; count = length r.addresses; blocks = bs }

-- "01 has value blocks only; 81 has value and error blocks, at least one error"
abbrev pub worked_read : Request → List ℕ → Worked
worked_read r p =
    let bs = read_blocks p 4 r.addresses in
    record { response = answer_of r (cond (has_error bs) 0x81 0x01) bs; part = p; stored = 0 }

-- R-7: "A version is taken after every change that stores at least one element"
abbrev pub versioned : ℕ → List ℕ → List ℕ
versioned stored p = cond (eqb stored 0) p (with_version p)

-- "02 ends there"; "82 has 40 00 and error blocks, at least one error"
abbrev pub worked_change : Request → List ℕ → Worked
worked_change r p =
    let c = change_all r.addresses r.blocks p in
    record {
      response = cond (has_error c.blocks) (answer_of r 0x82 c.blocks) (answer_of r 0x02 []);
      part = versioned c.stored c.part;
      stored = c.stored;
    }

-- "01 request or 02 change"
unfoldable pub worked : Request → List ℕ → Worked
worked r p = cond (eqb r.identifier 1) (worked_read r p) (worked_change r p)

-- What a block sent to an axis comes to: the refusal number, or 0; how many elements were stored; and the axis's part.
pub record Outcome : Type 0 where
  pub number : ℕ
  pub stored : ℕ
  pub part : List ℕ

-- number 10, "block not readable", 11, "block's axis isn't the caller's", and 15, "numbers used up and an element would be stored"
abbrev pub refused_number : Refused → ℕ
refused_number Unreadable = 10
refused_number ForeignAxis = 11
refused_number UsedUp = 15

-- the two, of what is told of it: how many elements were stored, or why it was refused
abbrev pub number_in : Result ℕ Refused → ℕ
number_in (Ok n) = 0
number_in (Err r) = refused_number r

abbrev pub stored_in : Result ℕ Refused → ℕ
stored_in (Ok n) = n
stored_in (Err r) = 0

abbrev pub refused : ℕ → List ℕ → Outcome
refused n p = record { number = n; stored = 0; part = p }

-- R-7, number 15: "numbers used up and an element would be stored"
abbrev pub exhausts : Request → List ℕ → Bool
exhausts r p = used_up p && not (eqb (worked r p).stored 0)

-- number 11, "block's axis isn't the caller's", and 15; else "the response then waits"
abbrev pub admitted : ℕ → List ℕ → Request → Outcome
admitted axis p r =
    cond (not (eqb r.axis axis)) (refused 11 p)
    (cond (exhausts r p) (refused 15 p)
    (record { number = 0; stored = (worked r p).stored; part = with_response (response.write (worked r p).response) (worked r p).part }))

-- number 10, "block not readable"
abbrev pub admitted_if : ℕ → List ℕ → Bool → Got Request → Outcome
admitted_if axis p fits (got r t) = cond fits (admitted axis p r) (refused 10 p)
admitted_if axis p fits bad = refused 10 p

unfoldable pub outcome_of : ℕ → List ℕ → List ℕ → Outcome
outcome_of axis s p = admitted_if axis p (readable block_limit request s) (request.read s)

-- whether the request that a block holds would be refused by 15
abbrev pub exhausts_in : List ℕ → Got Request → Bool
exhausts_in p (got r t) = exhausts r p
exhausts_in p bad = false
