-- Document 02, R-4, "Check the other maker's answers": "A checker gets a request block and a response block and says yes exactly when the
-- request is readable, the response is readable, has the same reference, axis and N, the matching identifier (01 with 01 or 81, 02 with
-- 02 or 82), and in each value block a count equal to the elements asked (0 counts as 1). For a no it names the first check that failed,
-- in that order."
use Rattle.std.specs.Prelude.{Bool, true, cond, not, ◌&&◌, ◌||◌, List, [], ◌∷◌, ℕ, eqb, leb, length}
use Rattle.checker.specs.declared.Verdict.{Verdict}
use Rattle.checker.specs.declared.Verdict.TheVariants.{Yes, RequestUnreadable, ResponseUnreadable, OtherReference, OtherAxis, OtherNumber, OtherIdentifier, OtherCounts}
use Rattle.codes.specs.Code.{Code, Got, got, bad, readable}
use Rattle.blocks.specs.Block.{Block, block_limit}
use Rattle.blocks.specs.Request.{Request, request}
use Rattle.blocks.specs.Response.{Response, response}
use Rattle.blocks.specs.declared.reader.Address.{Address}

-- "the matching identifier (01 with 01 or 81, 02 with 02 or 82)": what answers the identifier of a request
abbrev pub matching : ℕ → ℕ → Bool
matching asked id = cond (eqb asked 1) (eqb id 1 || eqb id 0x81) (eqb id 2 || eqb id 0x82)

-- a value block has one of the formats 0x41 to 0x43; an error and 40 00 have others
abbrev pub is_values : ℕ → Bool
is_values f = leb 0x41 f && leb f 0x43

-- "the elements asked (0 counts as 1)"
abbrev pub elements_asked : ℕ → ℕ
elements_asked e = cond (eqb e 0) 1 e

-- "in each value block a count equal to the elements asked": of a block of n values of the format f, where e elements were asked
abbrev pub count_fits : ℕ → ℕ → ℕ → Bool
count_fits e f n = not (is_values f) || eqb n (elements_asked e)

-- each block beside the address that it answers; 02 has no blocks
unfoldable pub counts_fit : List Address → List Block → Bool
counts_fit [] bs = true
counts_fit (a ∷ more) [] = true
counts_fit (a ∷ more) (b ∷ bs) = count_fits a.elements b.format (length b.values) && counts_fit more bs

-- checks 3 to 7, of a request and a response: the number of the first that failed, 0 for a yes
unfoldable pub compared : Request → Response → ℕ
compared q r =
    cond (not (eqb r.reference q.reference)) 3
    (cond (not (eqb r.axis q.axis)) 4
    (cond (not (eqb r.count (length q.addresses))) 5
    (cond (not (matching q.identifier r.identifier)) 6
    (cond (not (counts_fit q.addresses r.blocks)) 7
    0))))

-- what a block reads as, where it is readable
abbrev read_as : {A : Type 0} → Code A → List ℕ → Got A
read_as c s = cond (readable block_limit c s) (c.read s) bad

-- before them check 1, "the request is readable", and check 2, "the response is readable": neither where nothing is read
abbrev judged : Got Request → Got Response → ℕ
judged bad r = 1
judged (got q s) bad = 2
judged (got q s) (got r t) = compared q r

unfoldable pub check_of : List ℕ → List ℕ → ℕ
check_of s t = judged (read_as request s) (read_as response t)

-- the number of each answer of the code
abbrev pub number_of : Verdict → ℕ
number_of Yes = 0
number_of RequestUnreadable = 1
number_of ResponseUnreadable = 2
number_of OtherReference = 3
number_of OtherAxis = 4
number_of OtherNumber = 5
number_of OtherIdentifier = 6
number_of OtherCounts = 7
