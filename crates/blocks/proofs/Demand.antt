-- Demand 3, for requests and for responses: one statement each, over the plain page.
use mathlib.Core.Path.{◌≡◌}
use mathlib.Core.Bool.{true}
use mathlib.Core.List.{List, [], ◌++◌}
use Prim.Native.Nat.{ℕ}
use Rattle.codes.specs.Code.{got, readable}
use Rattle.codes.specs.Demand.{Demand3}
use Rattle.codes.proofs.Demand.{demand, on_page, page_read}
use Rattle.blocks.specs.Block.{block_limit}
use Rattle.blocks.specs.Request.{Request, request}
use Rattle.blocks.specs.Response.{Response, response}
use Rattle.blocks.specs.Page.{RequestFits, request_bytes, ResponseFits, response_bytes, IsRequest, IsResponse}
use Rattle.blocks.proofs.Sound.{request_sound, response_sound}
use Rattle.blocks.proofs.Page.{request_valid, request_bytes_lem, response_valid, response_bytes_lem}

pub requests : Demand3 block_limit RequestFits request_bytes (readable block_limit request)
requests = on_page request_valid request_bytes_lem (demand block_limit request request_sound)

pub responses : Demand3 block_limit ResponseFits response_bytes (readable block_limit response)
responses = on_page response_valid response_bytes_lem (demand block_limit response response_sound)

-- What the page writes is read back as it was.
pub request_read : (s : List ℕ) (r : Request) → IsRequest s r → request.read s ≡ got r []
request_read = page_read request request_sound request_valid request_bytes_lem block_limit

pub response_read : (s : List ℕ) (r : Response) → IsResponse s r → response.read s ≡ got r []
response_read = page_read response response_sound response_valid response_bytes_lem block_limit

-- The second and the third sentence, written out: a `Demand3` that is made weaker fails here.
one_request : (a b : Request) → RequestFits a → RequestFits b → request_bytes a ≡ request_bytes b → a ≡ b
one_request = requests.unique

no_longer_request : (s t : List ℕ) → readable block_limit request s ≡ true → readable block_limit request (s ++ t) ≡ true → t ≡ []
no_longer_request = requests.final

one_response : (a b : Response) → ResponseFits a → ResponseFits b → response_bytes a ≡ response_bytes b → a ≡ b
one_response = responses.unique

no_longer_response : (s t : List ℕ) → readable block_limit response s ≡ true → readable block_limit response (s ++ t) ≡ true → t ≡ []
no_longer_response = responses.final
