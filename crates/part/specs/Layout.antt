-- Document 01, "The box and its edges": all of an axis is held in its part of the memory that the caller lends; document 02, R-7, "Versions
-- stand in the farm's part".
use Rattle.std.specs.Prelude.{Bool, List, [], ◌∷◌, ◌++◌, ℕ, zero, suc, ◌+◌, ◌-◌, eqb, length, take, drop, replicate}
use Rattle.codes.specs.Number.{number_at, put}
use Rattle.blocks.specs.Block.{block_limit}
use Rattle.catalogue.specs.Table.{parameter_bytes}
use Rattle.versions.specs.Layout.{version_bytes, last_used}
use Rattle.versions.specs.Keep.{taken_within, restored_within}

-- Everything that stands in a part, in its order, by how many bytes it takes: the parameters in the order of the table, the state, the
-- effective setpoint, how long the waiting response is, its bytes, and the versions.
abbrev pub sizes : List ℕ
sizes = parameter_bytes ∷ 1 ∷ 2 ∷ 1 ∷ block_limit ∷ version_bytes ∷ []

-- where the k-th of them begins, the first at a place
abbrev pub start_of : ℕ → List ℕ → ℕ → ℕ
start_of at ns zero = at
start_of at [] (suc k) = at
start_of at (n ∷ ns) (suc k) = start_of (at + n) ns k

abbrev pub state_at : ℕ
state_at = start_of 0 sizes 1

abbrev pub effective_at : ℕ
effective_at = start_of 0 sizes 2

abbrev pub length_at : ℕ
length_at = start_of 0 sizes 3

abbrev pub response_at : ℕ
response_at = start_of 0 sizes 4

abbrev pub versions_at : ℕ
versions_at = start_of 0 sizes 5

-- the bytes of a part
abbrev pub part_size : ℕ
part_size = start_of 0 sizes 6

-- how many bytes of a response wait; 0: none waits
abbrev pub waiting_length : List ℕ → ℕ
waiting_length p = number_at 1 p length_at

-- the bytes kept for a response, and those of them that wait
abbrev pub response_room : List ℕ → List ℕ
response_room p = take block_limit (drop response_at p)

abbrev pub waiting : List ℕ → List ℕ
waiting p = take (waiting_length p) (response_room p)

-- the part with the response bs waiting: unused response bytes are 0
unfoldable pub with_response : List ℕ → List ℕ → List ℕ
with_response bs p = put (put p length_at (length bs ∷ [])) response_at (bs ++ replicate (block_limit - length bs) 0)

-- the bytes between the parameters and the versions: there stand the state, the effective setpoint and the waiting response
abbrev pub middle : List ℕ → List ℕ
middle p = take (versions_at - parameter_bytes) (drop parameter_bytes p)

-- the versions that a part holds; with its settings as they are kept as one more; and with the settings of version n
abbrev pub versions : List ℕ → List ℕ
versions p = drop versions_at p

abbrev pub with_version : List ℕ → List ℕ
with_version p = taken_within versions_at p

abbrev pub with_settings : ℕ → List ℕ → List ℕ
with_settings n p = restored_within versions_at n p

-- "numbers run from 1 to 65535, each used once": the last of them is used
abbrev pub used_up : List ℕ → Bool
used_up p = eqb (last_used (versions p)) 65535
