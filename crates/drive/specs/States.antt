-- Document 01's six states: the number of each, as a cycle answers it and as it stands in a part, and its name.
use Rattle.std.specs.Prelude.{cond, Bool, List, [], ◌∷◌, map, ℕ, eqb, codes, Result, Ok, Err}
use Rattle.drive.specs.declared.states.State.{State}
use Rattle.drive.specs.declared.states.State.TheVariants.{S1, S2, S3, S4, S51, S52}
use Rattle.drive.specs.declared.states.UnknownState.{UnknownState}
use Rattle.drive.specs.Faults.{is_in}

-- the six states, and the number of each, as a cycle answers it and as it stands in a part
abbrev pub states : List State
states = S1 ∷ S2 ∷ S3 ∷ S4 ∷ S51 ∷ S52 ∷ []

abbrev pub number_of : State → ℕ
number_of S1 = 1
number_of S2 = 2
number_of S3 = 3
number_of S4 = 4
number_of S51 = 51
number_of S52 = 52

-- "its state is one of the six"
abbrev pub is_state : ℕ → Bool
is_state n = is_in n (map number_of states)

-- the state that has a number; S1 where none has
abbrev pub state_in : List State → ℕ → State
state_in [] n = S1
state_in (s ∷ ss) n = cond (eqb n (number_of s)) s (state_in ss n)

unfoldable pub state_of : ℕ → State
state_of n = state_in states n

-- the same, or the number where none has it
unfoldable pub state_found : ℕ → Result State UnknownState
state_found n = cond (is_state n) (Ok (state_of n)) (Err (record { 0 = n }))

-- how each is written
abbrev pub name_of : State → List ℕ
name_of S1 = codes "S1"
name_of S2 = codes "S2"
name_of S3 = codes "S3"
name_of S4 = codes "S4"
name_of S51 = codes "S51"
name_of S52 = codes "S52"
