-- The state of a number, as what is found or S1, and when none is found. Assumes nothing.
use Rattle.std.proofs.Common.{ℕ, ◌≡◌, refl, sym, ap, arith, Bool, false, not, List, [], ◌∷◌, map, Result, is_err}
use Rattle.std.specs.Result.{result_unwrap_or}
use mathlib.Core.Bool.{not-not}
use borrow.Table.Steps.{cases}
use Rattle.drive.specs.declared.states.State.{State}
use Rattle.drive.specs.declared.states.State.TheVariants.{S1}
use Rattle.drive.specs.declared.states.UnknownState.{UnknownState}
use Rattle.drive.specs.Faults.{is_in}
use Rattle.drive.specs.States.{states, number_of, is_state, state_in, state_of, state_found}

none_has : (n : ℕ) (ss : List State) → is_in n (map number_of ss) ≡ false → state_in ss n ≡ S1
none_has n [] e = refl
none_has n (s ∷ ss) e = grind (arith, none_has n ss)

pub found_or_s1 : (n : ℕ) → result_unwrap_or (state_found n) S1 ≡ state_of n
unfolding state_found state_of
found_or_s1 n = cases (is_state n) (λ e. rw e) (λ e. rw e (sym (none_has n states e)))

not_found : (n : ℕ) → is_err (state_found n) ≡ not (is_state n)
unfolding state_found
not_found n = cases (is_state n) (λ e. rw e) (λ e. rw e)

-- what is known of a number where a state was looked for
pub state_known : {n m : ℕ} {r : Result State UnknownState} {b : Bool} → n ≡ m → r ≡ state_found n → b ≡ is_err r → is_state m ≡ not b
state_known same found failed = rw (failed, found, not_found, not-not) (ap is_state (sym same))
