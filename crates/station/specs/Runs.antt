-- Demand 2, the two-run rule: runs of calls on a memory, and what one party sees of them.
use Rattle.std.specs.Prelude.{◌≡◌, Bool, cond, List, [], ◌∷◌}

-- a machine: each call has an answer, and leaves the memory in some way
pub record Machine : Type 1 where
  pub Memory : Type 0
  pub Call : Type 0
  pub Answer : Type 0
  pub answer : Call → Memory → Answer
  pub after : Call → Memory → Memory

-- a run: the answers in order, and the memory at the end
unfoldable pub run_answers : (M : Machine) → List M.Call → M.Memory → List M.Answer
run_answers M [] s = []
run_answers M (c ∷ cs) s = M.answer c s ∷ run_answers M cs (M.after c s)

unfoldable pub run_end : (M : Machine) → List M.Call → M.Memory → M.Memory
run_end M [] s = s
run_end M (c ∷ cs) s = run_end M cs (M.after c s)

-- the calls that a party makes, and of the answers those to them
unfoldable pub calls_by : (M : Machine) → (M.Call → Bool) → List M.Call → List M.Call
calls_by M mine [] = []
calls_by M mine (c ∷ cs) = cond (mine c) (c ∷ calls_by M mine cs) (calls_by M mine cs)

unfoldable pub answers_to : (M : Machine) → (M.Call → Bool) → List M.Call → List M.Answer → List M.Answer
answers_to M mine [] rs = []
answers_to M mine (c ∷ cs) [] = []
answers_to M mine (c ∷ cs) (r ∷ rs) = cond (mine c) (r ∷ answers_to M mine cs rs) (answers_to M mine cs rs)

-- two runs that start alike in the party's view, with the same calls of the party, give it the same answers and end alike in its view
unfoldable pub SameSeen : (M : Machine) → (M.Memory → Type 0) → (M.Call → Bool) → {Seeing : Type 0} → (M.Memory → Seeing) → Type 0
SameSeen M good mine view =
    (s t : M.Memory) → good s → good t → view s ≡ view t
    → (cs ds : List M.Call) → calls_by M mine cs ≡ calls_by M mine ds
    → (answers_to M mine cs (run_answers M cs s) ≡ answers_to M mine ds (run_answers M ds t)) × (view (run_end M cs s) ≡ view (run_end M ds t))
