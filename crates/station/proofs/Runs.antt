-- What one party sees of a run, from four laws of one call.
use mathlib.Core.Path.{◌≡◌, refl}
use mathlib.Core.Bool.{Bool, true, false}
use mathlib.Core.List.{List, [], ◌∷◌}
use Rattle.station.specs.Runs.{Machine, run_answers, run_end, calls_by, answers_to, SameSeen}

-- a party's own calls are answered by its view and change it by itself alone; other calls leave it
pub record Owns (M : Machine) (good : M.Memory → Type 0) (mine : M.Call → Bool) (Seeing : Type 0) (view : M.Memory → Seeing) : Type 0 where
  pub says : M.Call → Seeing → M.Answer
  pub goes : M.Call → Seeing → Seeing
  pub stays : (c : M.Call) (s : M.Memory) → good s → good (M.after c s)
  pub said : (c : M.Call) (s : M.Memory) → good s → mine c ≡ true → M.answer c s ≡ says c (view s)
  pub went : (c : M.Call) (s : M.Memory) → good s → mine c ≡ true → view (M.after c s) ≡ goes c (view s)
  pub kept : (c : M.Call) (s : M.Memory) → good s → mine c ≡ false → view (M.after c s) ≡ view s

module _ (M : Machine) (good : M.Memory → Type 0) (mine : M.Call → Bool) (Seeing : Type 0) (view : M.Memory → Seeing) (o : Owns M good mine Seeing view) where
  solo_answers : List M.Call → Seeing → List M.Answer
  solo_answers [] v = []
  solo_answers (c ∷ cs) v = o.says c v ∷ solo_answers cs (o.goes c v)

  solo_end : List M.Call → Seeing → Seeing
  solo_end [] v = v
  solo_end (c ∷ cs) v = solo_end cs (o.goes c v)

  -- what is seen of a run is the run of the party's own calls on its view
  Seen : List M.Call → M.Memory → Type 0
  Seen cs s =
      (answers_to M mine cs (run_answers M cs s) ≡ solo_answers (calls_by M mine cs) (view s)) × (view (run_end M cs s) ≡ solo_end (calls_by M mine cs) (view s))

  seen_by : (c : M.Call) (cs : List M.Call) (s : M.Memory) → good s → Seen cs (M.after c s) → (b : Bool) → mine c ≡ b → Seen (c ∷ cs) s
  unfolding Seen answers_to run_answers run_end calls_by solo_answers solo_end
  seen_by c cs s g ih true e =
      let p : view (M.after c s) ≡ o.goes c (view s) = o.went c s g e in
      let q : M.answer c s ≡ o.says c (view s) = o.said c s g e in
      rw e (cc ih.0, cc ih.1)
  seen_by c cs s g ih false e =
      let p : view (M.after c s) ≡ view s = o.kept c s g e in
      rw e (cc ih.0, cc ih.1)

  seen : (cs : List M.Call) (s : M.Memory) → good s → Seen cs s
  unfolding Seen answers_to run_answers run_end calls_by solo_answers solo_end
  seen [] s g = (refl, refl)
  seen (c ∷ cs) s g = seen_by c cs s g (seen cs (M.after c s) (o.stays c s g)) (mine c) refl

  pub same_seen : SameSeen M good mine view
  unfolding SameSeen Seen
  same_seen s t gs gt e cs ds same =
      let a = seen cs s gs in
      let b = seen ds t gt in
      (cc (a.0, b.0), cc (a.1, b.1))
