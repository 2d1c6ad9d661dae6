-- Demand 2, the two-run rule: calls on a station, whatever their kinds are: each works on its owner's part, and farm and size are judged before any part.
use Rattle.std.specs.Prelude.{◌≡◌, List, ℕ, zero, suc, ◌≤◌, eqb, length}
use Rattle.part.specs.Layout.{part_size}
use Rattle.station.specs.Parts.{farms, station_size, part_of, with_part, station_refusal}
use Rattle.station.specs.Runs.{Machine, SameSeen}

-- whose each call is, its answer where its farm or the size is refused, and what it answers and leaves on its owner's part
pub record Kinds : Type 1 where
  pub Call : Type 0
  pub Answer : Type 0
  pub owner : Call → ℕ
  pub refused : Call → ℕ → Answer
  pub answers : Call → List ℕ → Answer
  pub leaves : Call → List ℕ → List ℕ

abbrev pub answer_by : (K : Kinds) → ℕ → K.Call → List ℕ → K.Answer
answer_by K zero c s = K.answers c (part_of (K.owner c) s)
answer_by K (suc n) c s = K.refused c (suc n)

abbrev pub left_by : (K : Kinds) → ℕ → K.Call → List ℕ → List ℕ
left_by K zero c s = with_part (K.owner c) (K.leaves c (part_of (K.owner c) s)) s
left_by K (suc n) c s = s

-- the answer to a call, and the station after it
unfoldable pub answer : (K : Kinds) → K.Call → List ℕ → K.Answer
answer K c s = answer_by K (station_refusal (K.owner c) (length s)) c s

unfoldable pub after : (K : Kinds) → K.Call → List ℕ → List ℕ
after K c s = left_by K (station_refusal (K.owner c) (length s)) c s

abbrev pub machine : Kinds → Machine
machine K = record { Memory = List ℕ; Call = K.Call; Answer = K.Answer; answer = answer K; after = after K }

-- Demand 2: "Two runs that agree on one farm's starting part and calls give that farm the same answers and the same part, whatever
-- the others do."
unfoldable pub Isolated : Kinds → Type 0
Isolated K = (k : ℕ) → 1 ≤ k → k ≤ farms → SameSeen (machine K) (λ s. length s ≡ station_size) (λ c. eqb (K.owner c) k) (part_of k)

-- all that isolation asks of the kinds: of a part each call leaves a part
unfoldable pub Sized : Kinds → Type 0
Sized K = (c : K.Call) (p : List ℕ) → length p ≡ part_size → length (K.leaves c p) ≡ part_size
