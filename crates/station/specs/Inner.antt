-- What the functions inside the station promise each other; no public call cites it.
use Rattle.std.specs.Prelude.{◌≡◌, cond, List, ◌∷◌, ℕ, ◌+◌, ◌-◌, ◌*◌, ◌≤◌, leb, length, Result, Ok, Err}
use Rattle.std.specs.declared.ops.Range.{Range}
use Rattle.codes.specs.Number.{put}
use Rattle.part.specs.Layout.{part_size, waiting_length, waiting}
use Rattle.access.specs.Work.{Outcome, outcome_of}
use Rattle.station.specs.declared.Framed.{Framed}
use Rattle.station.specs.declared.refusal.Refusal.{Refusal}
use Rattle.station.specs.Refusal.{refusal_number}
use Rattle.station.specs.Parts.{farms, station_size}
use Rattle.station.specs.Frame.{block_of, refused_reply}
use Rattle.station.specs.declared.judge.Function.{Function}
use Rattle.station.specs.declared.judge.Function.TheVariants.{Write, Read}

-- what an answer comes to that may be a refusal: that is told by its number
abbrev pub told : {Answer : Type 0} → (ℕ → Answer) → Result Answer Refusal → Answer
told refused (Ok answer) = answer
told refused (Err refusal) = refused (refusal_number refusal)

-- where the part of farm k lies in a station's memory,
pub record Place (k : ℕ) (r : Range ℕ) : Type 0 where
  pub start : r.start ≡ (k - 1) * part_size
  pub end : r.end ≡ (k - 1) * part_size + part_size

-- and in a memory of n bytes, where neither is refused
pub record Lent (k n : ℕ) (r : Range ℕ) : Type 0 where
  pub low : 1 ≤ k
  pub high : k ≤ farms
  pub size : n ≡ station_size
  pub ordered : r.start ≤ r.end
  pub within : r.end ≤ n
  pub place : Place k r

-- a refusal by numbers 2 to 9, which need no look into a frame's block; else 0
unfoldable pub early : ℕ → ℕ
early n = cond (leb n 9) n 0

-- what a write's block comes to
abbrev pub outcome : ℕ → List ℕ → List ℕ → Outcome
outcome k f p = outcome_of k (block_of f) p

-- the answer to a read
abbrev pub fetched : List ℕ → List ℕ
fetched p = 0x5E ∷ 0 ∷ 0x2F ∷ waiting_length p ∷ waiting p

-- what is answered beside a reply
abbrev pub framed : List ℕ → ℕ → ℕ → Framed
framed reply stored n = record { length = length reply; stored = stored; number = n }

-- of a frame that is refused, and the reply memory where nothing is put in it yet
abbrev pub denied : List ℕ → ℕ → Framed
denied f n = framed (refused_reply f n) 0 n

abbrev pub reply_told : {Answer : Type 0} → List ℕ → List ℕ → Result Answer Refusal → List ℕ
reply_told f m (Ok answer) = m
reply_told f m (Err refusal) = put m 0 (refused_reply f (refusal_number refusal))

-- the first byte of a frame, by what it asks for
abbrev pub byte_of : Function → ℕ
byte_of Write = 0x5F
byte_of Read = 0x5E
