-- Document 01, "Frames and refusal numbers", and document 02, R-7: "The order of checks is the order of numbers.", "the whole station after
-- any refusal" stays, "A waiting response outlives 8 and 9.", "A version is taken after every change that stores at least one element":
-- what every kind of call owes of that on its owner's part, said once for all of them. The laws of numbers, refusals, well-formed parts,
-- isolation, versions and of what may come between a write and its fetch (Laws.antt) rest on it.
use Rattle.std.specs.Prelude.{◌≡◌, true, false, cond, not, List, ℕ, suc, ◌≤◌, eqb, length}
use Rattle.versions.specs.Keep.{taken}
use Rattle.part.specs.Layout.{part_size, waiting_length, waiting, versions, used_up}
use Rattle.part.specs.WellFormed.{well_formed}
use Rattle.station.specs.Calls.{Call, Kind, kind_of, number_in, stored_in}

pub record Owes (c : Kind) : Type 0 where
  -- a refusal answers its number, and nothing is stored
  pub names : (n : ℕ) → number_in (c.refused n) ≡ n
  pub empty : (n : ℕ) → stored_in (c.refused n) ≡ 0
  -- on its owner's part: number 2 where that is not well-formed, else what its tests say, which is 0 or 3 and above
  pub numbered : (p : List ℕ) → number_in (c.answers p) ≡ cond (not (well_formed c.owner p)) 2 (c.tests p)
  pub later : (p : List ℕ) → c.tests p ≤ 2 → c.tests p ≡ 0
  -- every number but 0 settles the answer and leaves the part as it was
  pub refuses : (p : List ℕ) (n : ℕ) → number_in (c.answers p) ≡ suc n → (c.answers p ≡ c.refused (suc n)) × (c.leaves p ≡ p)
  -- of a part it leaves a part,
  pub sized : (p : List ℕ) → length p ≡ part_size → length (c.leaves p) ≡ part_size
  -- well-formed where it was,
  pub formed : (p : List ℕ) → c.Fits → well_formed c.owner p ≡ true → well_formed c.owner (c.leaves p) ≡ true
  -- and a response that waits goes on waiting, unless the call fetches
  pub waits : (p : List ℕ) → c.fetches ≡ false → (waiting_length p ≡ 0 → ⊥) → waiting (c.leaves p) ≡ waiting p
  -- document 02, R-7: where it stores something, and only there, the settings that it leaves are taken as a version, and a number is left
  pub versioned :
      (p : List ℕ) → length p ≡ part_size
      → versions (c.leaves p) ≡ cond (eqb (stored_in (c.answers p)) 0) (versions p) (taken (c.leaves p) (versions p))
  pub numbers : (p : List ℕ) → (stored_in (c.answers p) ≡ 0 → ⊥) → used_up p ≡ false

abbrev pub EveryKindOwes : Type 0
EveryKindOwes = (c : Call) → Owes (kind_of c)
