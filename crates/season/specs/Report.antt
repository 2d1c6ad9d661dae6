-- Document 02, R-1: "Sixteen lines in farm order: `r`, the farm and the ten counts as listed, in decimal, each below 2^64."
use Rattle.std.specs.Prelude.{List, [], ◌∷◌, ◌++◌, ℕ, zero, suc, Result, Ok, Err}
use Rattle.station.specs.Parts.{farms}
use Rattle.journal.specs.Text.{decimal}
use Rattle.journal.specs.Line.{space, bad_line}
use Rattle.season.specs.declared.Stop.{Stop}
use Rattle.season.specs.declared.Stop.TheVariants.{Bad, Over}
use Rattle.season.specs.Season.{farm_counts, season_of}

-- numbers in decimal, each after a space
abbrev pub spaced : List ℕ → List ℕ
spaced [] = []
spaced (n ∷ ns) = (space ∷ decimal n) ++ spaced ns

-- "`r`, the farm and the ten counts"
unfoldable pub farm_line : ℕ → List ℕ → List ℕ
farm_line k totals = 0x72 ∷ spaced (k ∷ farm_counts k totals) ++ (0x0A ∷ [])

-- the lines of farms 1 to k, "in farm order"
unfoldable pub lines_to : ℕ → List ℕ → List ℕ
lines_to zero totals = []
lines_to (suc k) totals = lines_to k totals ++ farm_line (suc k) totals

-- "A `bad` record ends the report with the totals so far and that word. Refusals: 13, a count would reach 2^64; it ends with the
-- totals before that record and `x 13`."
abbrev pub last_line : Result Unit Stop → List ℕ
last_line (Ok done) = []
last_line (Err Bad) = bad_line
last_line (Err Over) = 0x78 ∷ spaced (13 ∷ []) ++ (0x0A ∷ [])

unfoldable pub report_text : List ℕ → Result Unit Stop → List ℕ
report_text totals last = lines_to farms totals ++ last_line last

-- the whole report of a journal
abbrev pub report_of : List ℕ → List ℕ
report_of bs = report_text (season_of bs).totals (season_of bs).last
