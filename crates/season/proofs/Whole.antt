-- Records counted one after the other are the season of the whole journal.
use mathlib.Core.Path.{◌≡◌, refl, sym, ap, ◌∙◌}
use mathlib.Core.Bool.{true, false}
use mathlib.Core.List.{List, [], ◌∷◌}
use Prim.Native.Nat.{ℕ, zero, suc, ◌*◌}
use native.Mathlib.Omega.{arith}
use lib.ListN.{length, replicate}
use Rattle.station.specs.Parts.{farms, fresh_parts}
use Rattle.station.specs.Calls.{kinds}
use Rattle.station.specs.Isolation.{after}
use Rattle.journal.specs.Line.{next_record, past_record, is_record, call_of, record_after}
use Rattle.journal.specs.History.{parted_in, parted, event_of, history, calls}
use Rattle.journal.specs.Laws.{pieces_in, pieces}
use Rattle.journal.proofs.Whole.{none, by_pieces}
use Rattle.std.specs.Prelude.{Result, Ok, Err}
use Rattle.season.specs.declared.Stop.{Stop}
use Rattle.season.specs.declared.Stop.TheVariants.{Bad, Over}
use Rattle.season.specs.Season.{Season, tally, next, and_then, count, ending, season_from, season_of, step_of}
use Rattle.season.specs.Laws.{stepped, CountsWhole, ReportsWhole}
use Rattle.season.specs.Report.{report_text}

-- one after the other, however they are bracketed
next_next : (l : Result Unit Stop) (totals : List ℕ) (f g : List ℕ → Season) → and_then (next l totals f) g ≡ next l totals (λ u. and_then (f u) g)
next_next (Ok done) totals f g = refl
next_next (Err Bad) totals f g = refl
next_next (Err Over) totals f g = refl

-- the same goes on alike
next_same : (l : Result Unit Stop) (totals : List ℕ) (f g : List ℕ → Season) → ((u : List ℕ) → f u ≡ g u) → next l totals f ≡ next l totals g
next_same (Ok done) totals f g e = e totals
next_same (Err Bad) totals f g e = refl
next_same (Err Over) totals f g e = refl

-- pieces counted, by at most n of them, over any totals
abbrev Counts : ℕ → List ℕ → List ℕ → Type 0
Counts n bs s =
    (totals : List ℕ)
    → stepped (pieces_in n bs) s totals ≡ and_then (count (history (calls (parted_in n bs)) s) totals) (ending (parted_in n bs).left)

count_end : (n : ℕ) (s : List ℕ) → Counts n [] s
unfolding stepped count history
count_end zero s totals = refl
count_end (suc n) s totals = rw none

count_record : (n b : ℕ) (bs s : List ℕ) → let r = next_record (b ∷ bs) in is_record r ≡ true
    → Counts n (past_record (b ∷ bs)) (after kinds (call_of r) s) → Counts (suc n) (b ∷ bs) s
unfolding stepped step_of record_after count history
count_record n b bs s is rest totals =
    let t = tally (event_of (call_of (next_record (b ∷ bs))) s) totals in
    rw is (next_same t.last t.totals _ _ rest ∙ sym (next_next t.last t.totals _ _))

count_bad : (n b : ℕ) (bs s : List ℕ) → is_record (next_record (b ∷ bs)) ≡ false → Counts (suc n) (b ∷ bs) s
unfolding stepped step_of count history
count_bad n b bs s isnt totals = rw isnt

pub counts_whole : CountsWhole
unfolding season_from parted pieces
counts_whole bs s totals = by_pieces Counts count_end count_record count_bad (length bs) bs s (omega arith) totals

pub reports_whole : ReportsWhole
unfolding season_of
reports_whole bs = ap (λ (c : Season). report_text c.totals c.last) (counts_whole bs (fresh_parts farms) (replicate (farms * 10) 0))
