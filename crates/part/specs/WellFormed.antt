-- Document 01, "A part is well-formed exactly when": one definition for each part of the rule, in its order. The first,
-- "its state is one of the six", is `is_state` in drive's `States`; the part on fault situations, "no code stands after a 0 or twice", is
-- `proper_faults` in drive's `Faults`; that on the versions, document 02, R-7, "number 2 also tests that they lie inside the limits", is
-- `versions_fit` in the `Fit` of versions. "Its other fields may hold anything of their type": nothing else is asked.
use Rattle.std.specs.Prelude.{Bool, true, cond, ◌&&◌, ◌||◌, List, ℕ, eqb, leb, length, drop}
use Rattle.codes.specs.Code.{readable}
use Rattle.codes.specs.Number.{number_at}
use Rattle.blocks.specs.Block.{block_limit}
use Rattle.blocks.specs.Response.{response}
use Rattle.blocks.specs.Place.{header_of}
use Rattle.drive.specs.Faults.{zeros, proper_faults}
use Rattle.drive.specs.States.{is_state}
use Rattle.catalogue.specs.declared.Row.{Row}
use Rattle.catalogue.specs.Table.{rows}
use Rattle.catalogue.specs.Element.{inside, element_of, fresh_of, every_element, every_row}
use Rattle.versions.specs.Fit.{versions_fit}
use Rattle.part.specs.Layout.{state_at, part_size, waiting_length, response_room, waiting, versions}
use Rattle.part.specs.Record.{faults_of}

-- "writable elements are inside their limits"
unfoldable pub limits_fit : List ℕ → Row → Bool
limits_fit p r = cond r.writable (every_element (λ i. inside r (element_of r i p)) r.count) true

-- "930 and 965 are as fresh"
unfoldable pub fixed_fit : List ℕ → Row → Bool
fixed_fit p r =
    cond (eqb r.pnu 930 || eqb r.pnu 965) (every_element (λ i. eqb (element_of r i p) (fresh_of r i)) r.count) true

-- "the waiting response is none or a readable block of that axis"
unfoldable pub waiting_fits : ℕ → List ℕ → Bool
waiting_fits axis p =
    eqb (waiting_length p) 0
    || leb (waiting_length p) block_limit && readable block_limit response (waiting p) && eqb (header_of (waiting p)).axis axis

-- "and unused response bytes are 0"
unfoldable pub unused_fit : List ℕ → Bool
unused_fit p = zeros (drop (waiting_length p) (response_room p))

unfoldable pub well_formed : ℕ → List ℕ → Bool
well_formed axis p =
    eqb (length p) part_size
    && is_state (number_at 1 p state_at)
    && every_row (limits_fit p) rows
    && every_row (fixed_fit p) rows
    && proper_faults (faults_of p)
    && waiting_fits axis p
    && unused_fit p
    && versions_fit (versions p)
