-- The kinds of records, told apart by their kind byte.
use Rattle.std.specs.Prelude.{Bool, true, false, cond, ◌&&◌, List, ℕ, ◌+◌, eqb, leb, length, get_or, drop, Option, Some, None}
use Rattle.drive.specs.Faults.{zeros}
use Rattle.journal.specs.declared.record.Kind.{Kind}
use Rattle.journal.specs.declared.record.Kind.TheVariants.{Cycle, Frame, Return}
use Rattle.journal.specs.Line.{cycle_record, frame_record, return_record, frame_length}

-- by the kind byte
abbrev pub kind_by : ℕ → Option Kind
kind_by byte =
    cond (eqb byte 1) (Some Cycle) (cond (eqb byte 2) (Some (Frame false)) (cond (eqb byte 3) (Some (Frame true)) (cond (eqb byte 4) (Some Return) None)))

-- how long a record of a kind is
abbrev pub length_of : Kind → ℕ
length_of Cycle = cycle_record
length_of (Frame merged) = frame_record
length_of Return = return_record

-- "zero past the length", where there is a frame
abbrev pub clear_past_frame : List ℕ → Bool
clear_past_frame r = leb (frame_length r) 244 && zeros (drop (3 + frame_length r) r)

abbrev pub clear_in : Kind → List ℕ → Bool
clear_in Cycle r = true
clear_in (Frame merged) r = clear_past_frame r
clear_in Return r = true

-- whether bytes are a whole record of the kind
abbrev pub kind_in : Option Kind → List ℕ → Option Kind
kind_in (Some k) r = cond (eqb (length r) (length_of k) && clear_in k r) (Some k) None
kind_in None r = None

-- the kind of a record; none where the bytes are no record
unfoldable pub kind_of : List ℕ → Option Kind
kind_of r = kind_in (kind_by (get_or r 0 0)) r
