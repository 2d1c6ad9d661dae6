-- A fresh part: its size, that it is well-formed for every axis, its drive, and that no version is kept.
use mathlib.Core.Path.{◌≡◌, refl, ◌∙◌, ap}
use mathlib.Core.Bool.{true}
use Prim.Native.Nat.{ℕ}
use native.Mathlib.Omega.{arith}
use lib.ListN.{length, take, replicate, length-append, length-drop, length-replicate, take-append-drop}
use lib.Seq.{length-take-le, take_at, drop_at}
use Rattle.codes.specs.Number.{number_at, put}
use Rattle.codes.proofs.Put.{put_length}
use Rattle.drive.specs.Cycle.{fresh_drive}
use Rattle.catalogue.specs.Table.{rows, find_of, offset_of, parameter_bytes}
use Rattle.catalogue.specs.Element.{inside, element_of, put_element}
use Rattle.versions.specs.Layout.{last_at, last_used, version_bytes}
use Rattle.versions.specs.Fit.{versions_fit}
use Rattle.versions.specs.Keep.{filled, filled_within}
use Rattle.versions.proofs.Taken.{filled_length, filled_last}
use Rattle.versions.proofs.FitLaws.{filled_fits}
use Rattle.part.specs.Layout.{state_at, versions_at, part_size, versions}
use Rattle.part.specs.Record.{drive_of}
use Rattle.drive.specs.States.{state_of}
use Rattle.part.specs.Fresh.{fresh_front, fresh_part}
use Rattle.part.specs.WellFormed.{limits_fit, fixed_fit, waiting_fits, unused_fit, well_formed}
use Rattle.part.proofs.FreshLaws.{rows_length}
use Rattle.part.proofs.Versions.{Ahead, front_well_formed, front_drive, settings_inside}

front_length : length fresh_front ≡ part_size
unfolding fresh_front
front_length = rows_length rows _ ∙ (put_length (replicate part_size 0) state_at _ ∙ length-replicate part_size 0)

none_size : length (versions fresh_front) ≡ version_bytes
none_size = omega (arith, length-drop versions_at fresh_front, front_length)

fresh_front_lem : take versions_at fresh_part ≡ take versions_at fresh_front
unfolding fresh_part filled_within
fresh_front_lem = take_at (take versions_at fresh_front) (filled fresh_front (versions fresh_front)) versions_at (length-take-le versions_at fresh_front (omega (arith, front_length)))

fresh_versions : versions fresh_part ≡ filled fresh_front (versions fresh_front)
unfolding fresh_part filled_within
fresh_versions = drop_at (take versions_at fresh_front) (filled fresh_front (versions fresh_front)) versions_at (length-take-le versions_at fresh_front (omega (arith, front_length)))

pub fresh_length : length fresh_part ≡ part_size
unfolding fresh_part filled_within
fresh_length =
    omega (
      arith,
      front_length,
      none_size,
      length-append (take versions_at fresh_front) (filled fresh_front (versions fresh_front)),
      filled_length fresh_front (versions fresh_front) none_size,
      length-append (take versions_at fresh_front) (versions fresh_front),
      ap length (take-append-drop versions_at fresh_front),
    )

fresh_ahead : (axis : ℕ) → Ahead axis fresh_front
unfolding limits_fit fixed_fit inside waiting_fits unused_fit fresh_front put_element element_of put number_at offset_of find_of rows parameter_bytes last_at
fresh_ahead axis = record { state = refl; limits = refl; fixed = refl; faults = refl; waits = refl; unused = refl }

pub fresh_well_formed : (axis : ℕ) → well_formed axis fresh_part ≡ true
fresh_well_formed axis =
    front_well_formed fresh_front fresh_part fresh_front_lem fresh_length axis (fresh_ahead axis)
    (ap versions_fit fresh_versions ∙ filled_fits fresh_front (versions fresh_front) (settings_inside fresh_front (fresh_ahead axis).limits) none_size)

-- "Each axis starts in S1 with all fault situations empty."
pub fresh_drive_lem : drive_of fresh_part ≡ fresh_drive
unfolding drive_of state_of fresh_front put_element element_of put number_at offset_of find_of rows parameter_bytes last_at
fresh_drive_lem = front_drive fresh_front fresh_part fresh_front_lem ∙ refl

-- no version is kept
pub fresh_last : last_used (versions fresh_part) ≡ 0
fresh_last = ap last_used fresh_versions ∙ filled_last fresh_front (versions fresh_front) none_size
