-- Every byte past the frame is 0, and the frame's length is one.
use mathlib.Core.Path.{◌≡◌, ap, ◌∙◌}
use mathlib.Core.Bool.{Bool}
use mathlib.Core.List.{List}
use Prim.Native.Nat.{ℕ, ◌+◌, ◌-◌, ◌≤◌}
use native.Mathlib.Omega.{arith}
use lib.ListN.{length, take, drop}
use Rattle.std.proofs.lemmas.List.{take_rest}
use borrow.Author.Tests.{le-leb}
use Rattle.drive.specs.Faults.{zeros}
use Rattle.journal.specs.Kinds.{clear_past_frame}
use Rattle.journal.specs.Line.{frame_length}
use Rattle.journal.proofs.record.is_clear.Goals as goal

-- a test of the bytes from a place on, where the frame ends at that place
clear_from : {b : Bool} (r : List ℕ) (at : ℕ)
    → b ≡ zeros (take (length r - at) (drop at r))
    → at ≡ 3 + frame_length r → frame_length r ≤ 244 → b ≡ clear_past_frame r
clear_from r at tested place fits =
    tested ∙ (ap zeros (take_rest r at) ∙ rw (place, le-leb (frame_length r) 244 fits))

pub returns-then-n-le-FRAME_ROOM : goal.returns-then-n-le-FRAME_ROOM
returns-then-n-le-FRAME_ROOM c =
    clear_from c.args.bytes.now _ c.is_clear.ensures (omega (arith, c.from-n.ensures)) (omega (arith, c.from-n.ensures))
