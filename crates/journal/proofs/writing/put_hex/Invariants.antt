-- The bytes passed are put in hex.
use mathlib.Core.Path.{◌≡◌}
use lib.ListN.{take}
use Prim.Native.Nat.{◌*◌}
use Rattle.journal.specs.Text.{hex_bytes}
use Rattle.journal.proofs.writing.put_hex.Given as goal

abbrev pub invariant-loop-i : goal.invariant-loop-i
invariant-loop-i l = take (2 * l.i) l.digits ≡ hex_bytes (take l.i l.bytes)
