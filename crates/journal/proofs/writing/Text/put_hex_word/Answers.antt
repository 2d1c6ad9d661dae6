-- Two bytes, one after the other, the high one first.
use mathlib.Core.Path.{◌≡◌}
use Prim.Native.Nat.{◌/◌, ◌%◌}
use native.Mathlib.Omega.{arith}
use Rattle.journal.specs.Text.{hex_word}
use Rattle.journal.proofs.Pieces.{and_then}
use Rattle.journal.proofs.writing.Text.put_hex_word.Goals as goal

pub returns : goal.returns
unfolding hex_word
returns c =
    let w = c.args.w in
    let high : w / 256 % 256 ≡ w / 256 = omega arith in
    rw high at (rw c.to_be_bytes.ensures at (and_then c.put_hex_byte.ensures c.put_hex_byte-2.ensures))
