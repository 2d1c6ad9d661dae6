-- The digits in their place.
use mathlib.Core.Path.{◌≡◌, refl, sym}
use mathlib.Core.List.{List, [], ◌∷◌}
use Prim.Native.Nat.{ℕ, ◌*◌}
use native.Mathlib.Omega.{arith}
use lib.ListN.{length}
use Rattle.journal.specs.Text.{hex_bytes}
use Rattle.journal.proofs.Pieces.{put_there}
use Rattle.journal.proofs.writing.Text.put_hex_bytes.Goals as goal

-- two digits for each byte
hex_length : (bs : List ℕ) → length (hex_bytes bs) ≡ 2 * length bs
hex_length [] = refl
hex_length (b ∷ bs) = omega (arith, hex_length bs)

pub returns : goal.returns
returns c =
    let t = c.args.self.now in
    let bs = c.args.bytes.now in
    let put = c.put_hex in
    let size = sym (hex_length bs) in
    let there = put_there t.written (2 * length bs) t.memory.now put.new.digits (hex_bytes bs) (omega arith) put.ensures size put.auto.digits in
    record { same_memory = refl; text = there.0; left = there.1; longer = omega (arith, size); size = there.2; limit = omega (arith, size) }
