-- The bytes in their place, where they fit.
use mathlib.Core.Path.{refl}
use native.Mathlib.Omega.{arith}
use lib.ListN.{length}
use Rattle.journal.proofs.Pieces.{put_there}
use Rattle.journal.proofs.writing.Text.put_bytes.Goals as goal

pub returns : goal.returns
returns c =
    let t = c.args.self.now in
    let bs = c.args.bytes.now in
    let copied = c.copy_from_slice in
    let there = put_there t.written (length bs) t.memory.now copied.new.self bs (omega arith) copied.ensures.after refl copied.ensures.len in
    record {
      fits = λ room. record { same_memory = refl; text = there.0; left = there.1; longer = refl; size = there.2; limit = omega arith };
      stays = λ over. absurd (omega arith);
    }
