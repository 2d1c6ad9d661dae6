-- One byte more.
use mathlib.Core.Path.{refl, sym, ◌∙◌}
use Prim.Native.Nat.{◌+◌}
use native.Mathlib.Numerals.{add-one}
use native.Mathlib.Omega.{arith}
use lib.ListN.{length-set}
use lib.Seq.{take-suc-set, drop-set-lt, drop-drop}
use Rattle.journal.proofs.writing.Text.put_byte.Goals as goal

pub returns : goal.returns
returns c =
    let m = c.args.self.now.memory.now in
    let w = c.args.self.now.written in
    record {
      same_memory = refl;
      text = rw (add-one w) (take-suc-set m w c.args.b (omega arith));
      left = drop-set-lt (w + 1) m w c.args.b (omega arith) ∙ sym (drop-drop 1 w m);
      longer = refl;
      size = length-set m w c.args.b;
      limit = omega arith;
    }
