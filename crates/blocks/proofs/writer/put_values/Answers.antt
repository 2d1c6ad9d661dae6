-- Value by value, each after those that are put.
use Rattle.codes.specs.Code.{word}
use Rattle.codes.specs.Number.{put}
use Rattle.codes.proofs.Put.{put_none}
use Rattle.codes.proofs.Items.{value_next}
use Rattle.blocks.proofs.Page.{numbers_bytes}
use lib.ListN.{length, get_or}
use lib.Seq.{take-length}
use Prim.Native.Nat.{ℕ, ◌+◌, ◌*◌}
use mathlib.Core.List.{List}
use mathlib.Core.Path.{◌≡◌, sym, ◌∙◌, ap}
use native.Mathlib.Omega.{arith}
use Rattle.blocks.proofs.writer.put_values.Goals as goal

pub loop-j-init : goal.loop-j-init
loop-j-init c = let a = c.args in sym (put_none a.out.now a.at)

pub loop-j-preserved : goal.loop-j-preserved
loop-j-preserved c =
    let a = c.args in
    let l = c.loop-j in
    c.put_number.ensures
    ∙ ap (λ (x : List ℕ). put x (a.at + l.j * a.size) ((word a.size).write (get_or a.values.now l.j 0))) l.invariant
    ∙ value_next a.size a.values.now l.j (omega arith) a.out.now a.at (omega arith)

pub returns : goal.returns
returns c =
    let e : c.loop-j.j ≡ length c.args.values.now = omega arith in
    c.loop-j.invariant ∙ rw (e, take-length, numbers_bytes)
