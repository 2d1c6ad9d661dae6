-- Word by word, each after those that are put.
use Rattle.drive.specs.Faults.{buffer_codes}
use Rattle.codes.proofs.Items.{all_length, value_next}
use Rattle.codes.proofs.Put.{word_length, put_none, put_too_long}
use Rattle.codes.specs.Number.{put}
use Rattle.codes.specs.Code.{word, write_all}
use lib.ListN.{length, get_or}
use mathlib.Core.List.{List}
use Prim.Native.Nat.{ℕ, ◌+◌, ◌*◌}
use Rattle.catalogue.specs.Table.{rows, find_of, offset_of}
use native.Mathlib.Omega.{arith}
use mathlib.Core.Path.{◌≡◌, sym, ◌∙◌, ap}
use borrow.Author.Rules.{rules}
use Rattle.part.proofs.record.put_codes.Goals as goal

pub returns-then-part : goal.returns-then-part
unfolding offset_of find_of rows
returns-then-part c =
    let a = c.args in
    let long : length a.b ≡ buffer_codes = search rules in
    sym (put_too_long a.part.now (offset_of 947) (write_all (word 2).write a.b) (omega (arith, all_length (word 2).write 2 (word_length 2) a.b)))

pub loop-i-init : goal.loop-i-init
loop-i-init c = sym (put_none c.args.part.now (offset_of 947))

pub loop-i-preserved : goal.loop-i-preserved
unfolding offset_of find_of rows
loop-i-preserved c =
    let a = c.args in
    let l = c.loop-i in
    let long : length a.b ≡ buffer_codes = search rules in
    c.put_word.ensures
    ∙ ap (λ (x : List ℕ). put x (offset_of 947 + l.i * 2) ((word 2).write (get_or a.b l.i 0))) l.invariant
    ∙ value_next 2 a.b l.i (omega arith) a.part.now (offset_of 947) (omega arith)
