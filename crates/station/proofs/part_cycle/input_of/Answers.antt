-- The flags are the two bits, the speeds are received as sent, and the parameters are read where the definition reads them.
use mathlib.Core.Path.{◌≡◌}
use mir.Syntax.{w16}
use mir.Val.{to_z, of_z}
use borrow.Author.Rules.{rules}
use Rattle.std.proofs.Math.Nat.{div-one}
use Rattle.catalogue.specs.Table.{rows, find_of, offset_of}
use Rattle.station.proofs.part_cycle.input_of.Goals as goal

pub returns : goal.returns
unfolding offset_of find_of rows
returns c =
    let sent = c.args.sent in
    let nsoll : to_z w16 (of_z w16 sent.nsoll) ≡ sent.nsoll = search rules in
    let nist : to_z w16 (of_z w16 sent.nist) ≡ sent.nist = search rules in
    rw (div-one sent.flags, nsoll, nist, c.word_at.ensures, c.word_at-2.ensures, c.word_at-3.ensures)
