-- The low bytes of the four.
use mathlib.Core.Path.{◌∙◌, ap}
use lib.ListN.{length, take}
use Rattle.versions.proofs.Bytewise.{whole_low}
use Rattle.versions.proofs.low.put_number.Goals as goal

pub returns : goal.returns
returns c =
    let a = c.args in
    c.copy_from_slice.ensures.after
    ∙ (ap (take (length a.bytes.now)) c.to_le_bytes-whole.ensures ∙ whole_low (length a.bytes.now) a.x c.requires c.ranges.x.fits)
