-- Each field is put at its place, in the order of the definition.
use Prim.Native.Nat.{◌<◌}
use native.Mathlib.Omega.{arith}
use Rattle.part.proofs.StoredResponse.{byte_written}
use Rattle.catalogue.specs.Table.{rows, parameter_bytes, find_of, offset_of}
use Rattle.part.proofs.record.store_motion.Goals as goal

pub returns : goal.returns
unfolding offset_of find_of rows parameter_bytes
returns c =
    let n = c.from in
    let small : n.result < 256 = omega (arith, n.type_inv) in
    rw (
      c.put_speed-3.ensures,
      c.put_word-2.ensures,
      c.put_speed-2.ensures,
      c.put_speed.ensures,
      c.put_word.ensures,
      c.put_number.ensures,
      c.from-2.ensures,
      byte_written n.result small,
      n.ensures,
    )
