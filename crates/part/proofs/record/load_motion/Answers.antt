-- Each field stands at its place.
use Rattle.drive.proofs.Number.{found_or_s1}
use Rattle.part.specs.Record.{drive_of}
use Rattle.catalogue.specs.Table.{rows, parameter_bytes, find_of, offset_of}
use Rattle.part.proofs.record.load_motion.Goals as goal

pub returns : goal.returns
unfolding drive_of offset_of find_of rows parameter_bytes
returns c =
    rw (
      c.word_at-2.ensures,
      c.word_at.ensures,
      c.speed_at-3.ensures,
      c.speed_at-2.ensures,
      c.speed_at.ensures,
      c.unwrap_or.ensures,
      c.try_from.ensures,
      found_or_s1,
      c.byte_at.ensures,
    )
