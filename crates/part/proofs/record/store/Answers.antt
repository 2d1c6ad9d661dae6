-- What stands beside the faults, then the faults.
use Rattle.part.specs.Record.{put_drive}
use Rattle.part.proofs.record.store.Goals as goal

pub returns : goal.returns
unfolding put_drive
returns c = rw (c.put_faults.ensures, c.store_motion.ensures, c.motion_of.ensures)
