-- The walk goes on over the blocks that are left, stops where none stands, and ends after the last.
use Rattle.blocks.proofs.Turns.{Walking}
use Prim.Native.Nat.{◌-◌}
use Rattle.blocks.proofs.blocks_end.Given as goal

abbrev pub invariant-loop : goal.invariant-loop
invariant-loop g l = Walking (g.R.Rule.fits l.rule) l.s l.from l.n l.at (l.n - l.counter) l.error
