-- The loop's invariant: what is left to be held against the addresses is what was to be held at first, and stands in both blocks.
use Prim.Native.Nat.{◌-◌, ◌<◌}
use Rattle.checker.specs.Inner.{AsRead}
use Rattle.checker.proofs.Counting.{Counting, Stand}
use Rattle.checker.proofs.counts_fit.Given as goal

abbrev pub invariant-loop : goal.invariant-loop
invariant-loop l =
    AsRead l.request l.response (λ q r. Counting l.request l.response q r l.from l.at (l.count - l.counter)) × (0 < l.count - l.counter → Stand l.request l.response l.from l.at)
