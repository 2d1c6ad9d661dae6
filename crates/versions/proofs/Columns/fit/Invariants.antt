-- What is found so far, with the test of what is left, is the test of the whole run.
use mathlib.Core.Path.{◌≡◌}
use mathlib.Core.Bool.{◌&&◌}
use Prim.Native.Nat.{◌-◌, ◌*◌}
use lib.ListN.{length, drop}
use Rattle.catalogue.specs.Table.{element_size}
use Rattle.catalogue.specs.Element.{inside}
use Rattle.versions.specs.Fit.{every_number}
use Rattle.versions.proofs.Columns.fit.Given as goal

abbrev pub invariant-loop-number : goal.invariant-loop-number
invariant-loop-number l =
    let size = element_size l.self.row.kind in
    let numbers = l.self.row.count * 16 in
    let left = numbers - length l.yielded in
    let rest = l.number-iterator.rest.now in
    let ok = inside l.self.row in record {
      by_size : l.number-iterator.size ≡ size;
      length_left : length rest ≡ left * size;
      all_fit : (l.all && every_number size ok left rest) ≡ every_number size ok numbers (drop l.self.at l.v);
    }
