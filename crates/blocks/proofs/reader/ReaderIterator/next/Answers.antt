-- The address where the reader stands is the first of those from there on, and the others are those from the place after it.
use Rattle.std.specs.Prelude.{Some}
use Rattle.blocks.specs.Place.{step_at}
use Rattle.blocks.proofs.Addresses.{addresses_step}
use mathlib.Core.Path.{◌≡◌, refl, sym, ◌∙◌, ap}
use lib.ListN.{length}
use native.Mathlib.Omega.{arith}
use Rattle.blocks.proofs.reader.ReaderIterator.next.Goals as goal

pub returns-clause-steps : goal.returns-clause-steps
returns-clause-steps c =
    let r = c.args.self.now in
    let stands : step_at r.block.now r.at ≡ Some (c.in_ok-address.address, c.in_ok-address.after) = sym c.address_at.ensures ∙ c.in_ok-address.was in (
      addresses_step r.block.now r.at c.in_ok-address.address c.in_ok-address.after stands,
      (refl, stands),
    )

pub returns-clause-goes : goal.returns-clause-goes
returns-clause-goes c =
    let r = c.args.self.now in
    let steps = addresses_step r.block.now r.at c.in_ok-address.address c.in_ok-address.after (sym c.address_at.ensures ∙ c.in_ok-address.was) in
    record { on = λ f. (tt, tt, omega (arith, ap length steps)); keeps = tt; rests = λ f. tt }
