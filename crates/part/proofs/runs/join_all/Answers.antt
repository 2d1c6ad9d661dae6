-- Folded by `|`.
use Rattle.part.proofs.Situations.{joined}
use Rattle.std.specs.List.{fold}
use Rattle.std.proofs.Common.{rules, tests}
use lib.Bits.{bit_or}
use lib.Dec.{eqb}
use Prim.Native.Nat.{ℕ}
use mathlib.Core.Path.{◌≡◌, ◌∙◌, ap}
use Rattle.part.proofs.runs.join_all.Goals as goal

pub returns : goal.returns
returns c =
    let r : c.fold.result ≡ fold bit_or 0 c.args.s.now = search (rules, tests) in
    ap (λ (x : ℕ). eqb x 0) r ∙ joined 0 c.args.s.now
