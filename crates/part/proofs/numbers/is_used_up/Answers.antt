-- The versions stand at the end of a part.
use mathlib.Core.Path.{◌∙◌, ap}
use Prim.Native.Nat.{ℕ, ◌-◌}
use native.Mathlib.Omega.{arith}
use lib.Dec.{eqb}
use lib.ListN.{length, length-drop}
use lib.Seq.{take_all}
use borrow.Author.Tests.{ne_eqb}
use Rattle.catalogue.specs.Table.{rows, parameter_bytes}
use Rattle.versions.specs.Layout.{last_at, version_bytes, last_used}
use Rattle.part.specs.Layout.{versions_at, versions}
use Rattle.part.proofs.numbers.is_used_up.Goals as goal

pub returns-then-part-ne-SIZE : goal.returns-then-part-ne-SIZE
unfolding parameter_bytes rows last_at last_used
returns-then-part-ne-SIZE c =
    let p = c.args.part.now in
    let other = c.if-part-ne-SIZE.true in
    rw (ne_eqb (length (versions p)) version_bytes (λ e. other (omega (arith, length-drop versions_at p))))

pub returns : goal.returns
unfolding parameter_bytes rows last_at
returns c =
    let p = c.args.part.now in
    ap (λ (n : ℕ). eqb n 65535) (c.last_used.ensures ∙ ap last_used (take_all (length p - versions_at) (versions p) (omega (arith, length-drop versions_at p))))
