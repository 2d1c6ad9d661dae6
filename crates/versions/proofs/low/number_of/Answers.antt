-- The bytes beyond are 0.
use mathlib.Core.Path.{◌∙◌, ap}
use mathlib.Core.List.{List, [], ◌∷◌, ◌++◌}
use Prim.Native.Nat.{ℕ}
use lib.ListN.{length, drop}
use Rattle.std.specs.Int.{w32, from_le_bytes}
use Rattle.versions.proofs.Bytewise.{low_whole}
use Rattle.versions.proofs.low.number_of.Goals as goal

pub returns : goal.returns
returns c =
    let bytes = c.args.bytes.now in
    c.from_le_bytes.ensures
    ∙ (ap (λ (l : List ℕ). from_le_bytes w32 (l ++ drop (length bytes) (0 ∷ 0 ∷ 0 ∷ 0 ∷ []))) c.copy_from_slice.ensures.after
    ∙ low_whole bytes c.requires c.type_inv.bytes)
