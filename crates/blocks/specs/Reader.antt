-- Document 01, "A reader that keeps the block and its place together": from one address to the next.
use Rattle.std.specs.Prelude.{◌≡◌, Option, Some, None, MatchOption}
use Rattle.blocks.specs.declared.reader.Address.{Address}
use Rattle.blocks.specs.declared.reader.Reader.{Reader}
use Rattle.blocks.specs.Place.{step_at}

-- it reads the same block, and gives the address where it stands and goes on to the place after it; where none stands there it stays
abbrev pub Steps : Reader → Option Address → Reader → Type 0
Steps before item after =
    (after.block ≡ before.block)
    × MatchOption item ((step_at before.block.now before.at ≡ None) × (after.at ≡ before.at)) (λ a. step_at before.block.now before.at ≡ Some (a, after.at))
