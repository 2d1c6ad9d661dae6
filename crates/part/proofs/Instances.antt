-- Each clause of the rule of a well-formed part refuses something: a fresh part with one place written over. The first is refused by none.
use mathlib.Core.Path.{◌≡◌, refl}
use mathlib.Core.Bool.{true, false}
use mathlib.Core.List.{List, [], ◌∷◌, map}
use Prim.Native.Nat.{ℕ, ◌+◌}
use lib.ListN.{replicate}
use Rattle.codes.specs.Code.{readable}
use Rattle.codes.specs.Number.{number_at, put}
use Rattle.blocks.specs.Block.{format_size, value_size, response_block_fits, values_of, block}
use Rattle.blocks.specs.Response.{response_blocks, errors_fit, has_error, response}
use Rattle.catalogue.specs.Table.{rows, parameter_bytes, find_of, offset_of}
use Rattle.catalogue.specs.Element.{inside, element_of, put_element}
use Rattle.versions.specs.Layout.{last_at, columns}
use Rattle.versions.specs.Fit.{columns_fit, versions_fit}
use Rattle.versions.specs.Keep.{filled, filled_within}
use Rattle.part.specs.Layout.{state_at, length_at, response_at, versions_at}
use Rattle.part.specs.Fresh.{fresh_front, fresh_part}
use Rattle.part.specs.WellFormed.{limits_fit, fixed_fit, waiting_fits, unused_fit, well_formed}

-- a byte value and its fill, waiting; the last number, used; state 5; mark 3 at 3001; 930 at 2; 965 at 4; a code after a 0; a code twice; a response of axis 2, and
-- one cut; a byte value without its fill, and one filled with 1; an unused byte; in the last slot a mark of 3001, and in the first 10111 of 0
formed :
    map (λ (x : ℕ × List ℕ). well_formed 1 (put fresh_part x.0 x.1))
    ((length_at, 8 ∷ 7 ∷ 1 ∷ 1 ∷ 1 ∷ 0x41 ∷ 1 ∷ 3 ∷ 0 ∷ [])
    ∷ (versions_at + 640, 0xFF ∷ 0xFF ∷ [])
    ∷ (state_at, 5 ∷ [])
    ∷ (offset_of 30001 + 6, 0x0B ∷ 0xB9 ∷ [])
    ∷ (offset_of 930, 0 ∷ 2 ∷ [])
    ∷ (offset_of 965, 4 ∷ [])
    ∷ (offset_of 947, 0 ∷ 0 ∷ 0 ∷ 7 ∷ [])
    ∷ (offset_of 947, 0 ∷ 7 ∷ 0 ∷ 7 ∷ [])
    ∷ (length_at, 4 ∷ 7 ∷ 2 ∷ 2 ∷ 1 ∷ [])
    ∷ (length_at, 3 ∷ 7 ∷ 2 ∷ 1 ∷ [])
    ∷ (length_at, 7 ∷ 7 ∷ 1 ∷ 1 ∷ 1 ∷ 0x41 ∷ 1 ∷ 3 ∷ [])
    ∷ (length_at, 8 ∷ 7 ∷ 1 ∷ 1 ∷ 1 ∷ 0x41 ∷ 1 ∷ 3 ∷ 1 ∷ [])
    ∷ (response_at + 239, 1 ∷ [])
    ∷ (versions_at + 446, 0xB9 ∷ 0x0B ∷ [])
    ∷ (versions_at + 288, 0 ∷ 0 ∷ [])
    ∷ [])
    ≡ true ∷ true ∷ replicate 13 false
unfolding readable number_at put format_size value_size response_block_fits values_of block response_blocks errors_fit has_error response rows parameter_bytes find_of offset_of inside element_of put_element fresh_front fresh_part filled_within filled last_at columns columns_fit versions_fit limits_fit fixed_fit waiting_fits unused_fit well_formed
formed = refl
