-- The block of a change that stands at a place: its first two bytes, and where it ends.
use Rattle.std.specs.Prelude.{Some}
use mathlib.Core.Path.{◌≡◌, sym, ◌∙◌, ap, ap₂}
use mathlib.Core.List.{List}
use Prim.Native.Nat.{ℕ, ◌+◌, ◌*◌, ◌%◌, ◌≤◌}
use native.Mathlib.Omega.{arith}
use lib.ListN.{length, get_or, drop, length-drop}
use Rattle.codes.proofs.Fixed.{Bytes, small}
use Rattle.blocks.specs.Block.{format_size, value_size, values_size, change_block_fits}
use Rattle.blocks.specs.Place.{block_at}
use Rattle.blocks.specs.declared.Head.{Head}
use Rattle.blocks.proofs.Sound.{block_sound}
use Rattle.blocks.proofs.Page.{block_valid}
use Rattle.blocks.proofs.Formats.{fits_format}
use Rattle.blocks.proofs.Request.{block_room, format_byte, count_byte, after_block}
use Rattle.blocks.proofs.Blocks.{Stood, block_stands, size_small, fill_even, values_size_lem}

module _ (s : List ℕ) (at : ℕ) (h : Head) (e : block_at s at ≡ Some h) where
  stood : Stood change_block_fits s at h
  stood = block_stands change_block_fits s at h e

  room : at + (2 + values_size stood.it.format (length stood.it.values)) ≤ length s
  room = block_room change_block_fits s at stood.it (drop h.next s) stood.read

  pub head_room : at + 2 ≤ length s
  head_room = omega (arith, room)

  head_ends : h.next ≡ at + (2 + values_size stood.it.format (length stood.it.values))
  head_ends =
      let size = 2 + values_size stood.it.format (length stood.it.values) in
      omega (arith, room, stood.inside, length-drop h.next s, length-drop (at + size) s, ap length (after_block change_block_fits s at stood.it (drop h.next s) stood.read))

  -- what the code makes of them
  module _ (y : Bytes s) (size bare : ℕ) (sized : size ≡ format_size (get_or s at 0)) (all : bare ≡ get_or s (at + 1) 0 * size) where
    format_is : stood.it.format ≡ get_or s at 0
    format_is = format_byte change_block_fits s at stood.it (drop h.next s) stood.read y

    count_is : length stood.it.values ≡ get_or s (at + 1) 0
    count_is = count_byte change_block_fits s at stood.it (drop h.next s) stood.read y

    -- its format has a size, and is no error's
    size_is : value_size stood.it.format ≡ size
    size_is =
        let fits = ((block_valid change_block_fits stood.it).0 ((block_sound change_block_fits).only (drop at s) stood.it (drop h.next s) stood.read).0).allowed in
        fits_format stood.it.format (length stood.it.values) fits ∙ (ap format_size format_is ∙ sym sized)

    next_is : h.next ≡ at + 2 + bare + bare % 2
    next_is =
        let n = length stood.it.values in
        let f = stood.it.format in
        let same : n * value_size f ≡ bare = ap₂ (λ (k w : ℕ). k * w) count_is size_is ∙ sym all in
        omega (arith, head_ends, values_size_lem f n, same, fill_even f n)

    pub head_is : block_at s at ≡ Some (record { format = get_or s at 0; count = get_or s (at + 1) 0; size = size; next = at + 2 + bare + bare % 2 })
    head_is =
        e
        ∙ (ap (λ (f : ℕ). Some (record { format = f; count = h.count; size = h.size; next = h.next })) (stood.format ∙ format_is)
        ∙ (ap (λ (n : ℕ). Some (record { format = get_or s at 0; count = n; size = h.size; next = h.next })) (stood.count ∙ count_is)
        ∙ ap₂ (λ (w k : ℕ). Some (record { format = get_or s at 0; count = get_or s (at + 1) 0; size = w; next = k })) (stood.size ∙ size_is) next_is))

    pub bare_small : bare ≤ 1020
    bare_small = rw all (small (get_or s (at + 1) 0) size (omega (arith, y (at + 1))) (rw (← size_is) (size_small stood.it.format)))
