-- A readable request: what the code finds in its block is what the layout reads.
use mathlib.Core.Path.{◌≡◌, sym, ◌∙◌, ap}
use mathlib.Core.Bool.{true}
use mathlib.Core.List.{List, []}
use Prim.Native.Nat.{ℕ, ◌+◌, ◌*◌, ◌≤◌}
use native.Mathlib.Omega.{arith}
use native.Mathlib.Decide.{dec_le}
use lib.ListN.{length, drop}
use Rattle.codes.specs.Code.{got, read_times, readable}
use Rattle.codes.specs.Number.{value_or}
use Rattle.codes.proofs.Demand.{readable_read}
use Rattle.blocks.specs.declared.Header.{Header}
use Rattle.blocks.specs.Block.{block_limit, change_block_fits, block}
use Rattle.blocks.specs.Page.{RequestFits}
use Rattle.blocks.specs.Place.{header_of, addresses_end, walk}
use Rattle.blocks.specs.Request.{Request, request, request_blocks}
use Rattle.blocks.proofs.Sound.{request_sound}
use Rattle.blocks.proofs.Page.{request_valid}
use Rattle.blocks.proofs.Request.{request_header, addresses_end_lem, blocks_read}
use Rattle.blocks.proofs.Addresses.{address_steps}
use Rattle.access.specs.Walk.{blocks_in, request_in}

module _ (s : List ℕ) (e : readable block_limit request s ≡ true) where
  abbrev r : Request
  r = request_in s

  pub request_read : request.read s ≡ got r []
  request_read =
      let p = readable_read block_limit request request_sound s e in
      let same : p.0 ≡ r = ap (value_or _) (sym p.1) in
      p.1 ∙ ap (λ (x : Request). got x []) same

  fits : RequestFits r
  fits = (request_valid r).0 (request_sound.only s r [] request_read).0

  -- the header that the code has, and its count of addresses
  module _ (h : Header) (eh : h ≡ header_of s) where
    pub header_is : h ≡ record { reference = r.reference; identifier = r.identifier; axis = r.axis; count = length r.addresses }
    header_is = eh ∙ request_header s r [] request_read

    count_is : h.count ≡ length r.addresses
    count_is = ap (λ (x : Header). x.count) header_is

    pub count_few : h.count ≤ 39
    count_few = omega (arith, count_is, fits.number)

    pub walk_is : walk h.count s 4 ≡ r.addresses
    walk_is = address_steps s r [] request_read h.count (omega (arith, count_is))

    pub walk_whole : length (walk h.count s 4) ≡ h.count
    walk_whole = ap length walk_is ∙ sym count_is

    -- of a change, its blocks of values
    module _ (n : h.identifier ≡ 1 → ⊥) where
      is_change : r.identifier ≡ 2
      is_change = go (dec_le 2 r.identifier) fits.identifier.0 fits.identifier.1
        where
          go : Dec (2 ≤ r.identifier) → 1 ≤ r.identifier → r.identifier ≤ 2 → r.identifier ≡ 2
          go (yes y) low high = omega arith
          go (no k) low high = absurd (n (ap (λ (x : Header). x.identifier) header_is ∙ omega arith))

      pub blocks_are : blocks_in h.count s (4 + h.count * 6) ≡ r.blocks
      unfolding request_blocks
      blocks_are =
          let b = blocks_read s r [] request_read in
          let c : read_times (block change_block_fits).read (length r.addresses) (drop (addresses_end s) s) ≡ got r.blocks [] = rw is_change at b in
          let place : 4 + h.count * 6 ≡ addresses_end s = ap (λ (k : ℕ). 4 + k * 6) count_is ∙ sym (addresses_end_lem s r [] request_read) in
          ap (blocks_in h.count s) place ∙ (ap (λ (k : ℕ). blocks_in k s (addresses_end s)) count_is ∙ ap (value_or []) c)

      pub blocks_whole : length (blocks_in h.count s (4 + h.count * 6)) ≡ h.count
      unfolding request_blocks
      blocks_whole =
          let f = fits.count in
          let k : length r.blocks ≡ length r.addresses = rw is_change at f in
          ap length blocks_are ∙ (k ∙ sym count_is)
