-- The layouts are sound codes: what is read is what can be written.
use mathlib.Core.Path.{◌≡◌, ap}
use mathlib.Core.List.{List}
use mathlib.Core.Bool.{Bool}
use lib.ListN.{length}
use Prim.Native.Nat.{ℕ}
use Rattle.codes.proofs.Sound.{Sound, field_sound, give_sound, byte_sound, word_sound, within_sound, check_sound, times_sound, fill_sound, valid_fill}
use Rattle.blocks.specs.declared.reader.Address.{Address}
use Rattle.blocks.specs.Block.{Block, block, change_block_fits, response_block_fits, fill_size, values_of, value_size}
use Rattle.blocks.specs.Request.{Request, address, request, request_blocks}
use Rattle.blocks.specs.Response.{Response, response, response_blocks, errors_fit}

pub address_sound : Sound address
unfolding address
address_sound =
    field_sound _ _ _ byte_sound
    (λ at. field_sound _ _ _ byte_sound
    (λ el. field_sound _ _ _ (word_sound 2)
    (λ pn. field_sound _ _ _ (word_sound 2)
    (λ su. give_sound _)
    (λ su a v w. ap (λ (z : Address). z.subindex) w))
    (λ pn a v w. ap (λ (z : Address). z.pnu) w.1))
    (λ el a v w. ap (λ (z : Address). z.elements) w.1.1))
    (λ at a v w. ap (λ (z : Address). z.attribute) w.1.1.1)

pub values_sound : (f n : ℕ) → Sound (values_of f n)
unfolding values_of
values_sound f n =
    field_sound _ _ _ (times_sound _ (word_sound (value_size f)) n) (fill_sound (fill_size f n)) (λ vs us v w. valid_fill (fill_size f n) vs us w)

-- as many values as were counted
pub values_count : (f n : ℕ) (vs : List ℕ) → (values_of f n).Valid vs → length vs ≡ n
unfolding values_of
values_count f n vs v = v.0.0

pub block_sound : (fits : ℕ → ℕ → Bool) → Sound (block fits)
unfolding block
block_sound fits =
    field_sound _ _ _ byte_sound
    (λ f. field_sound _ _ _ (check_sound (fits f) _ byte_sound)
    (λ n. field_sound _ _ _ (values_sound f n)
    (λ vs. give_sound (record { format = f; values = vs }))
    (λ vs b v w. ap (λ (z : Block). z.values) w))
    (λ n b v w. values_count f n b.values w.0))
    (λ f b v w. ap (λ (z : Block). z.format) w.1.1)

pub request_sound : Sound request
unfolding request
request_sound =
    field_sound _ _ _ (within_sound 1 255)
    (λ re. field_sound _ _ _ (within_sound 1 2)
    (λ id. field_sound _ _ _ byte_sound
    (λ ax. field_sound _ _ _ (within_sound 1 39)
    (λ n. field_sound _ _ _ (times_sound _ address_sound n)
    (λ ads. field_sound _ _ _ (times_sound _ (block_sound change_block_fits) (request_blocks id n))
    (λ bls. give_sound (record { reference = re; identifier = id; axis = ax; addresses = ads; blocks = bls }))
    (λ bls r v w. ap (λ (z : Request). z.blocks) w))
    (λ ads r v w. ap (λ (z : Request). z.addresses) w.1))
    (λ n r v w. w.0.0))
    (λ ax r v w. ap (λ (z : Request). z.axis) w.1.1.1))
    (λ id r v w. ap (λ (z : Request). z.identifier) w.1.1.1.1))
    (λ re r v w. ap (λ (z : Request). z.reference) w.1.1.1.1.1)

pub response_sound : Sound response
unfolding response
response_sound =
    field_sound _ _ _ (within_sound 1 255)
    (λ re. field_sound _ _ _ (check_sound _ _ byte_sound)
    (λ id. field_sound _ _ _ byte_sound
    (λ ax. field_sound _ _ _ (within_sound 1 39)
    (λ n. field_sound _ _ _ (check_sound (errors_fit id) _ (times_sound _ (block_sound (response_block_fits id)) (response_blocks id n)))
    (λ bls. give_sound _)
    (λ bls r v w. ap (λ (z : Response). z.blocks) w))
    (λ n r v w. ap (λ (z : Response). z.count) w.1))
    (λ ax r v w. ap (λ (z : Response). z.axis) w.1.1))
    (λ id r v w. ap (λ (z : Response). z.identifier) w.1.1.1))
    (λ re r v w. ap (λ (z : Response). z.reference) w.1.1.1.1)
