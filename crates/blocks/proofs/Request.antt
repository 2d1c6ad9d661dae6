-- What stands where in a block that is read: its header, its addresses and its blocks of values.
use mathlib.Core.Path.{◌≡◌, refl, sym, ◌∙◌, ap}
use mathlib.Core.Bool.{Bool}
use mathlib.Core.List.{List, [], ◌∷◌, ◌++◌, append_assoc, append-nil}
use Prim.Native.Nat.{ℕ, ◌+◌, ◌*◌, ◌≤◌, ◌<◌}
use native.Mathlib.Omega.{arith}
use native.Mathlib.Nat.{zero-add}
use lib.ListN.{length, get_or, drop, length-append, length-drop}
use lib.Seq.{drop-drop, drop_at}
use borrow.Author.Tests.{lt-ltb}
use Rattle.codes.specs.Code.{got, read_times, write_all}
use Rattle.codes.specs.Number.{number_at}
use Rattle.codes.proofs.Sound.{times_sound}
use Rattle.codes.proofs.Items.{all_length}
use Rattle.codes.proofs.Fixed.{Bytes}
use Rattle.codes.proofs.Number.{number_is, byte_number}
use Rattle.blocks.specs.declared.Header.{Header}
use Rattle.blocks.specs.declared.reader.Address.{Address}
use Rattle.blocks.specs.Block.{Block, change_block_fits, response_block_fits, values_size, block}
use Rattle.blocks.specs.Request.{Request, address, request_blocks, request}
use Rattle.blocks.specs.Response.{Response, response_blocks, response}
use Rattle.blocks.specs.Place.{header_of, addresses_end}
use Rattle.blocks.specs.Page.{BlockFits, block_bytes, request_bytes, RequestFits, ResponseFits}
use Rattle.blocks.proofs.Sound.{address_sound, block_sound, request_sound, response_sound}
use Rattle.blocks.proofs.Page.{block_bytes_lem, block_valid, request_valid, request_bytes_lem, answer_small, response_valid, response_bytes_lem}
use Rattle.blocks.proofs.Parts.{block_written}

-- a byte at the front of what is left
byte_here : (s : List ℕ) (at x : ℕ) (u : List ℕ) → x < 256 → drop at s ≡ x ∷ u → number_at 1 s at ≡ x
byte_here s at x u h e = number_is 1 s at x u (omega arith) (rw (e, lt-ltb x 256 h, zero-add))

header_here : (s u : List ℕ) (h : Header) → h.reference < 256 → h.identifier < 256 → h.axis < 256 → h.count < 256 → s ≡ h.reference ∷ h.identifier ∷ h.axis ∷ h.count ∷ u → header_of s ≡ h
header_here s u h a b c d e =
    rw (byte_here s 0 h.reference _ a e, byte_here s 1 h.identifier _ b (ap (drop 1) e), byte_here s 2 h.axis _ c (ap (drop 2) e), byte_here s 3 h.count u d (ap (drop 3) e))

address_length : (a : Address) → length (address.write a) ≡ 6
unfolding address
address_length a = refl

-- a request that is read
module _ (s : List ℕ) (r : Request) (t : List ℕ) (e : request.read s ≡ got r t) where
  valid : request.Valid r
  valid = (request_sound.only s r t e).0

  fits : RequestFits r
  fits = (request_valid r).0 valid

  written : s ≡ request_bytes r ++ t
  written = (request_sound.only s r t e).1 ∙ ap (λ (l : List ℕ). l ++ t) (request_bytes_lem r)

  pub request_header : header_of s ≡ record { reference = r.reference; identifier = r.identifier; axis = r.axis; count = length r.addresses }
  request_header = header_here s _ _ (omega (arith, fits.reference)) (omega (arith, fits.identifier)) fits.axis (omega (arith, fits.number)) written

  -- its addresses end where the header says
  pub addresses_end_lem : addresses_end s ≡ 4 + length r.addresses * 6
  addresses_end_lem = ap (λ (h : Header). 4 + h.count * 6) request_header

  -- the bytes of its blocks of values, and what follows the request
  abbrev after : List ℕ
  after = (write_all (block change_block_fits).write r.blocks ++ []) ++ t

  laid : drop 4 s ≡ write_all address.write r.addresses ++ after
  unfolding request
  laid = ap (drop 4) (request_sound.only s r t e).1 ∙ append_assoc (write_all address.write r.addresses) (write_all (block change_block_fits).write r.blocks ++ []) t

  rest_laid : drop (addresses_end s) s ≡ after
  rest_laid =
      ap (λ (k : ℕ). drop k s) addresses_end_lem
      ∙ (sym (drop-drop (length r.addresses * 6) 4 s)
      ∙ (ap (drop (length r.addresses * 6)) laid ∙ drop_at (write_all address.write r.addresses) after (length r.addresses * 6) (all_length address.write 6 address_length r.addresses)))

  -- its addresses are read in a row from place 4 on
  pub addresses_read : read_times address.read (length r.addresses) (drop 4 s) ≡ got r.addresses (drop (addresses_end s) s)
  unfolding request
  addresses_read =
      ap (read_times address.read (length r.addresses)) laid
      ∙ ((times_sound address address_sound (length r.addresses)).back r.addresses after valid.1.1.1.1.0 ∙ ap (got r.addresses) (sym rest_laid))

  -- and its blocks of values from there on
  pub blocks_read : read_times (block change_block_fits).read (request_blocks r.identifier (length r.addresses)) (drop (addresses_end s) s) ≡ got r.blocks t
  unfolding request
  blocks_read =
      ap (read_times (block change_block_fits).read (request_blocks r.identifier (length r.addresses))) (rest_laid ∙ ap (λ (l : List ℕ). l ++ t) (append-nil (write_all (block change_block_fits).write r.blocks)))
      ∙ (times_sound (block change_block_fits) (block_sound change_block_fits) (request_blocks r.identifier (length r.addresses))).back r.blocks t valid.1.1.1.1.1.0

-- a response that is read
module _ (s : List ℕ) (r : Response) (t : List ℕ) (e : response.read s ≡ got r t) where
  answer : ResponseFits r
  answer = (response_valid r).0 (response_sound.only s r t e).0

  pub response_header : header_of s ≡ record { reference = r.reference; identifier = r.identifier; axis = r.axis; count = r.count }
  response_header =
      header_here s (write_all block_bytes r.blocks ++ t) _ (omega (arith, answer.reference)) (answer_small r.identifier answer.identifier) answer.axis (omega (arith, answer.number))
      ((response_sound.only s r t e).1 ∙ ap (λ (l : List ℕ). l ++ t) (response_bytes_lem r))

  -- its blocks of values are read in a row from place 4 on
  pub answers_read : read_times (block (response_block_fits r.identifier)).read (response_blocks r.identifier r.count) (drop 4 s) ≡ got r.blocks t
  unfolding response
  answers_read =
      let these = block (response_block_fits r.identifier) in
      let all = write_all these.write r.blocks in
      let o = response_sound.only s r t e in
      ap (read_times these.read (response_blocks r.identifier r.count)) (ap (drop 4) o.1 ∙ ap (λ (l : List ℕ). l ++ t) (append-nil all))
      ∙ (times_sound these (block_sound (response_block_fits r.identifier)) (response_blocks r.identifier r.count)).back r.blocks t o.0.1.1.1.1.0.0

-- a block of values that is read: its format and its count are its first two bytes, and what follows stands after all of its bytes
module _ (rule : ℕ → ℕ → Bool) (s : List ℕ) (at : ℕ) (b : Block) (t : List ℕ) (e : (block rule).read (drop at s) ≡ got b t) where
  block_fits : BlockFits rule b
  block_fits = (block_valid rule b).0 ((block_sound rule).only (drop at s) b t e).0

  block_laid : drop at s ≡ block_bytes b ++ t
  block_laid = ((block_sound rule).only (drop at s) b t e).1 ∙ ap (λ (l : List ℕ). l ++ t) (block_bytes_lem rule b)

  pub block_room : at + (2 + values_size b.format (length b.values)) ≤ length s
  block_room = omega (arith, ap length block_laid, length-append (block_bytes b) t, block_written b.format (length b.values) b.values refl, length-drop at s)

  pub format_here : number_at 1 s at ≡ b.format
  format_here = byte_here s at b.format _ block_fits.format block_laid

  pub count_here : number_at 1 s (at + 1) ≡ length b.values
  count_here = byte_here s (at + 1) (length b.values) _ block_fits.number (sym (drop-drop 1 at s) ∙ ap (drop 1) block_laid)

  -- and so they stand there as bytes
  pub format_byte : Bytes s → b.format ≡ get_or s at 0
  format_byte y = sym format_here ∙ byte_number s y at (omega (arith, block_room))

  pub count_byte : Bytes s → length b.values ≡ get_or s (at + 1) 0
  count_byte y = sym count_here ∙ byte_number s y (at + 1) (omega (arith, block_room))

  pub after_block : t ≡ drop (at + (2 + values_size b.format (length b.values))) s
  after_block =
      let size = 2 + values_size b.format (length b.values) in
      sym (sym (drop-drop size at s) ∙ (ap (drop size) block_laid ∙ drop_at (block_bytes b) t size (sym (block_written b.format (length b.values) b.values refl))))
