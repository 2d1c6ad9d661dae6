-- The loop over the blocks of a response: what is left to be held against the addresses is what was to be held at first.
use mathlib.Core.Path.{◌≡◌, refl, sym, ◌∙◌, ap}
use mathlib.Core.Bool.{Bool, true, false}
use mathlib.Core.List.{List, [], ◌∷◌}
use Prim.Native.Nat.{ℕ, zero, suc, ◌+◌, ◌-◌, ◌≤◌, ◌<◌}
use native.Mathlib.Omega.{arith}
use native.Mathlib.Numerals.{sub-one}
use lib.ListN.{length, get_or, drop, length-drop}
use borrow.Author.Tests.{ne_eqb}
use Rattle.codes.specs.Code.{got, read_times}
use Rattle.codes.specs.Number.{number_at}
use Rattle.codes.proofs.Sound.{times_sound}
use Rattle.codes.proofs.Fixed.{Bytes}
use Rattle.codes.proofs.Items.{first_read}
use Rattle.codes.proofs.Number.{byte_number}
use Rattle.blocks.specs.declared.Header.{Header}
use Rattle.blocks.specs.declared.reader.Address.{Address}
use Rattle.blocks.specs.Block.{Block, response_block_fits, values_size, block}
use Rattle.blocks.specs.Request.{Request, address, request}
use Rattle.blocks.specs.Response.{Response, response_blocks, response}
use Rattle.blocks.specs.Place.{header_of, addresses_end}
use Rattle.blocks.proofs.Sound.{address_sound, block_sound}
use Rattle.blocks.proofs.Page.{block_valid}
use Rattle.blocks.proofs.Formats.{answer_code}
use Rattle.blocks.proofs.Request.{request_header, addresses_read, response_header, answers_read, block_room, format_byte, count_byte, after_block}
use Rattle.blocks.proofs.Addresses.{address_here}
use Rattle.checker.specs.Check.{count_fits, counts_fit}
use Rattle.checker.specs.Inner.{BothRead, BothCount, AsRead}
use Rattle.checker.proofs.Judging.{once}

-- as many addresses and blocks are left, from a place of each block on
pub record Left (s t : List ℕ) (q : Request) (r : Response) (from at n : ℕ) (them : List Address) (bs : List Block) : Type 0 where
  pub addresses : read_times address.read n (drop from s) ≡ got them (drop (addresses_end s) s)
  pub blocks : read_times (block (response_block_fits r.identifier)).read n (drop at t) ≡ got bs []
  pub todo : counts_fit them bs ≡ counts_fit q.addresses r.blocks

pub record Counting (s t : List ℕ) (q : Request) (r : Response) (from at n : ℕ) : Type 0 where
  pub them : List Address
  pub bs : List Block
  pub left : Left s t q r from at n them bs

-- where no block is left, nothing is held against anything
counts_none : (them : List Address) → counts_fit them [] ≡ true
unfolding counts_fit
counts_none [] = refl
counts_none (a ∷ more) = refl

module _ (s t : List ℕ) (q : Request) (r : Response) (es : request.read s ≡ got q []) (et : response.read t ≡ got r []) where
  identifier_is : (header_of t).identifier ≡ r.identifier
  identifier_is = ap (λ (h : Header). h.identifier) (response_header t r [] et)

  -- "02 ends there"
  pub unanswered : (header_of t).identifier ≡ 2 → counts_fit q.addresses r.blocks ≡ true
  unfolding response_blocks
  unanswered two =
      let e = answers_read t r [] et in
      let none : got [] (drop 4 t) ≡ got r.blocks [] = rw (sym identifier_is ∙ two) at e in
      let empty : [] ≡ r.blocks = cc in
      ap (counts_fit q.addresses) (sym empty) ∙ counts_none q.addresses

  pub begins : (n : ℕ) → BothCount s t n → Counting s t q r 4 4 n
  unfolding response_blocks
  begins n h =
      let asked : length q.addresses ≡ n = ap (λ (k : Header). k.count) (sym (request_header s q [] es)) ∙ h.0 in
      let count : r.count ≡ n = ap (λ (k : Header). k.count) (sym (response_header t r [] et)) ∙ h.1 in
      let e = answers_read t r [] et in
      record {
        them = q.addresses;
        bs = r.blocks;
        left =
            record {
              addresses = rw (← asked) (addresses_read s q [] es);
              blocks = rw (← count) (rw (ne_eqb r.identifier 2 (λ z. h.2 (identifier_is ∙ z))) at e);
              todo = refl;
            };
      }

-- no block is left
pub no_block : (s t : List ℕ) (q : Request) (r : Response) (from at : ℕ) → Counting s t q r from at 0 → true ≡ counts_fit q.addresses r.blocks
no_block s t q r from at c =
    let e = c.left.blocks in
    let empty : [] ≡ c.bs = cc in
    sym (counts_none c.them) ∙ (ap (counts_fit c.them) empty ∙ c.left.todo)

-- what stands at two places
pub record Stand (s t : List ℕ) (from at : ℕ) : Type 0 where
  pub address : from + 6 ≤ length s
  pub format : 0x40 ≤ get_or t at 0
  pub block : at + (2 + values_size (get_or t at 0) (get_or t (at + 1) 0)) ≤ length t

-- an address and a block there: the loop ends here, or goes on
pub record Turn (s t : List ℕ) (q : Request) (r : Response) (from at n : ℕ) : Type 0 where
  pub stand : Stand s t from at
  pub fails : count_fits (get_or s (from + 1) 0) (get_or t at 0) (get_or t (at + 1) 0) ≡ false → false ≡ counts_fit q.addresses r.blocks
  pub goes : count_fits (get_or s (from + 1) 0) (get_or t at 0) (get_or t (at + 1) 0) ≡ true → Counting s t q r (from + 6) (at + (2 + values_size (get_or t at 0) (get_or t (at + 1) 0))) n

module _ (s t : List ℕ) (bytes_s : Bytes s) (bytes_t : Bytes t) (q : Request) (r : Response) (from at : ℕ) where
  abbrev rule : ℕ → ℕ → Bool
  rule = response_block_fits r.identifier

  -- the address that is read here: where it ends, and the elements that it asks
  module _ (x : Address) (u : List ℕ) (e : address.read (drop from s) ≡ got x u) where
    address_room : from + 6 ≤ length s
    unfolding address
    address_room = omega (arith, ap length (address_sound.only (drop from s) x u e).1, length-drop from s)

    abbrev here : Address
    here = record { attribute = number_at 1 s from; elements = number_at 1 s (from + 1); pnu = number_at 2 s (from + 2); subindex = number_at 2 s (from + 4) }

    same : got x u ≡ got here (drop (from + 6) s)
    same = sym e ∙ address_here s bytes_s from address_room here refl refl refl refl

    address_rest : u ≡ drop (from + 6) s
    address_rest = let z = same in cc

    elements_here : x.elements ≡ get_or s (from + 1) 0
    elements_here = let z = same in let a : x ≡ here = cc in ap (λ (a : Address). a.elements) a ∙ byte_number s bytes_s (from + 1) (omega (arith, address_room))

  -- the block that is read here has a code for its format
  module _ (b : Block) (u : List ℕ) (e : (block rule).read (drop at t) ≡ got b u) where
    block_code : 0x40 ≤ b.format
    block_code = answer_code b.format r.identifier (length b.values) ((block_valid rule b).0 ((block_sound rule).only (drop at t) b u e).0).allowed

  turned : (m : ℕ) → Counting s t q r from at (suc m) → Turn s t q r from at m
  unfolding counts_fit
  turned m c = go c.them c.bs c.left
    where
      go : (them : List Address) (bs : List Block) → Left s t q r from at (suc m) them bs → Turn s t q r from at m
      go [] bs l =
          let none = ((times_sound address address_sound (suc m)).only (drop from s) [] _ l.addresses).0.0 in
          absurd (omega arith)
      go (x ∷ more) [] l =
          let none = ((times_sound (block rule) (block_sound rule) (suc m)).only (drop at t) [] [] l.blocks).0.0 in
          absurd (omega arith)
      go (x ∷ more) (b ∷ bs) l =
          let asks = first_read address.read m (drop from s) x more _ l.addresses in
          let gives = first_read (block rule).read m (drop at t) b bs [] l.blocks in
          let elements = elements_here x asks.0 asks.1 in
          let format = sym (format_byte rule t at b gives.0 gives.1 bytes_t) in
          let count = sym (count_byte rule t at b gives.0 gives.1 bytes_t) in
          let after = after_block rule t at b gives.0 gives.1 in
          let test : count_fits x.elements b.format (length b.values) ≡ count_fits (get_or s (from + 1) 0) (get_or t at 0) (get_or t (at + 1) 0) = rw (elements, ← format, ← count) in
          record {
            stand =
                record {
                  address = address_room x asks.0 asks.1;
                  format = rw format (block_code b gives.0 gives.1);
                  block = rw (format, count) (block_room rule t at b gives.0 gives.1);
                };
            fails = λ unlike. sym (sym l.todo ∙ rw (test, unlike));
            goes =
                λ like.
                record {
                  them = more;
                  bs = bs;
                  left =
                      record {
                        addresses = rw (← address_rest x asks.0 asks.1) asks.2;
                        blocks = rw (format, count, ← after) gives.2;
                        todo = sym (rw (test, like)) ∙ l.todo;
                      };
                };
          }

  pub turn : (m : ℕ) → 0 < m → Counting s t q r from at m → Turn s t q r from at (m - 1)
  turn zero h c = absurd (omega arith)
  turn (suc m) h c = rw sub-one (turned m c)

-- of two readable blocks, something stands there
pub stands : (s t : List ℕ) → BothRead s t → Bytes s → Bytes t → (from at n : ℕ) → AsRead s t (λ q r. Counting s t q r from at n) → 0 < n → Stand s t from at
stands s t read bytes_s bytes_t from at n c h = once s t read (Stand s t from at) (λ q r es et. (turn s t bytes_s bytes_t q r from at n h (c q r es et)).stand)
