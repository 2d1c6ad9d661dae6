-- The plain page and the codes: the same values are valid, and the same bytes are written.
use mathlib.Core.Path.{◌≡◌, refl, sym, ◌∙◌, ap}
use mathlib.Core.List.{List, [], ◌∷◌, ◌++◌, append-nil}
use mathlib.Core.Bool.{Bool, true, false, true≢false}
use mathlib.Core.Logic.{◌↔◌}
use Prim.Native.Nat.{ℕ, zero, suc, ◌/◌, ◌%◌, ◌≤◌, ◌<◌}
use native.Mathlib.Omega.{arith}
use native.Mathlib.Decide.{dec_lt}
use lib.ListN.{length}
use lib.Dec.{leb, eqb}
use borrow.Author.Tests.{ltb-true, lt-ltb, leb-true, le-leb, ne_eqb}
use Rattle.codes.specs.Code.{AllOf, write_all, byte, within, word}
use Rattle.codes.proofs.Sound.{word_valid, valid_word, fill_valid}
use Rattle.codes.proofs.Put.{word_length, fill_bytes}
use Rattle.codes.proofs.Demand.{both}
use Rattle.blocks.specs.declared.reader.Address.{Address}
use Rattle.blocks.specs.Block.{Block, block, change_block_fits, response_block_fits, fill_size, values_of, value_size}
use Rattle.blocks.specs.Request.{Request, address, request}
use Rattle.blocks.specs.Response.{Response, response, is_answer}
use Rattle.blocks.specs.Page.{From, AddressFits, BlockFits, RequestFits, ResponseFits, number_bytes, address_bytes, block_bytes, request_bytes, response_bytes}

-- the bytes
same_all : {A : Type 0} (f g : A → List ℕ) → ((a : A) → f a ≡ g a) → (xs : List A) → write_all f xs ≡ write_all g xs
same_all f g h [] = refl
same_all f g h (x ∷ xs) = rw (h x, same_all f g h xs)

-- a number of n bytes, and numbers one after the other
number_bytes_lem : (n x : ℕ) → (word n).write x ≡ number_bytes n x
number_bytes_lem zero x = refl
number_bytes_lem (suc n) x = ap (λ (l : List ℕ). l ++ (x % 256 ∷ [])) (number_bytes_lem n (x / 256))

pub number_length : (n x : ℕ) → length (number_bytes n x) ≡ n
number_length n x = ap length (sym (number_bytes_lem n x)) ∙ word_length n x

pub numbers_bytes : (n : ℕ) (xs : List ℕ) → write_all (word n).write xs ≡ write_all (number_bytes n) xs
numbers_bytes n = same_all (word n).write (number_bytes n) (number_bytes_lem n)

address_bytes_lem : (a : Address) → address.write a ≡ address_bytes a
unfolding address
address_bytes_lem a = refl

pub block_bytes_lem : (fits : ℕ → ℕ → Bool) (b : Block) → (block fits).write b ≡ block_bytes b
unfolding block values_of
block_bytes_lem fits b =
    rw (append-nil, numbers_bytes (value_size b.format) b.values, fill_bytes (fill_size b.format (length b.values)) b.values b.values)

pub request_bytes_lem : (r : Request) → request.write r ≡ request_bytes r
unfolding request
request_bytes_lem r =
    rw (append-nil, same_all address.write address_bytes address_bytes_lem r.addresses, same_all (block change_block_fits).write block_bytes (block_bytes_lem change_block_fits) r.blocks)

pub response_bytes_lem : (r : Response) → response.write r ≡ response_bytes r
unfolding response
response_bytes_lem r =
    rw (append-nil, same_all (block (response_block_fits r.identifier)).write block_bytes (block_bytes_lem (response_block_fits r.identifier)) r.blocks)

-- the values
all_map : {A : Type 0} (P Q : A → Type 0) → ((a : A) → P a → Q a) → (xs : List A) → AllOf P xs → AllOf Q xs
all_map P Q h [] v = tt
all_map P Q h (x ∷ xs) v = (h x v.0, all_map P Q h xs v.1)

byte_valid : (x : ℕ) → byte.Valid x ↔ (x < 256)
byte_valid x = (λ v. ltb-true x 256 v.1, λ h. (tt, lt-ltb x 256 h))

within_valid : (lo hi x : ℕ) → hi ≤ 255 → (within lo hi).Valid x ↔ From lo hi x
within_valid lo hi x k = (
  λ v. let p = both (leb lo x) (leb x hi) v.1 in (leb-true lo x p.0, leb-true x hi p.1),
  λ h. ((byte_valid x).1 (omega arith), rw (le-leb lo x h.0, le-leb x hi h.1)),
)

address_valid : (a : Address) → address.Valid a ↔ AddressFits a
unfolding address
address_valid a = (
  λ v. record {
    attribute = (byte_valid _).0 v.0;
    elements = (byte_valid _).0 v.1.0;
    pnu = word_valid 2 _ v.1.1.0;
    subindex = word_valid 2 _ v.1.1.1.0;
  },
  λ h. ((byte_valid _).1 h.attribute, ((byte_valid _).1 h.elements, (valid_word 2 _ h.pnu, (valid_word 2 _ h.subindex, refl)))),
)

pub block_valid : (fits : ℕ → ℕ → Bool) (b : Block) → (block fits).Valid b ↔ BlockFits fits b
unfolding block values_of
block_valid fits b = (
  λ v. record {
    format = (byte_valid _).0 v.0;
    number = (byte_valid _).0 v.1.0.0;
    allowed = v.1.0.1;
    values = all_map _ _ (λ x. word_valid (value_size b.format) x) b.values v.1.1.0.0.1;
  },
  λ h. ((byte_valid _).1 h.format, (((byte_valid _).1 h.number, h.allowed), (((refl, all_map _ _ (λ x. valid_word (value_size b.format) x) b.values h.values), fill_valid (fill_size b.format (length b.values)) b.values), refl))),
)

pub request_valid : (r : Request) → request.Valid r ↔ RequestFits r
unfolding request
request_valid r = (
  λ v. record {
    reference = (within_valid 1 255 _ (omega arith)).0 v.0;
    identifier = (within_valid 1 2 _ (omega arith)).0 v.1.0;
    axis = (byte_valid _).0 v.1.1.0;
    number = (within_valid 1 39 _ (omega arith)).0 v.1.1.1.0;
    addresses = all_map _ _ (λ a. (address_valid a).0) r.addresses v.1.1.1.1.0.1;
    count = v.1.1.1.1.1.0.0;
    blocks = all_map _ _ (λ b. (block_valid change_block_fits b).0) r.blocks v.1.1.1.1.1.0.1;
  },
  λ h. (
    (within_valid 1 255 _ (omega arith)).1 h.reference,
    (
      (within_valid 1 2 _ (omega arith)).1 h.identifier,
      (
        (byte_valid _).1 h.axis,
        (
          (within_valid 1 39 _ (omega arith)).1 h.number,
          (
            (refl, all_map _ _ (λ a. (address_valid a).1) r.addresses h.addresses),
            (
              (h.count, all_map _ _ (λ b. (block_valid change_block_fits b).1) r.blocks h.blocks),
              refl,
            ),
          ),
        ),
      ),
    ),
  ),
)

-- an identifier of a response is a byte
pub answer_small : (id : ℕ) → is_answer id ≡ true → id < 256
answer_small id e = go (dec_lt id 256)
  where
    go : Dec (id < 256) → id < 256
    go (yes h) = h
    go (no n) =
        let off : (k : ℕ) → k < 256 → eqb id k ≡ false = λ k h. ne_eqb id k (λ z. n (omega arith)) in
        absurd (true≢false (sym (rw (off 1 (omega arith), off 2 (omega arith), off 0x81 (omega arith), off 0x82 (omega arith)) at e)))

pub response_valid : (r : Response) → response.Valid r ↔ ResponseFits r
unfolding response
response_valid r = (
  λ v. record {
    reference = (within_valid 1 255 _ (omega arith)).0 v.0;
    identifier = v.1.0.1;
    axis = (byte_valid _).0 v.1.1.0;
    number = (within_valid 1 39 _ (omega arith)).0 v.1.1.1.0;
    count = v.1.1.1.1.0.0.0;
    blocks = all_map _ _ (λ b. (block_valid (response_block_fits r.identifier) b).0) r.blocks v.1.1.1.1.0.0.1;
    errors = v.1.1.1.1.0.1;
  },
  λ h. (
    (within_valid 1 255 _ (omega arith)).1 h.reference,
    (
      ((byte_valid _).1 (answer_small r.identifier h.identifier), h.identifier),
      (
        (byte_valid _).1 h.axis,
        (
          (within_valid 1 39 _ (omega arith)).1 h.number,
          (
            ((h.count, all_map _ _ (λ b. (block_valid (response_block_fits r.identifier) b).1) r.blocks h.blocks), h.errors),
            refl,
          ),
        ),
      ),
    ),
  ),
)
