-- The bytes that the blocks of a read take: four are kept for each address after a block, so all of them fit.
use Rattle.std.specs.Prelude.{Result, Ok, Err}
use Rattle.access.specs.declared.error.ParameterError.{ParameterError}
use mathlib.Core.Path.{◌≡◌, refl, sym, ◌∙◌, ap, subst}
use mathlib.Core.Bool.{Bool, true, false, cond, ◌||◌}
use mathlib.Core.List.{List, [], ◌∷◌}
use Prim.Native.Nat.{ℕ, suc, ◌+◌, ◌*◌, ◌%◌, ◌≤◌, ◌<◌}
use native.Mathlib.Omega.{arith}
use lib.Dec.{eqb, leb}
use lib.ListN.{length, length-append}
use borrow.Author.Tests.{le-leb, lt-leb, leb-true}
use Rattle.codes.specs.Code.{write_all}
use Rattle.codes.specs.Number.{put}
use Rattle.blocks.specs.Block.{Block, block_limit, value_size}
use Rattle.blocks.specs.Page.{block_bytes}
use Rattle.blocks.specs.Response.{is_error}
use Rattle.blocks.specs.declared.reader.Address.{Address}
use Rattle.blocks.proofs.Blocks.{values_size_lem, fill_even}
use Rattle.blocks.proofs.Parts.{block_written, error_bytes}
use Rattle.catalogue.specs.declared.Kind.{Kind}
use Rattle.catalogue.specs.declared.Kind.TheVariants.{U8, U16, I16, I32}
use Rattle.catalogue.specs.declared.Row.{Row}
use Rattle.catalogue.specs.Table.{element_size}
use Rattle.catalogue.specs.Element.{size_code}
use Rattle.access.specs.declared.error.ParameterError.TheVariants.{NoRoom}
use Rattle.access.specs.Address.{checked, error_number, error_block}
use Rattle.access.specs.Read.{elements_from, block_size, fitted, answer_to, read_block, read_blocks}
use Rattle.access.specs.Walk.{with_block}
use Rattle.access.proofs.Filled.{sofar, or_none}
use Rattle.access.proofs.Gathered.{elements_length}
use Rattle.access.proofs.Answers.{size_same}

pub size_written : (b : Block) → block_size b ≡ length (block_bytes b)
size_written b = block_written b.format (length b.values) b.values refl

pub error_size : (e : ParameterError) → length (block_bytes (error_block e)) ≡ 4
error_size e = ap length (error_bytes (error_number e))

-- a size code is no error's format
no_error : (k : Kind) → eqb (size_code k) 0x44 ≡ false
no_error U8 = refl
no_error U16 = refl
no_error I16 = refl
no_error I32 = refl

-- a block of n elements, with the size that the code works out of theirs
module _ (r : Row) (i n : ℕ) (p : List ℕ) (w : ℕ) (wide : w ≡ element_size r.kind) (at after size : ℕ) (sized : size ≡ 2 + n * w + n * w % 2) where
  abbrev b : Block
  b = record { format = size_code r.kind; values = elements_from r i n p }

  size_is : size ≡ block_size b
  size_is =
      let k = size_code r.kind in
      let e : n * value_size k ≡ n * w = ap (λ (z : ℕ). n * z) (size_same r.kind ∙ sym wide) in
      rw (elements_length r p i n) (omega (arith, sized, e, values_size_lem k n, fill_even k n))

  pub elements_unfit : block_limit < at + size + 4 * after → error_block NoRoom ≡ fitted at after b
  elements_unfit h = rw (lt-leb (at + block_size b + 4 * after) block_limit (omega (arith, size_is)))

  elements_fit : at + size + 4 * after ≤ block_limit → fitted at after b ≡ b
  elements_fit h = rw (le-leb (at + block_size b + 4 * after) block_limit (omega (arith, size_is)))

  pub elements_written : (l m : List ℕ) (e : Bool) → at + size + 4 * after ≤ block_limit → m ≡ put l at (block_bytes b) → sofar m (at + size) e ≡ with_block (fitted at after b) (sofar l at e)
  elements_written l m e h put_there =
      let next : at + size ≡ at + length (block_bytes b) = ap (λ (k : ℕ). at + k) (size_is ∙ size_written b) in
      let same : e ≡ (e || is_error b) = or_none e ∙ ap (λ (t : Bool). e || t) (sym (no_error r.kind)) in
      subst (λ (x : Block). sofar m (at + size) e ≡ with_block x (sofar l at e)) (sym (elements_fit h))
      (λ i. sofar (put_there i) (next i) (same i))

-- what the checks of an address say decides its block
pub block_is : (p : List ℕ) (at after : ℕ) (a : Address) (c : Result (Row × ℕ) ParameterError) → c ≡ checked a → answer_to p at after a c ≡ read_block p at after a
unfolding read_block
block_is p at after a c e = ap (answer_to p at after a) e

-- four bytes were kept for this address too: its block leaves them for each after it
module _ (p : List ℕ) (at after : ℕ) (h : at + 4 * suc after ≤ block_limit) where
  fitted_room : (b : Block) → at + length (block_bytes (fitted at after b)) + 4 * after ≤ block_limit
  fitted_room b = go (leb (at + block_size b + 4 * after) block_limit) refl
    where
      go : (t : Bool) → leb (at + block_size b + 4 * after) block_limit ≡ t → at + length (block_bytes (cond t b (error_block NoRoom))) + 4 * after ≤ block_limit
      go true e = omega (arith, leb-true (at + block_size b + 4 * after) block_limit e, size_written b)
      go false e = omega (arith, error_size NoRoom)

  pub block_room : (a : Address) → at + length (block_bytes (read_block p at after a)) + 4 * after ≤ block_limit
  unfolding read_block
  block_room a = go (checked a)
    where
      go : (c : Result (Row × ℕ) ParameterError) → at + length (block_bytes (answer_to p at after a c)) + 4 * after ≤ block_limit
      go (Err e) = omega (arith, error_size e)
      go (Ok (r, n)) = fitted_room (record { format = size_code r.kind; values = elements_from r a.subindex n p })

pub blocks_room : (p : List ℕ) (them : List Address) (at : ℕ) → at + 4 * length them ≤ block_limit → at + length (write_all block_bytes (read_blocks p at them)) ≤ block_limit
blocks_room p [] at h = omega arith
blocks_room p (a ∷ more) at h =
    let b = read_block p at (length more) a in
    let room = block_room p at (length more) h a in
    let s = size_written b in
    let rest = blocks_room p more (at + block_size b) (omega arith) in
    omega (arith, length-append (block_bytes b) (write_all block_bytes (read_blocks p (at + block_size b) more)))
