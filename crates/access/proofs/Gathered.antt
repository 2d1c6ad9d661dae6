-- The elements of a row for a block: gathered one by one in an array, or copied as the bytes that they stand in.
use mathlib.Core.Path.{◌≡◌, refl, sym, ◌∙◌, ap}
use mathlib.Core.List.{List, [], ◌∷◌, ◌++◌}
use Prim.Native.Nat.{ℕ, zero, suc, ◌+◌, ◌*◌, ◌%◌, ◌≤◌, ◌<◌}
use native.Mathlib.Omega.{arith}
use native.Mathlib.Numerals.{add-one}
use native.Mathlib.Nat.{add-zero}
use lib.ListN.{length, get_or, set, take, drop, replicate}
use lib.Seq.{take-suc, take-set-le, get_or-set_same, lt-length-set}
use Rattle.codes.specs.Code.{write_all, word}
use Rattle.codes.specs.Number.{number_at, numbers_at}
use Rattle.codes.proofs.Fixed.{Bytes}
use Rattle.codes.proofs.Number.{numbers_back}
use Rattle.blocks.specs.Block.{Block, value_size, fill_size}
use Rattle.blocks.specs.Page.{number_bytes, block_bytes}
use Rattle.blocks.proofs.Blocks.{fill_even}
use Rattle.blocks.proofs.Page.{numbers_bytes}
use Rattle.catalogue.specs.declared.Row.{Row}
use Rattle.catalogue.specs.Table.{element_size}
use Rattle.catalogue.specs.Element.{size_code, element_place, element_of}
use Rattle.catalogue.proofs.Elements.{size_small}
use Rattle.access.specs.Read.{elements_from}
use Rattle.access.proofs.Answers.{size_same}

module _ (r : Row) (p : List ℕ) where
  pub elements_length : (i n : ℕ) → length (elements_from r i n p) ≡ n
  elements_length i zero = refl
  elements_length i (suc n) = ap suc (elements_length (i + 1) n)

  -- one more element, after the others
  elements_last : (i n : ℕ) → elements_from r i (suc n) p ≡ elements_from r i n p ++ (element_of r (i + n) p ∷ [])
  elements_last i zero = rw add-zero
  elements_last i (suc n) =
      let e : i + 1 + n ≡ i + suc n = omega arith in
      ap (λ (l : List ℕ). element_of r i p ∷ l) (elements_last (i + 1) n ∙ rw e)

  -- and in an array that holds the others
  pub gather_next : (i n : ℕ) (v : List ℕ) → n < length v → take n v ≡ elements_from r i n p → take (n + 1) (set v n (element_of r (i + n) p)) ≡ elements_from r i (n + 1) p
  gather_next i n v h e =
      let x = element_of r (i + n) p in
      rw add-one
      (take-suc (set v n x) n 0 (lt-length-set v n x h)
      ∙ (ap (λ (l : List ℕ). l ++ (get_or (set v n x) n 0 ∷ [])) (take-set-le n v n x (omega arith) ∙ e)
      ∙ (ap (λ (y : ℕ). elements_from r i n p ++ (y ∷ [])) (get_or-set_same v n x 0 h) ∙ sym (elements_last i n))))

  -- they are numbers in turn
  elements_numbers : (i n : ℕ) → elements_from r i n p ≡ numbers_at (element_size r.kind) n p (element_place r i)
  unfolding element_of
  elements_numbers i zero = refl
  elements_numbers i (suc n) =
      let w = element_size r.kind in
      let e : element_place r (i + 1) ≡ element_place r i + w = omega arith in
      ap (λ (l : List ℕ). number_at w p (element_place r i) ∷ l) (elements_numbers (i + 1) n ∙ rw e)

  module _ (i n f : ℕ) (code : f ≡ size_code r.kind) where
    abbrev b : Block
    b = record { format = size_code r.kind; values = elements_from r i n p }

    pub copied_block : (w : ℕ) → w ≡ element_size r.kind → Bytes p → r.offset + i * w + n * w ≤ length p → f ∷ n ∷ take (n * w) (drop (r.offset + i * w) p) ++ replicate (n * w % 2) 0 ≡ block_bytes b
    copied_block w wide y there =
        let k = r.kind in
        let z = element_size k in
        let xs = elements_from r i n p in
        let fill : fill_size (size_code k) (length xs) ≡ n * z % 2 = rw (elements_length i n) (fill_even (size_code k) n ∙ ap (λ (v : ℕ). n * v % 2) (size_same k)) in
        let them : write_all (number_bytes (value_size (size_code k))) xs ≡ take (n * z) (drop (element_place r i) p) =
        rw (size_same k)
        (sym (numbers_bytes z xs)
        ∙ (ap (write_all (word z).write) (elements_numbers i n)
        ∙ numbers_back z p y (size_small k) n (element_place r i) (rw wide at there))) in
        rw (code, wide, fill, them, elements_length i n)
