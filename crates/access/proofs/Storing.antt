-- The values of one address: where they stand in its block, and the loops that test and store them.
use Rattle.std.specs.Prelude.{Ok, Err}
use mathlib.Core.Path.{◌≡◌, refl, sym, ◌∙◌, ap}
use mathlib.Core.Bool.{true, false, ◌&&◌}
use mathlib.Core.List.{List, [], ◌∷◌}
use Prim.Native.Nat.{ℕ, zero, suc, ◌+◌, ◌-◌, ◌*◌, ◌≤◌, ◌<◌}
use native.Mathlib.Omega.{arith}
use native.Mathlib.Numerals.{sub-one}
use native.Mathlib.Nat.{suc-mul}
use lib.ListN.{length, get_or, take, drop}
use Rattle.codes.specs.Code.{Got, write_all, word}
use Rattle.codes.specs.Number.{value_or, number_at, numbers_at, put}
use Rattle.codes.proofs.Fixed.{Bytes}
use Rattle.codes.proofs.Number.{numbers_length, numbers_back}
use Rattle.codes.proofs.Put.{word_length, put_none, put_length, put_append}
use Rattle.codes.proofs.Items.{all_length}
use Rattle.blocks.specs.Block.{Block, value_size, change_block_fits}
use Rattle.blocks.specs.declared.Head.{Head}
use Rattle.blocks.proofs.Blocks.{Stood, values_inside, value_stands}
use Rattle.drive.specs.Faults.{buffer_codes}
use Rattle.catalogue.specs.declared.Row.{Row}
use Rattle.catalogue.specs.Table.{element_size}
use Rattle.catalogue.specs.Element.{inside, element_place, put_element}
use Rattle.catalogue.proofs.Elements.{size_small}
use Rattle.access.specs.declared.error.ParameterError.TheVariants.{OutsideLimits}
use Rattle.access.specs.Address.{empty_block}
use Rattle.access.specs.Change.{all_inside, store_from, store_whole}
use Rattle.access.specs.Walk.{block_in, Did}
use Rattle.access.proofs.Failing.{did_fail}

-- values that are each where they should be
values_are : (w n : ℕ) (s : List ℕ) (at : ℕ) (vs : List ℕ) → length vs ≡ n → ((j : ℕ) → j < n → number_at w s (at + j * w) ≡ get_or vs j 0) → numbers_at w n s at ≡ vs
values_are w zero s at [] e each = refl
values_are w zero s at (x ∷ xs) e each = absurd (omega arith)
values_are w (suc n) s at [] e each = absurd (omega arith)
values_are w (suc n) s at (x ∷ xs) e each =
    let first : number_at w s at ≡ x = let z : at + 0 * w ≡ at = omega arith in rw z at (each 0 (omega arith)) in
    rw (first, values_are w n s (at + w) xs (omega arith) (λ j h. let z : at + w + j * w ≡ at + suc j * w = omega arith in rw z (each (suc j) (omega arith))))

-- the n values of a block that stands at a place
module _ (s : List ℕ) (at : ℕ) (h : Head) (b : Stood change_block_fits s at h) (n : ℕ) (many : h.count ≡ n) where
  count : n ≡ length b.it.values
  count = sym many ∙ b.count

  pub values_room : at + 2 + n * h.size ≤ length s
  values_room =
      let e : n * h.size ≡ length b.it.values * value_size b.it.format = ap (λ (k : ℕ). k * h.size) count ∙ ap (λ (k : ℕ). length b.it.values * k) b.size in
      omega (arith, e, values_inside change_block_fits s at b.it (drop h.next s) b.read)

  pub values_stand : numbers_at h.size n s (at + 2) ≡ (block_in s at).values
  values_stand =
      ap (λ (k : ℕ). numbers_at h.size k s (at + 2)) count
      ∙ (ap (λ (k : ℕ). numbers_at k (length b.it.values) s (at + 2)) b.size
      ∙ (values_are (value_size b.it.format) (length b.it.values) s (at + 2) b.it.values refl
      (λ j k. value_stands change_block_fits s at b.it (drop h.next s) j b.read k)
      ∙ ap (λ (g : Got Block). (value_or empty_block g).values) (sym b.read)))

-- one value more
values_next : (w left : ℕ) (s : List ℕ) (at : ℕ) → 0 < left → numbers_at w left s at ≡ number_at w s at ∷ numbers_at w (left - 1) s (at + w)
values_next w zero s at h = absurd (omega arith)
values_next w (suc left) s at h = rw sub-one

pub room_next : (w left at : ℕ) (s : List ℕ) → 0 < left → at + left * w ≤ length s → at + w + (left - 1) * w ≤ length s
room_next w zero at s h room = absurd (omega arith)
room_next w (suc left) at s h room = rw sub-one (omega arith)

-- The loop that tests: what is left to test from where it stands decides as all of them do.
pub record Testing (r : Row) (w n : ℕ) (s : List ℕ) (at₀ at left : ℕ) : Type 0 where
  pub room : at + left * w ≤ length s
  pub todo : all_inside r (numbers_at w left s at) ≡ all_inside r (numbers_at w n s at₀)

module _ (r : Row) (w n : ℕ) (s : List ℕ) (at₀ at left : ℕ) (c : Testing r w n s at₀ at left) where
  module _ (h : 0 < left) where
    here : inside r (number_at w s at) && all_inside r (numbers_at w (left - 1) s (at + w)) ≡ all_inside r (numbers_at w n s at₀)
    here = ap (all_inside r) (sym (values_next w left s at h)) ∙ c.todo

    pub test_next : inside r (number_at w s at) ≡ true → Testing r w n s at₀ (at + w) (left - 1)
    test_next t = record { room = room_next w left at s h c.room; todo = rw t at here }

    pub test_stop : inside r (number_at w s at) ≡ false → false ≡ all_inside r (numbers_at w n s at₀)
    test_stop t = rw t at here

-- The loop that stores: what is left to store from where it stands is what was to be stored at first.
pub record Storing (r : Row) (w n : ℕ) (s : List ℕ) (at₀ i : ℕ) (p₀ p : List ℕ) (at to left : ℕ) : Type 0 where
  pub room : at + left * w ≤ length s
  pub few : to + left ≤ buffer_codes
  pub size : length p ≡ length p₀
  pub todo : store_from r to (numbers_at w left s at) p ≡ store_from r i (numbers_at w n s at₀) p₀

module _ (r : Row) (w n : ℕ) (s : List ℕ) (at₀ i : ℕ) (p₀ p : List ℕ) (at to left : ℕ) (c : Storing r w n s at₀ i p₀ p at to left) where
  pub store_next : (x : ℕ) (m : List ℕ) → 0 < left → x ≡ number_at w s at → m ≡ put_element r to x p → length m ≡ length p → Storing r w n s at₀ i p₀ m (at + w) (to + 1) (left - 1)
  store_next x m h e q k =
      record {
        room = room_next w left at s h c.room;
        few = omega (arith, c.few);
        size = k ∙ c.size;
        todo = rw (q, e) (ap (λ (xs : List ℕ). store_from r to xs p) (sym (values_next w left s at h)) ∙ c.todo);
      }

-- Where all of them fit, they are stored as the bytes that they stand in.
module _ (r : Row) where
  abbrev z : ℕ
  z = element_size r.kind

  store_fits : (xs : List ℕ) (i : ℕ) (p : List ℕ) → element_place r i + length xs * z ≤ length p → store_from r i xs p ≡ put p (element_place r i) (write_all (word z).write xs)
  unfolding put_element
  store_fits [] i p h = sym (put_none p (element_place r i))
  store_fits (x ∷ xs) i p h =
      let bs = (word z).write x in
      let n : length bs ≡ z = word_length z x in
      let e : element_place r (i + 1) ≡ element_place r i + length bs = omega (arith, n) in
      let k : suc (length xs) * z ≡ z + length xs * z = suc-mul (length xs) z ∙ omega arith in
      store_fits xs (i + 1) (put p (element_place r i) bs) (omega (arith, k, e, n, put_length p (element_place r i) bs))
      ∙ rw e (put_append p (element_place r i) bs (write_all (word z).write xs) (omega (arith, k, n, all_length (word z).write z (word_length z) xs)))

  pub store_copied : (w n : ℕ) (s : List ℕ) (at i : ℕ) (p m : List ℕ) → w ≡ z → Bytes s → at + n * w ≤ length s → r.offset + i * w + n * w ≤ length p → m ≡ put p (r.offset + i * w) (take (n * w) (drop at s))
      → m ≡ store_from r i (numbers_at w n s at) p
  store_copied w n s at i p m wide y there room e =
      let xs = numbers_at z n s at in
      let fits : element_place r i + length xs * z ≤ length p = rw (numbers_length z n s at) (rw wide at room) in
      e ∙ rw wide (sym (store_fits xs i p fits ∙ ap (put p (element_place r i)) (numbers_back z s y (size_small r.kind) n at (rw wide at there))))

-- all are inside and are stored, or one is not and none is
pub whole_stored : (r : Row) (i w n : ℕ) (s : List ℕ) (at : ℕ) (p m : List ℕ) → n ≤ buffer_codes → true ≡ all_inside r (numbers_at w n s at) → m ≡ store_from r i (numbers_at w n s at) p
    → Did (store_whole r i (numbers_at w n s at) p) m (Ok n)
whole_stored r i w n s at p m few t e = rw (← t) (record { block = refl; part = e; stored = sym (numbers_length w n s at); few = few })

pub none_stored : (r : Row) (i w n : ℕ) (s : List ℕ) (at : ℕ) (p : List ℕ) → false ≡ all_inside r (numbers_at w n s at)
    → Did (store_whole r i (numbers_at w n s at) p) p (Err OutsideLimits)
none_stored r i w n s at p t = rw (← t) (did_fail OutsideLimits p)
