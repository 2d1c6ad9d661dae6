-- The loop over the addresses and blocks of a change: what is left to do from where it stands is what was to be done at first.
use Rattle.std.specs.Prelude.{Option, Some, None, Result}
use mathlib.Core.Path.{◌≡◌, refl, sym, ◌∙◌, ap}
use mathlib.Core.List.{List, [], ◌∷◌}
use Prim.Native.Nat.{ℕ, zero, suc, ◌+◌, ◌-◌, ◌*◌, ◌≤◌, ◌<◌}
use native.Mathlib.Omega.{arith}
use native.Mathlib.Numerals.{sub-one}
use lib.ListN.{length, drop}
use Rattle.codes.specs.Code.{Got, got, bad, and_then, read_times}
use Rattle.codes.specs.Number.{value_or}
use Rattle.drive.specs.Faults.{buffer_codes}
use Rattle.blocks.specs.Block.{Block, block_limit, change_block_fits, block}
use Rattle.blocks.specs.Place.{step_at, block_at, walk}
use Rattle.blocks.specs.declared.Head.{Head}
use Rattle.blocks.specs.declared.reader.Address.{Address}
use Rattle.blocks.proofs.Blocks.{block_stands, block_falls}
use Rattle.access.specs.declared.reply.Reply.{Reply}
use Rattle.access.specs.declared.error.ParameterError.{ParameterError}
use Rattle.access.specs.Change.{ChangedAll, follow, change_one, change_all}
use Rattle.access.specs.Walk.{with_block, with_blocks, block_in, blocks_in, answer_in, counted, Did, DidAll}
use Rattle.access.proofs.Reading.{walk_next}
use Rattle.access.proofs.Answering.{answer_short}
use Rattle.access.proofs.Failing.{block_in_lem}

-- blocks are left, so one stands here
blocks_end : (s : List ℕ) (from left : ℕ) → 0 < left → length (blocks_in left s from) ≡ left → block_at s from ≡ None → ⊥
blocks_end s from zero h w e = omega arith
blocks_end s from (suc left) h w e =
    let z : length (blocks_in (suc left) s from) ≡ 0 = rw (block_falls change_block_fits s from e) in
    omega arith

pub block_left : (s : List ℕ) (from left : ℕ) → 0 < left → length (blocks_in left s from) ≡ left → (h : Head) × (block_at s from ≡ Some h)
block_left s from left h w = go (block_at s from) refl
  where
    go : (b : Option Head) → block_at s from ≡ b → (k : Head) × (block_at s from ≡ Some k)
    go (Some k) e = (k, e)
    go None e = absurd (blocks_end s from left h w e)

-- a step over the blocks that are left
blocks_next : (s : List ℕ) (from left : ℕ) (h : Head) → block_at s from ≡ Some h → length (blocks_in (suc left) s from) ≡ suc left → blocks_in (suc left) s from ≡ block_in s from ∷ blocks_in left s h.next
blocks_next s from left h st w =
    let stood = block_stands change_block_fits s from h st in
    let first : blocks_in (suc left) s from ≡ value_or [] (and_then (read_times (block change_block_fits).read left (drop h.next s)) (λ bs u. got (stood.it ∷ bs) u)) = rw stood.read in
    first
    ∙ (go stood.it (read_times (block change_block_fits).read left (drop h.next s)) (ap length (sym first) ∙ w)
    ∙ ap (λ (b : Block). b ∷ blocks_in left s h.next) (sym (block_in_lem s from h st)))
  where
    go : (b : Block) (g : Got (List Block)) → length (value_or [] (and_then g (λ bs u. got (b ∷ bs) u))) ≡ suc left → value_or [] (and_then g (λ bs u. got (b ∷ bs) u)) ≡ b ∷ value_or [] g
    go b (got bs u) e = refl
    go b bad e = absurd (omega arith)

-- what n addresses and blocks come to, from two places on
abbrev pub ahead : List ℕ → ℕ → ℕ → ℕ → List ℕ → ChangedAll
ahead s n at from p = change_all (walk n s at) (blocks_in n s from) p

pub record Changing (s : List ℕ) (n : ℕ) (p₀ p : List ℕ) (x₀ x : Reply) (at from left stored : ℕ) : Type 0 where
  pub whole : length (walk left s at) ≡ left
  pub valued : length (blocks_in left s from) ≡ left
  pub room : x.next + 4 * left ≤ block_limit
  pub few : stored + buffer_codes * left ≤ buffer_codes * 39
  pub kept : length p ≡ length p₀
  pub blocks : with_blocks (ahead s left at from p).blocks x ≡ with_blocks (ahead s n 4 (4 + n * 6) p₀).blocks x₀
  pub leaves : (ahead s left at from p).part ≡ (ahead s n 4 (4 + n * 6) p₀).part
  pub counts : stored + (ahead s left at from p).stored ≡ (ahead s n 4 (4 + n * 6) p₀).stored

module _ (s : List ℕ) (n : ℕ) (p₀ p : List ℕ) (x₀ x : Reply) (at from stored : ℕ) where
  next_turn : (left : ℕ) (a : Address) (next : ℕ) (h : Head) (q : List ℕ) (d : Result ℕ ParameterError) (y : Reply) → step_at s at ≡ Some (a, next) → block_at s from ≡ Some h → Did (change_one a (block_in s from) p) q d → length q ≡ length p → y ≡ with_block (answer_in d) x → Changing s n p₀ p x₀ x at from (suc left) stored → Changing s n p₀ q x₀ y next h.next left (stored + counted d)
  next_turn left a next h q d y e st did kept o c =
      let k = walk_next s at left a next e in
      let l = blocks_next s from left h st c.valued in
      let z = change_one a (block_in s from) p in
      let rest = ahead s left next h.next q in
      let turned : ahead s (suc left) at from p ≡ follow z rest = ap (λ (as' : List Address). change_all as' (blocks_in (suc left) s from) p) k ∙ (ap (λ (bs : List Block). change_all (a ∷ walk left s next) bs p) l ∙ ap (λ (v : List ℕ). follow z (change_all (walk left s next) (blocks_in left s h.next) v)) (sym did.part)) in
      record {
        whole = omega (arith, ap length k);
        valued = omega (arith, ap length l);
        room = omega (arith, ap (λ (v : Reply). v.next) o, answer_short d, c.room);
        few = omega (arith, did.few, c.few);
        kept = kept ∙ c.kept;
        blocks =
            ap (with_blocks rest.blocks) o
            ∙ (ap (λ (b : Block). with_blocks rest.blocks (with_block b x)) did.block
            ∙ (ap (λ (v : ChangedAll). with_blocks v.blocks x) (sym turned) ∙ c.blocks));
        leaves = ap (λ (v : ChangedAll). v.part) (sym turned) ∙ c.leaves;
        counts = omega (arith, did.stored, ap (λ (v : ChangedAll). v.stored) turned, c.counts);
      }

  pub turn : (left : ℕ) (a : Address) (next : ℕ) (h : Head) (q : List ℕ) (d : Result ℕ ParameterError) (y : Reply) → 0 < left → step_at s at ≡ Some (a, next) → block_at s from ≡ Some h → Did (change_one a (block_in s from) p) q d → length q ≡ length p → y ≡ with_block (answer_in d) x → Changing s n p₀ p x₀ x at from left stored → Changing s n p₀ q x₀ y next h.next (left - 1) (stored + counted d)
  turn zero a next h q d y z e st did kept o c = absurd (omega arith)
  turn (suc left) a next h q d y z e st did kept o c = rw sub-one (next_turn left a next h q d y e st did kept o c)

  pub finish : (left : ℕ) → left ≡ 0 → Changing s n p₀ p x₀ x at from left stored → DidAll (ahead s n 4 (4 + n * 6) p₀) p x₀ x stored
  finish left z c =
      let none : ahead s left at from p ≡ record { blocks = []; part = p; stored = 0 } = rw z in
      record {
        wrote = ap (λ (v : ChangedAll). with_blocks v.blocks x) (sym none) ∙ c.blocks;
        part = ap (λ (v : ChangedAll). v.part) (sym none) ∙ c.leaves;
        stored = omega (arith, ap (λ (v : ChangedAll). v.stored) none, c.counts);
      }
