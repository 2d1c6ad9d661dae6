-- The loop over the addresses of a request: what is left to answer from where it stands is what was to be answered at first.
use Rattle.std.specs.Prelude.{Some, None}
use mathlib.Core.Path.{◌≡◌, refl, sym, ◌∙◌, ap, subst}
use mathlib.Core.Bool.{Bool, true, false, cond}
use mathlib.Core.List.{List, ◌∷◌}
use Prim.Native.Nat.{ℕ, zero, suc, ◌+◌, ◌-◌, ◌*◌, ◌≤◌, ◌<◌}
use native.Mathlib.Omega.{arith}
use native.Mathlib.Numerals.{sub-one}
use lib.Dec.{leb}
use lib.ListN.{length, drop}
use Rattle.codes.specs.Code.{Got, got, bad}
use Rattle.codes.specs.Number.{value_or}
use Rattle.blocks.specs.Request.{address}
use Rattle.blocks.specs.Block.{block_limit}
use Rattle.blocks.specs.Page.{block_bytes}
use Rattle.blocks.specs.Place.{no_address, address_in, addresses_end, step_of, onward, step_at, walk}
use Rattle.blocks.specs.declared.reader.Address.{Address}
use Rattle.access.specs.declared.reply.Reply.{Reply}
use Rattle.access.specs.Read.{block_size, read_block, read_blocks}
use Rattle.access.specs.Walk.{with_block, with_blocks}
use Rattle.access.proofs.Room.{size_written, block_room}

-- a step of the walk over the addresses that are left
pub walk_next : (s : List ℕ) (at left : ℕ) (a : Address) (next : ℕ) → step_at s at ≡ Some (a, next) → walk (suc left) s at ≡ a ∷ walk left s next
walk_next s at left a next e = ap (onward (walk left s)) e

-- addresses are left, so one stands here
pub step_left : (s : List ℕ) (at left : ℕ) → 0 < left → length (walk left s at) ≡ left → step_at s at ≡ Some (address_in s at, at + 6)
unfolding step_at
step_left s at zero h w = absurd (omega arith)
step_left s at (suc left) h w = go (leb (at + 6) (addresses_end s)) (address.read (drop at s)) w
  where
    go : (b : Bool) (g : Got Address) → length (onward (walk left s) (cond b (step_of (at + 6) g) None)) ≡ suc left → cond b (step_of (at + 6) g) None ≡ Some (value_or no_address g, at + 6)
    go true (got x t) e = refl
    go true bad e = absurd (omega arith)
    go false g e = absurd (omega arith)

pub record Reading (p s : List ℕ) (n : ℕ) (x₀ x : Reply) (at left : ℕ) : Type 0 where
  pub whole : length (walk left s at) ≡ left
  pub room : x.next + 4 * left ≤ block_limit
  pub todo : with_blocks (read_blocks p x.next (walk left s at)) x ≡ with_blocks (read_blocks p 4 (walk n s 4)) x₀

module _ (p s : List ℕ) (n : ℕ) (x₀ x : Reply) (at : ℕ) where
  next_turn : (left : ℕ) (a : Address) (next : ℕ) (y : Reply) → step_at s at ≡ Some (a, next) → y ≡ with_block (read_block p x.next left a) x → Reading p s n x₀ x at (suc left) → Reading p s n x₀ y next left
  next_turn left a next y e o r =
      let more = walk left s next in
      let b = read_block p x.next left a in
      let k = walk_next s at left a next e in
      let whole : length more ≡ left = omega (arith, ap length k) in
      let after : y.next ≡ x.next + length (block_bytes b) = ap (λ (z : Reply). z.next) o in
      let done : x.next + block_size b ≡ y.next = ap (λ (v : ℕ). x.next + v) (size_written b) ∙ sym after in
      record {
        whole = whole;
        room = omega (arith, block_room p x.next left r.room a, after);
        todo =
            ap (with_blocks (read_blocks p y.next more)) o
            ∙ (ap (λ (v : ℕ). with_blocks (read_blocks p v more) (with_block b x)) (sym done)
            ∙ (ap (λ (v : ℕ). let z = read_block p x.next v a in with_blocks (read_blocks p (x.next + block_size z) more) (with_block z x)) (sym whole)
            ∙ (ap (λ (l : List Address). with_blocks (read_blocks p x.next l) x) (sym k) ∙ r.todo)));
      }

  pub turn : (left : ℕ) (a : Address) (next : ℕ) (y : Reply) → 0 < left → step_at s at ≡ Some (a, next) → y ≡ with_block (read_block p x.next (left - 1) a) x → Reading p s n x₀ x at left → Reading p s n x₀ y next (left - 1)
  turn zero a next y h e o r = absurd (omega arith)
  turn (suc left) a next y h e o r = rw sub-one (next_turn left a next y e (subst (λ (v : ℕ). y ≡ with_block (read_block p x.next v a) x) (omega arith) o) r)

  pub finish : (left : ℕ) → left ≡ 0 → Reading p s n x₀ x at left → x ≡ with_blocks (read_blocks p 4 (walk n s 4)) x₀
  finish left z r = ap (λ (v : ℕ). with_blocks (read_blocks p x.next (walk v s at)) x) (sym z) ∙ r.todo
