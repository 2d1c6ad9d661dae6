-- Blocks put one after the other are put as a whole.
use mathlib.Core.Path.{◌≡◌, refl, ◌∙◌, ap}
use mathlib.Core.Bool.{Bool, true, false, ◌||◌}
use mathlib.Core.List.{List, [], ◌∷◌}
use Prim.Native.Nat.{ℕ, ◌+◌, ◌≤◌}
use native.Mathlib.Omega.{arith}
use native.Mathlib.Nat.{add-zero, add_assoc}
use lib.ListN.{length, length-append}
use Rattle.codes.specs.Code.{write_all}
use Rattle.codes.specs.Number.{put}
use Rattle.codes.proofs.Put.{put_none, put_length, put_append}
use Rattle.blocks.specs.Block.{Block}
use Rattle.blocks.specs.Page.{block_bytes}
use Rattle.blocks.specs.Response.{is_error, has_error}
use Rattle.access.specs.declared.reply.Reply.{Reply}
use Rattle.access.specs.Walk.{with_blocks}

-- bytes, where the next block goes, and whether an error stands there
abbrev pub sofar : List ℕ → ℕ → Bool → Reply
sofar l at e = record { bytes = l; next = at; error = e }

-- blocks are put at a place of l; y says where the next goes, and whether one was an error
pub record WroteAll (l : List ℕ) (at : ℕ) (bs : List Block) (y : Reply) : Type 0 where
  pub bytes : y.bytes ≡ put l at (write_all block_bytes bs)
  pub next : y.next ≡ at + length (write_all block_bytes bs)
  pub error : y.error ≡ has_error bs

-- no error more, and one
pub or_none : (a : Bool) → a ≡ (a || false)
or_none true = refl
or_none false = refl

pub or_one : (a : Bool) → true ≡ (a || true)
or_one true = refl
or_one false = refl

or_assoc : (a b c : Bool) → (a || b) || c ≡ a || (b || c)
or_assoc true b c = refl
or_assoc false b c = refl

filled : (bs : List Block) (l : List ℕ) (at : ℕ) (e : Bool) → at + length (write_all block_bytes bs) ≤ length l → with_blocks bs (sofar l at e) ≡ sofar (put l at (write_all block_bytes bs)) (at + length (write_all block_bytes bs)) (e || has_error bs)
unfolding has_error
filled [] l at e h = rw (put_none, add-zero, ← or_none e)
filled (b ∷ bs) l at e h =
    let bb = block_bytes b in
    let rest = write_all block_bytes bs in
    let n = length-append bb rest in
    filled bs (put l at bb) (at + length bb) (e || is_error b) (omega (arith, put_length l at bb))
    ∙ rw (put_append l at bb rest (omega arith), add_assoc, ← n, or_assoc e (is_error b) (has_error bs)) refl

pub all_wrote : (bs : List Block) (l : List ℕ) (at : ℕ) (y : Reply) → at + length (write_all block_bytes bs) ≤ length l → y ≡ with_blocks bs (sofar l at false) → WroteAll l at bs y
all_wrote bs l at y h e =
    let f = e ∙ filled bs l at false h in
    record {
      bytes = ap (λ (x : Reply). x.bytes) f;
      next = ap (λ (x : Reply). x.next) f;
      error = ap (λ (x : Reply). x.error) f;
    }
