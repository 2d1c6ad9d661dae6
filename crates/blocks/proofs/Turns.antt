-- A loop over blocks: what is left to read from where it stands is what was to be read at first.
use Rattle.std.specs.Prelude.{Some, None}
use mathlib.Core.Path.{◌≡◌, refl, sym, ◌∙◌, ap}
use mathlib.Core.List.{List, ◌∷◌}
use mathlib.Core.Bool.{Bool, true, false, not, ◌||◌}
use Prim.Native.Nat.{ℕ, zero, suc, ◌-◌, ◌≤◌, ◌<◌}
use native.Mathlib.Omega.{arith}
use native.Mathlib.Numerals.{sub-one}
use lib.ListN.{length, drop, drop_of_length-le}
use lib.Seq.{drop-cons}
use lib.Dec.{eqb}
use borrow.Author.Tests.{eq-eqb, ne_eqb}
use native.Mathlib.Decide.{dec_le}
use Rattle.codes.specs.Code.{Got, got, bad, and_then, read_times, is_whole}
use Rattle.blocks.specs.Block.{Block, block}
use Rattle.blocks.specs.Response.{is_error, has_error}
use Rattle.blocks.specs.Walk.{block_by, map_got, standing, Walked, erring}
use Rattle.blocks.specs.declared.Reached.{Reached}
use Rattle.blocks.specs.declared.Head.{Head}
use Rattle.blocks.proofs.Blocks.{block_stands, block_falls}

-- n blocks read from s, with the errors met before them
abbrev ahead : Bool → (ℕ → ℕ → Bool) → ℕ → List ℕ → Got Bool
ahead error fits n s = map_got (λ bs. error || has_error bs) (read_times (block fits).read n s)

or_assoc : (a b c : Bool) → a || (b || c) ≡ (a || b) || c
or_assoc true b c = refl
or_assoc false b c = refl

pub or-false : (a : Bool) → a || false ≡ a
or-false true = refl
or-false false = refl

module _ (fits : ℕ → ℕ → Bool) (s : List ℕ) (error : Bool) where
  -- a block was read: the next turn
  turn : (x : Block) (t : List ℕ) (left : ℕ) → 0 < left → (block fits).read s ≡ got x t → ahead (error || is_error x) fits (left - 1) t ≡ ahead error fits left s
  unfolding has_error
  turn x t zero h e = absurd (omega arith)
  turn x t (suc l) h e = rw (sub-one, e) (tails (read_times (block fits).read l t))
    where
      tails : (g : Got (List Block)) → map_got (λ bs. (error || is_error x) || has_error bs) g ≡ map_got (λ bs. error || has_error bs) (and_then g (λ bs u. got (x ∷ bs) u))
      tails (got bs u) = ap (λ (y : Bool). got y u) (sym (or_assoc error (is_error x) (has_error bs)))
      tails bad = refl

  -- no block was read: nothing is
  halt : (left : ℕ) → 0 < left → (block fits).read s ≡ bad → bad ≡ ahead error fits left s
  halt zero h e = absurd (omega arith)
  halt (suc l) h e = rw e

-- A walk over n blocks by a rule: the blocks that are left to read from where it stands, with the errors met, are those that were to be read
-- at first.
pub record Walking (fits : ℕ → ℕ → Bool) (s : List ℕ) (from n at left : ℕ) (error : Bool) : Type 0 where
  pub inside : at ≤ length s
  pub todo : ahead error fits left (drop at s) ≡ map_got has_error (read_times (block fits).read n (drop from s))

pub walk_starts : (fits : ℕ → ℕ → Bool) (s : List ℕ) (from n : ℕ) → from ≤ length s → Walking fits s from n from n false
unfolding has_error
walk_starts fits s from n h = record { inside = h; todo = refl }

module _ (fits : ℕ → ℕ → Bool) (s : List ℕ) (from n at left : ℕ) (error : Bool) (w : Walking fits s from n at left error) where
  abbrev found : Got Bool
  found = map_got has_error (read_times (block fits).read n (drop from s))

  module _ (h : 0 < left) where
    pub walk_stops : block_by fits s at ≡ None → Walked s found None
    walk_stops e = record { stands = halt fits (drop at s) error left h (block_falls fits s at e) ∙ w.todo; in_block = tt }

    pub walk_goes_on : (head : Head) (x : Bool) → block_by fits s at ≡ Some head → x ≡ (error || eqb head.format 0x44) → Walking fits s from n head.next (left - 1) x
    walk_goes_on head x e ex =
        let stood = block_stands fits s at head e in
        record {
          inside = stood.inside;
          todo =
              ap (λ (y : Bool). ahead y fits (left - 1) (drop head.next s)) (ex ∙ ap (λ (f : ℕ). error || eqb f 0x44) stood.format)
              ∙ (turn fits (drop at s) error stood.it (drop head.next s) left h stood.read ∙ w.todo);
        }

  pub walk_ends : left ≡ 0 → Walked s found (Some (record { at = at; error = error }))
  unfolding has_error
  walk_ends z =
      record {
        stands =
            ap (λ (x : Bool). got x (drop at s)) (sym (or-false error))
            ∙ (ap (λ (k : ℕ). ahead error fits k (drop at s)) (sym z) ∙ w.todo);
        in_block = w.inside;
      }

-- a walk is whole where it stands at the slice's end, if it met the error that it needs
module _ (s : List ℕ) (r : Reached) (need : Bool) where
  pub met : r.at ≤ length s → not need || r.error ≡ true → eqb r.at (length s) ≡ is_whole (erring need (standing s (Some r)))
  met h t = rw t (go (dec_le (length s) r.at))
    where
      go : Dec (length s ≤ r.at) → eqb r.at (length s) ≡ is_whole (got r.error (drop r.at s))
      go (yes y) = rw (drop_of_length-le s y, eq-eqb r.at (length s) (omega arith))
      go (no n) = rw (drop-cons s r.at 0 (omega arith), ne_eqb r.at (length s) (λ z. n (omega arith)))
