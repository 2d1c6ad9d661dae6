-- What a frame owes.
use mathlib.Core.Path.{◌≡◌, refl, sym, ap, ap₂, ◌∙◌}
use mathlib.Core.Bool.{Bool, true, false, cond, not, ◌&&◌, ◌||◌, true≢false}
use mathlib.Core.List.{List, []}
use Prim.Native.Nat.{ℕ, zero, suc}
use native.Mathlib.Omega.{arith}
use lib.Dec.{eqb}
use lib.ListN.{length}
use borrow.Author.Tests.{eqb-true}
use Rattle.part.specs.Layout.{part_size, waiting_length, waiting, with_response, used_up}
use Rattle.part.specs.WellFormed.{well_formed}
use Rattle.part.proofs.Laws.{response_length, no_response_well_formed}
use Rattle.access.specs.Work.{outcome_of}
use Rattle.access.proofs.Lengths.{outcome_length}
use Rattle.access.proofs.Keeps.{block_keeps_well_formed}
use Rattle.station.specs.Frame.{is_write, is_read, block_of, frame_refusal, frame_answer, frame_reply, frame_part}
use Rattle.station.specs.Calls.{frame, to_frame, refused_frame, kind_of}
use Rattle.station.specs.Owed.{Owes}
use Rattle.station.proofs.Tests.{one_of}
use Rattle.station.proofs.Outcome.{Versioned, responded_versioned, outcome_numbers, outcome_versioned}
use Rattle.station.proofs.Judged.{done_passes}
use Rattle.station.proofs.Says.{later}
use Rattle.station.proofs.Frames.{refused_frame_lem}

-- a frame that is done and is no read is a write, in its turn: nothing waits
turned : (write reads none : Bool) → reads ≡ false → write || reads ≡ true → (write && not none || reads && none) ≡ false → (write ≡ true) × (none ≡ true)
turned true reads true x r t = (refl, refl)
turned true reads false x r t = absurd (true≢false t)
turned false reads none x r t = absurd (true≢false (sym r ∙ x))

pub writes : (k : ℕ) (f : List ℕ) (m : ℕ) (p : List ℕ) → frame_refusal k f m p ≡ 0 → is_read f ≡ false → (is_write f ≡ true) × (waiting_length p ≡ 0)
writes k f m p e isnt =
    let c = done_passes k f m p e in
    let t = turned (is_write f) (is_read f) (eqb (waiting_length p) 0) isnt c.function c.turn in
    (t.0, eqb-true (waiting_length p) 0 t.1)

module _ (k : ℕ) (f m : List ℕ) where
  refuses : (p : List ℕ) (n : ℕ) → frame_refusal k f (length m) p ≡ suc n
      → (to_frame (frame_answer k f m p) (frame_reply k f m p) ≡ refused_frame f m (suc n)) × (frame_part k f m p ≡ p)
  refuses p n e =
      let r = refused_frame_lem k f m p (suc n) e (λ z. omega arith) in
      (ap₂ to_frame (sym r.0) (sym r.1.0), sym r.1.1)

  waits : (p : List ℕ) → is_read f ≡ false → (waiting_length p ≡ 0 → ⊥) → waiting (frame_part k f m p) ≡ waiting p
  waits p isnt some = go (frame_refusal k f (length m) p) refl
    where
      go : (n : ℕ) → frame_refusal k f (length m) p ≡ n → waiting (frame_part k f m p) ≡ waiting p
      go zero e = absurd (some (writes k f (length m) p e isnt).1)
      go (suc n) e = ap waiting (refuses p n e).1

  versioned : (p : List ℕ) → length p ≡ part_size → Versioned p (frame_answer k f m p).stored (frame_part k f m p)
  unfolding frame_answer frame_part
  versioned p size = go (eqb (frame_refusal k f (length m) p) 0) (is_write f)
    where
      go : (none write : Bool)
          → Versioned p (cond (none && write) (outcome_of k (block_of f) p).stored 0) (cond none (cond write (outcome_of k (block_of f) p).part (with_response [] p)) p)
      go true true = outcome_versioned k (block_of f) p size
      go true false = responded_versioned p p [] 0 (omega arith) refl
      go false write = refl

  pub frame_owes : Owes (kind_of (frame k f m))
  unfolding frame_answer frame_refusal frame_part
  frame_owes =
      record {
        names = λ n. refl;
        empty = λ n. refl;
        numbered = λ p. refl;
        later = later k f (length m);
        refuses = refuses;
        sized = λ p h.
            one_of (λ (l : List ℕ). length l ≡ part_size) (eqb (frame_refusal k f (length m) p) 0) _ _
            (one_of (λ (l : List ℕ). length l ≡ part_size) (is_write f) _ _ (outcome_length k (block_of f) p ∙ h) (response_length _ p ∙ h))
            h;
        formed = λ p fits w.
            one_of (λ (l : List ℕ). well_formed k l ≡ true) (eqb (frame_refusal k f (length m) p) 0) _ _
            (one_of (λ (l : List ℕ). well_formed k l ≡ true) (is_write f) _ _ (block_keeps_well_formed k (block_of f) p w) (no_response_well_formed k p w))
            w;
        waits = waits;
        versioned = versioned;
        numbers = λ p.
            one_of (λ (n : ℕ). (n ≡ 0 → ⊥) → used_up p ≡ false) (eqb (frame_refusal k f (length m) p) 0 && is_write f) _ 0
            (outcome_numbers k (block_of f) p) (λ some. absurd (some refl));
      }
