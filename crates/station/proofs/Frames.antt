-- What a frame answers and leaves, by the way it takes: refused, a write that is worked, a read that is answered.
use mathlib.Core.Path.{◌≡◌, refl, sym, ◌∙◌}
use mathlib.Core.Bool.{Bool, true, false, cond, ◌&&◌, ◌||◌}
use mathlib.Core.List.{List, [], ◌∷◌}
use Prim.Native.Nat.{ℕ, ◌+◌, ◌-◌, ◌≤◌}
use lib.Dec.{eqb, leb}
use native.Mathlib.Omega.{arith}
use lib.ListN.{length, take, drop, length-drop}
use lib.Seq.{length-take-le, take_all, take-take}
use borrow.Author.Tests.{ne_eqb, eqb-true, eqb-false, leb-true}
use Rattle.codes.specs.Code.{readable}
use Rattle.codes.specs.Number.{put}
use Rattle.codes.proofs.Put.{put_append}
use Rattle.codes.proofs.Demand.{both}
use Rattle.blocks.specs.Block.{block_limit}
use Rattle.blocks.specs.Place.{header_of}
use Rattle.blocks.specs.Response.{response}
use Rattle.part.specs.Layout.{response_at, response_room, part_size, waiting_length, waiting, with_response}
use Rattle.part.specs.WellFormed.{well_formed, waiting_fits}
use Rattle.part.proofs.Rule.{form_of}
use Rattle.station.specs.Inner.{outcome, fetched, framed}
use Rattle.station.specs.Frame.{length_byte, block_of, is_write, refused_reply, reply_of, frame_refusal, frame_answer, frame_reply, frame_part}
use Rattle.station.proofs.Outcome.{outcome_number, outcome_refused}
use Rattle.station.proofs.Judged.{Passed}

-- a well-formed part has its size, and no more bytes wait than a block has
waits : (w : ℕ) (r t : Bool) → eqb w 0 || leb w block_limit && r && t ≡ true → w ≤ block_limit
waits w r t e = go (eqb w 0) refl
  where
    go : (b : Bool) → eqb w 0 ≡ b → w ≤ block_limit
    go true h = omega (arith, eqb-true w 0 h)
    go false h = leb-true w block_limit (both (leb w block_limit) r (both (leb w block_limit && r) t (rw h at e)).0).0

pub formed : (k : ℕ) (p : List ℕ) → well_formed k p ≡ true → (length p ≡ part_size) × (waiting_length p ≤ block_limit)
unfolding waiting_fits
formed k p e =
    let f = form_of k p e in
    (f.size, waits (waiting_length p) (readable block_limit response (waiting p)) (eqb (header_of (waiting p)).axis k) f.waits)

-- the head of the answer to a read and the w bytes that wait, put side by side
pub handed :
    (w : ℕ) (m p : List ℕ) → w ≡ waiting_length p → w ≤ block_limit → response_at + w ≤ length p → 4 + block_limit ≤ length m
    → (4 + w ≡ length (fetched p))
    × (put (put m 0 (0x5E ∷ 0 ∷ 0x2F ∷ w ∷ [])) 4 (take (response_at + w - response_at) (drop response_at p))
    ≡ put m 0 (fetched p))
handed w m p e h i j =
    let n : response_at + w - response_at ≡ w = omega arith in
    let l : length (take w (drop response_at p)) ≡ w = length-take-le w (drop response_at p) (rw length-drop (omega arith)) in
    let t : take w (response_room p) ≡ take w (drop response_at p) = take-take w block_limit (drop response_at p) h in
    rw (← e, n, t) (
      omega arith,
      put_append m 0 (0x5E ∷ 0 ∷ 0x2F ∷ w ∷ []) (take w (drop response_at p)) (omega arith),
    )

-- the bytes after a frame's head, as the code lends them
pub rest_of : (f : List ℕ) → take (length f - 4) (drop 4 f) ≡ block_of f
rest_of f = take_all (length f - 4) (drop 4 f) (rw length-drop (omega arith))

module _ (k : ℕ) (f m p : List ℕ) where
  pub refused_frame_lem :
      (n : ℕ) → frame_refusal k f (length m) p ≡ n → (n ≡ 0 → ⊥)
      → (framed (refused_reply f n) 0 n ≡ frame_answer k f m p)
      × ((put m 0 (refused_reply f n) ≡ frame_reply k f m p) × (p ≡ frame_part k f m p))
  unfolding frame_answer frame_reply frame_part
  refused_frame_lem n e z = rw (e, ne_eqb n 0 z) (refl, (refl, refl))

  -- a write's block, refused or worked
  pub block_refused :
      (n : ℕ) → n ≡ (outcome k f p).number → (n ≡ 0 → ⊥)
      → (framed (refused_reply f n) 0 n ≡ framed (reply_of f p (outcome k f p).number) (outcome k f p).stored (outcome k f p).number)
      × (put m 0 (refused_reply f n) ≡ put m 0 (reply_of f p (outcome k f p).number))
  block_refused n e z =
      let o = (outcome_refused k (block_of f) p (λ h. z (e ∙ h))).0 in
      rw (o, ← e, ne_eqb n 0 z) (refl, refl)

  pub block_worked :
      (s : ℕ) → is_write f ≡ true → 0 ≡ (outcome k f p).number → s ≡ (outcome k f p).stored
      → (framed (0x5F ∷ 0 ∷ 0x2F ∷ length_byte f ∷ []) s 0 ≡ framed (reply_of f p (outcome k f p).number) (outcome k f p).stored (outcome k f p).number)
      × (put m 0 (0x5F ∷ 0 ∷ 0x2F ∷ length_byte f ∷ []) ≡ put m 0 (reply_of f p (outcome k f p).number))
  block_worked s w e h = rw (← e, ← h, w) (refl, refl)

  pub write_number : Passed k f (length m) p → is_write f ≡ true → frame_refusal k f (length m) p ≡ (outcome k f p).number
  write_number h w = h.number ∙ rw w (sym (outcome_number k (block_of f) p))

  -- a refused block stores nothing
  kept :
      (b : Bool) → eqb (outcome k f p).number 0 ≡ b
      → ((outcome k f p).stored ≡ cond (b && true) (outcome k f p).stored 0)
      × ((outcome k f p).part ≡ cond b (outcome k f p).part p)
  kept true e = (refl, refl)
  kept false e = outcome_refused k (block_of f) p (eqb-false (outcome k f p).number 0 e)

  pub written_frame :
      Passed k f (length m) p → is_write f ≡ true
      → (framed (reply_of f p (outcome k f p).number) (outcome k f p).stored (outcome k f p).number ≡ frame_answer k f m p)
      × ((put m 0 (reply_of f p (outcome k f p).number) ≡ frame_reply k f m p) × ((outcome k f p).part ≡ frame_part k f m p))
  unfolding frame_answer frame_reply frame_part
  written_frame h w =
      let t = kept (eqb (outcome k f p).number 0) refl in
      rw (write_number h w, w, ← t.0, ← t.1) (refl, (refl, refl))

  pub fetched_frame :
      Passed k f (length m) p → is_write f ≡ false
      → (framed (fetched p) 0 0 ≡ frame_answer k f m p)
      × ((put m 0 (fetched p) ≡ frame_reply k f m p) × (with_response [] p ≡ frame_part k f m p))
  unfolding frame_answer frame_reply frame_part
  fetched_frame h w = let e : frame_refusal k f (length m) p ≡ 0 = h.number ∙ rw w in rw (e, w) (refl, (refl, refl))
