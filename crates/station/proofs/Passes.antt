-- A write of a farm's own block where nothing waits, and a fetch of what waits, are refused by no number; so a write that was done is
-- followed by a fetch that is.
use mathlib.Core.Path.{◌≡◌, refl, sym, ap, ◌∙◌}
use mathlib.Core.Bool.{true, false, true≢false}
use mathlib.Core.List.{List, [], ◌∷◌}
use Prim.Native.Nat.{ℕ, ◌≤◌}
use native.Mathlib.Omega.{arith}
use lib.Dec.{lit≤}
use lib.ListN.{length, take, drop, length-drop}
use lib.Seq.{length-take-le}
use borrow.Author.Tests.{eq-eqb, ne_eqb, le-leb, le-ltb}
use Rattle.codes.specs.Code.{readable}
use Rattle.codes.proofs.Demand.{written_as}
use Rattle.blocks.specs.declared.Header.{Header}
use Rattle.blocks.specs.Block.{block_limit}
use Rattle.blocks.specs.Request.{Request, request}
use Rattle.blocks.specs.Response.{response}
use Rattle.blocks.specs.Place.{header_of}
use Rattle.blocks.specs.Page.{IsRequest}
use Rattle.blocks.proofs.Request.{request_header}
use Rattle.blocks.proofs.Demand.{requests, request_read}
use Rattle.part.specs.Layout.{response_at, response_room, waiting_length, waiting, with_response}
use Rattle.part.specs.WellFormed.{well_formed}
use Rattle.access.specs.Work.{worked, exhausts_in, outcome_of}
use Rattle.station.specs.Frame.{is_write, block_of, fetch_of, frame_tests, frame_refusal, frame_part}
use Rattle.station.specs.Exchange.{fetch_all}
use Rattle.station.proofs.Judged.{done_passes}
use Rattle.station.proofs.Says.{mine}
use Rattle.station.proofs.Frames.{formed}
use Rattle.station.proofs.Sends.{waits_as_ruled}
use Rattle.station.proofs.FrameOwes.{frame_owes}

-- in a well-formed part as many bytes wait as its length says
pub waits_all : (k : ℕ) (p : List ℕ) → well_formed k p ≡ true → waiting_length p ≡ length (waiting p)
waits_all k p w =
    let f = formed k p w in
    let room : length (response_room p) ≡ block_limit = length-take-le block_limit (drop response_at p) (rw length-drop (omega (arith, f.0))) in
    sym (length-take-le (waiting_length p) (response_room p) (omega (arith, f.1, room)))

-- a write of a readable block of the farm's own axis, and a fetch of what waits, are refused by no number
module _ (k : ℕ) (m p : List ℕ) (w : well_formed k p ≡ true) (room : 244 ≤ length m) where
  pub write_passes :
      (b : List ℕ) → waiting_length p ≡ 0 → length b ≤ block_limit → readable block_limit request b ≡ true → (header_of b).axis ≡ k → exhausts_in p (request.read b) ≡ false
      → frame_refusal k (0x5F ∷ 0 ∷ 0x2F ∷ length b ∷ b) (length m) p ≡ 0
  unfolding frame_refusal
  write_passes b idle short reads mine left =
      rw (w, le-ltb (length m) 244 room, le-ltb (length (0x5F ∷ 0 ∷ 0x2F ∷ length b ∷ b)) 4 (omega arith), le-leb (length b) block_limit short, eq-eqb (length b) (length b) refl, idle, reads, eq-eqb (header_of b).axis k mine, left)

  pub fetch_passes : (n : ℕ) → (waiting_length p ≡ 0 → ⊥) → waiting_length p ≤ n → n ≤ block_limit → frame_refusal k (fetch_of n) (length m) p ≡ 0
  unfolding frame_refusal
  fetch_passes n some enough short = rw (w, le-ltb (length m) 244 room, le-leb n block_limit short, ne_eqb (waiting_length p) 0 some, le-ltb n (waiting_length p) enough)

-- a fetch that is done leaves no response
pub fetched_part : (k : ℕ) (f m p : List ℕ) → frame_refusal k f (length m) p ≡ 0 → is_write f ≡ false → frame_part k f m p ≡ with_response [] p
unfolding frame_part
fetched_part k f m p e isnt = rw (e, isnt) refl

-- a write that is done, on the part p, with the reply memory m
module _ (k : ℕ) (f m p : List ℕ) (e : frame_refusal k f (length m) p ≡ 0) (is : is_write f ≡ true) where
  was_formed : well_formed k p ≡ true
  was_formed = (done_passes k f (length m) p e).formed

  pub left_formed : well_formed k (frame_part k f m p) ≡ true
  left_formed = (frame_owes k f m).formed p tt was_formed

  tested : frame_tests k f (length m) p ≡ 0
  unfolding frame_refusal
  tested = rw was_formed at e

  pub left_is : frame_part k f m p ≡ (outcome_of k (block_of f) p).part
  unfolding frame_part
  left_is = rw (e, is) refl

  -- the request that it writes, and what then waits
  pub wrote : (r : Request) × IsRequest (block_of f) r
  wrote = written_as requests (block_of f) (mine k f (length m) p tested is).reads

  pub waits_then :
      (waiting (frame_part k f m p) ≡ response.write (worked wrote.0 p).response)
      × (readable block_limit response (waiting (frame_part k f m p)) ≡ true)
  waits_then =
      let my = mine k f (length m) p tested is in
      let read = request_read (block_of f) wrote.0 wrote.1 in
      let axis : wrote.0.axis ≡ k = sym (ap (λ (h : Header). h.axis) (request_header (block_of f) wrote.0 [] read)) ∙ my.axis in
      let good = waits_as_ruled k (block_of f) p wrote.0 (formed k p was_formed).0 my.reads read axis (sym (ap (exhausts_in p) read) ∙ my.left) in
      (ap waiting left_is ∙ good.0, ap (λ (l : List ℕ). readable block_limit response (waiting l)) left_is ∙ good.1)

  pub something_waits : waiting_length (frame_part k f m p) ≡ 0 → ⊥
  unfolding readable response
  something_waits none =
      let empty : waiting (frame_part k f m p) ≡ [] = ap (λ (n : ℕ). take n (response_room (frame_part k f m p))) none in
      true≢false (sym waits_then.1 ∙ ap (readable block_limit response) empty)

  pub fetch_next : (w : List ℕ) → 244 ≤ length w → frame_refusal k fetch_all (length w) (frame_part k f m p) ≡ 0
  fetch_next w room =
      fetch_passes k w (frame_part k f m p) left_formed room 0xF0 something_waits (formed k (frame_part k f m p) left_formed).1 (lit≤ tt)
