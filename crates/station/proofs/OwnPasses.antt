-- Every response of our own passes the checker for the request that was written.
use mathlib.Core.Path.{◌≡◌, refl, sym, ap, ◌∙◌}
use mathlib.Core.Bool.{true, false}
use mathlib.Core.List.{List, [], ◌∷◌}
use Prim.Native.Nat.{ℕ, ◌-◌, ◌≤◌}
use native.Mathlib.Omega.{arith}
use lib.Dec.{eqb}
use lib.ListN.{length, take, drop}
use lib.Seq.{take_at}
use borrow.Author.Tests.{eqb-true}
use Rattle.blocks.specs.Request.{Request}
use Rattle.blocks.specs.Page.{response_bytes, IsRequest}
use Rattle.blocks.proofs.Page.{response_bytes_lem}
use Rattle.checker.specs.Check.{check_of}
use Rattle.checker.proofs.Laws.{yes_exactly}
use Rattle.access.specs.Work.{worked}
use Rattle.access.proofs.Answers.{answer_fits, answer_short}
use Rattle.access.proofs.Passing.{answer_passes}
use Rattle.part.specs.Layout.{waiting}
use Rattle.station.specs.declared.Framed.{Framed}
use Rattle.station.specs.Parts.{part_of}
use Rattle.station.specs.Frame.{function, is_write, block_of, frame_refusal, frame_answer, frame_reply, frame_part}
use Rattle.station.specs.Exchange.{fetch_all}
use Rattle.station.specs.Runs.{run_end}
use Rattle.station.specs.Calls.{frame, Answer, to_frame, number_in, kinds}
use Rattle.station.specs.Laws.{replied, block_sent, FetchedPasses, MergedPasses}
use Rattle.station.proofs.Judged.{done_passes}
use Rattle.station.proofs.Isolation.{took_answer, fine}
use Rattle.station.proofs.Refusals.{was_done}
use Rattle.station.proofs.Passes.{wrote, waits_then}
use Rattle.station.proofs.Responds.{hands_over, fetch_follows}
use Rattle.station.proofs.Merged.{told_in, reply_in, in_turn, was_written}
use Rattle.station.proofs.Past.{past_stays}

-- what the rules answer to a request passes for it
ruled_passes : (s p : List ℕ) (q : Request) → IsRequest s q → check_of s (response_bytes (worked q p).response) ≡ 0
ruled_passes s p q i =
    (yes_exactly s _).1
    (record {
      request = q;
      response = (worked q p).response;
      is_request = i;
      is_response = record { fits = answer_fits q p i.fits; bytes = refl; short = answer_short q p i.fits };
      answers = answer_passes q p i.fits;
    })

-- the block of a reply is what was handed over
block_is :
    (a : Framed) (w' bs w : List ℕ) (stored : ℕ) → to_frame a w' ≡ replied (0x5E ∷ 0 ∷ 0x2F ∷ length bs ∷ bs) stored w
    → block_sent a w' ≡ bs
block_is a w' bs w stored e =
    let long : a.length - 4 ≡ length bs = omega (arith, ap (λ (x : Answer). (told_in x).length) e) in
    let past : List ℕ = drop (length (0x5E ∷ 0 ∷ 0x2F ∷ length bs ∷ bs)) w in
    ap (λ (n : ℕ). take n (drop 4 w')) long ∙ (ap (λ (x : Answer). take (length bs) (drop 4 (reply_in x))) e ∙ take_at bs past (length bs) refl)

-- what waits after a write that was done passes for its block
waiting_passes :
    (k : ℕ) (f m p : List ℕ) → frame_refusal k f (length m) p ≡ 0 → is_write f ≡ true
    → (a : Framed) (w' w : List ℕ) (stored : ℕ) → let bs = waiting (frame_part k f m p) in to_frame a w' ≡ replied (0x5E ∷ 0 ∷ 0x2F ∷ length bs ∷ bs) stored w
    → check_of (block_of f) (block_sent a w') ≡ 0
waiting_passes k f m p done is a w' w stored e =
    let q = wrote k f m p done is in
    ap (check_of (block_of f)) (block_is a w' (waiting (frame_part k f m p)) w stored e ∙ ((waits_then k f m p done is).0 ∙ response_bytes_lem (worked q.0 p).response))
    ∙ ruled_passes (block_of f) p q.0 q.1

pub fetched_passes : FetchedPasses
unfolding frame_answer
fetched_passes k f m s between g w a w' is z calls reads e n =
    let isnt : is_write g ≡ false = ap (λ (x : ℕ). eqb x 0x5F) (eqb-true (function g) 0x5E reads) in
    waiting_passes k f m (part_of k s) (was_done (frame k f m) s z).1 is a w' w 0 (sym e ∙ hands_over k f m s between is z calls g w isnt (ap number_in e ∙ n))

pub merged_passes : MergedPasses
unfolding run_end frame_answer
merged_passes k f m s a w e n =
    let write = was_written k f m s (ap number_in e ∙ n) in
    let done = was_done (frame k f m) s write.1 in
    let p : List ℕ = part_of k s in
    let m' : List ℕ = frame_reply k f m p in
    let first = took_answer kinds (frame k f m) s (fine done.0) in
    let wide : 244 ≤ length m' = omega (arith, (past_stays false k f m s (frame_answer k f m p) m' first).1, (done_passes k f (length m) p done.1).room) in
    let fetch = hands_over k f m s [] write.0 write.1 tt fetch_all m' refl (fetch_follows k f m s [] m' write.0 write.1 tt wide) in
    waiting_passes k f m p done.1 write.0 a w m' (frame_answer k f m p).stored
    (sym e ∙ (in_turn k f m s (frame_answer k f m p) _ m' _ write.0 first done.1 fetch).0)
