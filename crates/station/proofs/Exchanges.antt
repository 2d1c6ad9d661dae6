-- What the code of a merged call has to show at each of its returns.
use mathlib.Core.Path.{◌≡◌, refl, sym, ap, ap₂, ◌∙◌}
use mathlib.Core.Bool.{true, false}
use mathlib.Core.List.{List, []}
use Prim.Native.Nat.{ℕ, ◌+◌, ◌-◌, ◌≤◌}
use lib.ListN.{length}
use borrow.Rule.Slice.PartMut.{put_mid}
use Rattle.codes.specs.Number.{put}
use Rattle.blocks.specs.Block.{block_limit}
use Rattle.part.specs.Layout.{part_size, waiting_length, with_response}
use Rattle.station.specs.declared.Framed.{Framed}
use Rattle.station.specs.Parts.{part_of}
use Rattle.station.specs.Frame.{is_write, is_read, frame_refusal, frame_answer, frame_reply, frame_part}
use Rattle.station.specs.Inner.{fetched, framed}
use Rattle.station.specs.Exchange.{fetch_all, no_read}
use Rattle.station.specs.Isolation.{answer, after}
use Rattle.station.specs.Calls.{frame, exchange, to_frame, number_in, kinds}
use Rattle.std.specs.declared.ops.Range.{Range}
use Rattle.station.specs.Inner.{Place, Lent}
use Rattle.station.proofs.Answers.{lends, does}
use Rattle.station.proofs.Judged.{Passed, done_passes}
use Rattle.station.proofs.Frames.{formed, fetched_frame}
use Rattle.station.proofs.FrameOwes.{writes}
use Rattle.station.proofs.ExchangeOwes.{itself, done_unread, fetch_done}
use Rattle.station.proofs.Isolation.{Right, took_answer, fine, length_after, own}
use Rattle.station.proofs.Owes.{sized}
use Rattle.station.proofs.Refusals.{was_done}
use Rattle.station.proofs.Merged.{reply_in, refused_alike, in_turn}

-- what its write answered, and left of the station s
module _ (k : ℕ) (f m s : List ℕ) (a : Framed) (r t : List ℕ)
    (told : to_frame a r ≡ answer kinds (frame k (no_read f) m) s) (left : t ≡ after kinds (frame k (no_read f) m) s) where
  pub stops : (a.number ≡ 0 → ⊥) → (to_frame a r ≡ answer kinds (exchange k f m) s) × (t ≡ after kinds (exchange k f m) s)
  stops z =
      let alike = refused_alike k f m s (λ e. z (ap number_in told ∙ e)) in
      (told ∙ sym alike.0, left ∙ sym alike.1)

  -- the write is done, so it is no read: its response can be handed over, and then the call is
  module _ (done : a.number ≡ 0) where
    abbrev p : List ℕ
    p = part_of k s

    was : Right k (length s) × (number_in (to_frame (frame_answer k (no_read f) m p) (frame_reply k (no_read f) m p)) ≡ 0)
    was = was_done (frame k (no_read f) m) s (sym (ap number_in told) ∙ done)

    pub home : Right k (length t)
    home = record { low = was.0.low; high = was.0.high; size = ap length left ∙ (length_after kinds sized (frame k (no_read f) m) s ∙ was.0.size) }

    isnt : is_read f ≡ false
    unfolding frame_answer
    isnt = done_unread k f (length m) p was.1

    same : no_read f ≡ f
    same = itself k f m p isnt

    wrote : to_frame a r ≡ answer kinds (frame k f m) s
    wrote = told ∙ ap (λ (l : List ℕ). answer kinds (frame k l m) s) same

    went : t ≡ after kinds (frame k f m) s
    went = left ∙ ap (λ (l : List ℕ). after kinds (frame k l m) s) same

    is : is_write f ≡ true
    unfolding frame_answer
    is = (writes k f (length m) p (sym (ap (λ (l : List ℕ). frame_refusal k l (length m) p) same) ∙ was.1) isnt).0

    reply : r ≡ frame_reply k (no_read f) m p
    reply = ap reply_in (told ∙ took_answer kinds (frame k (no_read f) m) s (fine was.0))

    part : part_of k t ≡ frame_part k (no_read f) m p
    part = ap (part_of k) left ∙ own kinds sized (frame k (no_read f) m) s was.0

    passed : Passed k fetch_all (length r) (part_of k t)
    unfolding frame_answer
    passed =
        let sent : frame_refusal k fetch_all (length r) (part_of k t) ≡ 0 = rw (reply, part) (fetch_done k f m p was.1) in
        done_passes k fetch_all (length r) (part_of k t) sent

    pub hands : (length (part_of k t) ≡ part_size) × ((waiting_length (part_of k t) ≤ block_limit) × (4 + block_limit ≤ length r))
    hands = let w = formed k (part_of k t) passed.formed in (w.0, (w.1, passed.room))

    pub lent_again : (r : Range ℕ) → Place k r → Lent k (length t) r
    lent_again r = lends k (length t) r home.low home.high home.size

    pub ends : (place : Range ℕ) → Place k place → (b : Framed) (v u : List ℕ) → b ≡ framed (fetched (part_of k t)) 0 0 → v ≡ put r 0 (fetched (part_of k t)) → u ≡ with_response [] (part_of k t)
        → (to_frame (record { length = b.length; stored = a.stored; number = 0 }) v ≡ answer kinds (exchange k f m) s)
        × (put_mid place.start (place.end - place.start) t u ≡ after kinds (exchange k f m) s)
    ends place at b v u x y z =
        let h = fetched_frame k fetch_all r (part_of k t) passed refl in
        let fetch = does kinds (frame k fetch_all r) t place (lent_again place at) (to_frame b v) u (ap₂ to_frame (x ∙ h.0) (y ∙ h.1.0)) (z ∙ h.1.1) in
        let turn = in_turn k f m s a b r v is (sym wrote) done (ap (answer kinds (frame k fetch_all r)) (sym went) ∙ sym fetch.0) in
        (sym turn.0, fetch.1 ∙ (ap (after kinds (frame k fetch_all r)) went ∙ sym turn.1))
