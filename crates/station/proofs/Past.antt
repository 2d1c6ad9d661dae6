-- Past the reply, the reply memory is as it was, whatever a frame or a merged call answers.
use mathlib.Core.Path.{◌≡◌, refl, sym, subst, ◌∙◌}
use mathlib.Core.Bool.{Bool, true, false}
use mathlib.Core.List.{List}
use Prim.Native.Nat.{ℕ, zero, suc, ◌+◌, ◌≤◌}
use native.Mathlib.Omega.{arith}
use lib.ListN.{length, drop}
use Rattle.codes.specs.Number.{put}
use Rattle.codes.proofs.Put.{put_length, put_drop}
use Rattle.station.specs.Parts.{part_of, station_refusal}
use Rattle.station.specs.Frame.{is_write, refused_reply, reply_of, frame_refusal, frame_answer, frame_reply, frame_part}
use Rattle.station.specs.Exchange.{FrameDone, fetch_all, no_read}
use Rattle.station.specs.Isolation.{answer}
use Rattle.station.specs.Calls.{Call, exchange, frame_by, Answer, to_cycle, to_frame, to_list, to_return, kind_of, owner, kinds}
use Rattle.station.specs.Laws.{PastStays}
use Rattle.station.proofs.Isolation.{took_answer, gave_answer}
use Rattle.station.proofs.FrameOwes.{writes}
use Rattle.station.proofs.ExchangeOwes.{unread, both, refuses, fetch_done, turns}
use Rattle.station.proofs.Refusals.{refused_by, refused_bound, reply_bound}

-- past a reply of its length, a reply memory is as m was
Past : List ℕ → Answer → Type 0
Past m (to_frame a w) = (a.length ≤ 244) × (length w ≡ length m) × (drop a.length w ≡ drop a.length m)
Past m (to_cycle a) = Unit {0}
Past m (to_list a) = Unit {0}
Past m (to_return a) = Unit {0}

past_put : (m reply : List ℕ) → length reply ≤ 244
    → (length reply ≤ 244) × (length (put m 0 reply) ≡ length m) × (drop (length reply) (put m 0 reply) ≡ drop (length reply) m)
past_put m reply short = (short, put_length m 0 reply, put_drop m 0 reply (length reply) (omega arith))

-- the acknowledgement of a write that is done is no longer than what is fetched after it
past_both :
    (k : ℕ) (f m p : List ℕ) → is_write f ≡ true → frame_refusal k f (length m) p ≡ 0
    → frame_refusal k fetch_all (length (frame_reply k f m p)) (frame_part k f m p) ≡ 0
    → Past m (to_frame (both k f m p).told (both k f m p).reply)
unfolding Past frame_answer frame_reply
past_both k f m p is e sent =
    let head : List ℕ = reply_of f p (frame_refusal k f (length m) p) in
    let reply : List ℕ = reply_of fetch_all (frame_part k f m p) (frame_refusal k fetch_all (length (frame_reply k f m p)) (frame_part k f m p)) in
    let longer : 0 + length head ≤ length reply = rw (sent, e, is) (omega arith) in
    let x = past_put (frame_reply k f m p) reply (reply_bound fetch_all (frame_part k f m p) (frame_refusal k fetch_all (length (frame_reply k f m p)) (frame_part k f m p))) in
    (x.0, x.1 ∙ put_length m 0 head, x.2 ∙ put_drop m 0 head (length reply) longer)

past_merged : (k : ℕ) (f m p : List ℕ) → Past m ((kind_of (exchange k f m)).answers p)
unfolding Past
past_merged k f m p = go (frame_refusal k (no_read f) (length m) p) refl
  where
    go : (n : ℕ) → frame_refusal k (no_read f) (length m) p ≡ n → Past m ((kind_of (exchange k f m)).answers p)
    go zero e =
        let is = (writes k (no_read f) (length m) p e (unread f)).0 in
        subst (λ (x : FrameDone). Past m (to_frame x.told x.reply)) (sym (turns k f m p e)) (past_both k (no_read f) m p is e (fetch_done k f m p e))
    go (suc n) e = subst (Past m) (sym (refuses k f m p n e).0) (past_put m (refused_reply f (suc n)) (refused_bound f (suc n)))

past_answers : (merged : Bool) (k : ℕ) (f m p : List ℕ) → Past m ((kind_of (frame_by merged k f m)).answers p)
unfolding Past frame_answer frame_reply
past_answers false k f m p = past_put m (reply_of f p (frame_refusal k f (length m) p)) (reply_bound f p (frame_refusal k f (length m) p))
past_answers true k f m p = past_merged k f m p

-- so of the answer on a station, which is a refusal or that of the part
past_answer : (c : Call) (m s : List ℕ) → ((n : ℕ) → Past m ((kind_of c).refused n)) → ((p : List ℕ) → Past m ((kind_of c).answers p)) → Past m (answer kinds c s)
past_answer c m s stopped worked = go (station_refusal (owner c) (length s)) refl
  where
    go : (n : ℕ) → station_refusal (owner c) (length s) ≡ n → Past m (answer kinds c s)
    go zero e = subst (Past m) (sym (took_answer kinds c s e)) (worked (part_of (owner c) s))
    go (suc n) e = subst (Past m) (sym (gave_answer kinds c s n e)) (stopped (suc n))

pub past_stays : PastStays
unfolding Past
past_stays merged k f m s a w e =
    subst (Past m) e
    (past_answer (frame_by merged k f m) m s
    (λ n. subst (Past m) (sym (refused_by merged k f m n)) (past_put m (refused_reply f n) (refused_bound f n)))
    (past_answers merged k f m))
