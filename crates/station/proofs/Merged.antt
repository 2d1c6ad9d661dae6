-- A merged call is its write and the fetch in turn, or the write alone, or for a read no frame at all.
use mathlib.Core.Path.{◌≡◌, refl, sym, ap, subst, ◌∙◌}
use mathlib.Core.Bool.{Bool, true, false, or-false}
use mathlib.Core.List.{List, [], ◌∷◌, ◌++◌}
use Prim.Native.Nat.{ℕ, zero, suc, ◌+◌, ◌-◌, ◌*◌, ◌≤◌, ◌<◌}
use native.Mathlib.Omega.{arith}
use lib.Dec.{eqb, ltb, lit≤}
use lib.ListN.{length, drop, length-append, length-drop}
use lib.Seq.{drop-append-add, drop-drop}
use borrow.Author.Tests.{eqb-true}
use Rattle.blocks.specs.Block.{block_limit}
use Rattle.blocks.specs.Request.{Request}
use Rattle.blocks.specs.Response.{response}
use Rattle.blocks.specs.Page.{RequestFits, request_bytes, response_bytes}
use Rattle.blocks.proofs.Page.{response_bytes_lem}
use Rattle.part.specs.Layout.{part_size, waiting_length, with_response}
use Rattle.part.proofs.Laws.{response_again}
use Rattle.access.specs.Work.{worked, Outcome, exhausts}
use Rattle.access.proofs.Answers.{answer_short}
use Rattle.access.proofs.Keeps.{only_stored_changes}
use Rattle.station.specs.declared.Framed.{Framed}
use Rattle.station.specs.Parts.{part_of, with_part, station_refusal}
use Rattle.station.specs.Frame.{function, is_write, is_read, frame_refusal, frame_answer, frame_reply, frame_part}
use Rattle.station.specs.Exchange.{FrameDone, fetch_all, no_read}
use Rattle.station.specs.Runs.{run_end}
use Rattle.station.specs.Isolation.{answer, after}
use Rattle.station.specs.Calls.{frame, exchange, Answer, to_cycle, to_frame, to_list, to_return, refused_frame, number_in, kinds}
use Rattle.station.specs.Laws.{write_of, InTurn, WriteAlone, ReadAsNone, MergesAsRuled}
use Rattle.station.proofs.Tests.{one_of}
use Rattle.station.proofs.Judged.{done_passes}
use Rattle.station.proofs.Answers.{empty_refused, refusal_small}
use Rattle.station.proofs.Windows.{length_window, with_again}
use Rattle.station.proofs.Isolation.{Right, took_answer, took, gave_answer, gave, fits, fine, new_length, length_after, own}
use Rattle.station.proofs.Sends.{taken_is}
use Rattle.station.proofs.Passes.{fetched_part, left_is}
use Rattle.station.proofs.ExchangeOwes.{alone, done_in_turn}
use Rattle.station.proofs.Owes.{sized}
use Rattle.station.proofs.Refusals.{is_refused, was_done, done_tests}
use Rattle.station.proofs.Responds.{reads, reads_back, responds_as_ruled}

-- a frame's answer, and its reply memory
abbrev pub told_in : Answer → Framed
told_in (to_frame a m) = a
told_in (to_cycle a) = record { length = 0; stored = 0; number = 0 }
told_in (to_list a) = record { length = 0; stored = 0; number = 0 }
told_in (to_return a) = record { length = 0; stored = 0; number = 0 }

abbrev pub reply_in : Answer → List ℕ
reply_in (to_frame a m) = m
reply_in (to_cycle a) = []
reply_in (to_list a) = []
reply_in (to_return a) = []

no_read_lem : (f : List ℕ) → is_write f ≡ true → is_read f ≡ false
no_read_lem f is = ap (λ (n : ℕ). eqb n 0x5E) (eqb-true (function f) 0x5F is)

-- the fetch's answer, with what the write stored
abbrev joined : Framed → Framed → List ℕ → Answer
joined write fetch m = to_frame (record { length = fetch.length; stored = write.stored; number = 0 }) m

pub in_turn : InTurn
unfolding frame_answer
in_turn k f m s write fetch m' m'' is first z second =
    let d = was_done (frame k f m) s (ap number_in first ∙ z) in
    let p : List ℕ = part_of k s in
    let t = after kinds (frame k f m) s in
    let left : part_of k t ≡ frame_part k f m p = own kinds sized (frame k f m) s d.0 in
    let there : Right k (length t) = record { low = d.0.low; high = d.0.high; size = length_after kinds sized (frame k f m) s ∙ d.0.size } in
    let wrote = sym first ∙ took_answer kinds (frame k f m) s (fine d.0) in
    let sent = sym second ∙ took_answer kinds (frame k fetch_all m') t (fine there) in
    let merged = done_in_turn k f m p (no_read_lem f is) d.1 in
    let last : List ℕ = frame_part k fetch_all m' (part_of k t) in
    let long : length (frame_part k f m p) ≡ part_size = new_length kinds sized (frame k f m) s d.0 in (
      took_answer kinds (exchange k f m) s (fine d.0)
          ∙ (ap (λ (x : FrameDone). to_frame x.told x.reply) merged
          ∙ (ap (λ (a : Framed). joined a (frame_answer k fetch_all (frame_reply k f m p) (frame_part k f m p)) (frame_reply k fetch_all (frame_reply k f m p) (frame_part k f m p))) (sym (ap told_in wrote))
          ∙ (ap (λ (l : List ℕ). joined write (frame_answer k fetch_all l (frame_part k f m p)) (frame_reply k fetch_all l (frame_part k f m p))) (sym (ap reply_in wrote))
          ∙ (ap (λ (q : List ℕ). joined write (frame_answer k fetch_all m' q) (frame_reply k fetch_all m' q)) (sym left)
          ∙ (ap (λ (a : Framed). joined write a (frame_reply k fetch_all m' (part_of k t))) (sym (ap told_in sent)) ∙ ap (joined write fetch) (sym (ap reply_in sent))))))),
      took kinds (exchange k f m) s (fine d.0)
          ∙ (ap (λ (x : FrameDone). with_part k x.part s) merged
          ∙ (ap (λ (l : List ℕ). with_part k (frame_part k fetch_all l (frame_part k f m p)) s) (sym (ap reply_in wrote))
          ∙ (ap (λ (q : List ℕ). with_part k (frame_part k fetch_all m' q) s) (sym left)
          ∙ (sym (with_again ((k - 1) * part_size) part_size (frame_part k f m p) s (fits d.0) long last)
          ∙ (ap (with_part k last) (sym (took kinds (frame k f m) s (fine d.0))) ∙ sym (took kinds (frame k fetch_all m') t (fine there))))))),
    )

-- a merged call whose write is refused, a read taken as none
pub refused_alike :
    (k : ℕ) (f m s : List ℕ) → (number_in (answer kinds (frame k (no_read f) m) s) ≡ 0 → ⊥)
    → (answer kinds (exchange k f m) s ≡ answer kinds (frame k (no_read f) m) s) × (after kinds (exchange k f m) s ≡ after kinds (frame k (no_read f) m) s)
unfolding frame_answer
refused_alike k f m s refused = go (station_refusal k (length s)) refl (frame_refusal k (no_read f) (length m) (part_of k s)) refl
  where
    Same : Type 0
    Same = (answer kinds (exchange k f m) s ≡ answer kinds (frame k (no_read f) m) s) × (after kinds (exchange k f m) s ≡ after kinds (frame k (no_read f) m) s)

    -- numbers 1 and 2 have an empty reply, to whatever frame
    unanswered : (n : ℕ) → station_refusal k (length s) ≡ n → refused_frame f m n ≡ refused_frame (no_read f) m n
    unanswered n e =
        let small : n < 5 = subst (λ (x : ℕ). x < 5) e (refusal_small k (length s)) in
        sym (empty_refused f m n small) ∙ empty_refused (no_read f) m n small

    go : (r : ℕ) → station_refusal k (length s) ≡ r → (n : ℕ) → frame_refusal k (no_read f) (length m) (part_of k s) ≡ n → Same
    go (suc r) e n d = (
      gave_answer kinds (exchange k f m) s r e ∙ (unanswered (suc r) e ∙ sym (gave_answer kinds (frame k (no_read f) m) s r e)),
      gave kinds (exchange k f m) s r e ∙ sym (gave kinds (frame k (no_read f) m) s r e),
    )
    go zero e zero d = absurd (refused (ap number_in (took_answer kinds (frame k (no_read f) m) s e) ∙ d))
    go zero e (suc n) d =
        let same = alone k f m (part_of k s) n d in (
          took_answer kinds (exchange k f m) s e
              ∙ (ap (λ (x : FrameDone). to_frame x.told x.reply) same ∙ sym (took_answer kinds (frame k (no_read f) m) s e)),
          took kinds (exchange k f m) s e ∙ (ap (λ (x : FrameDone). with_part k x.part s) same ∙ sym (took kinds (frame k (no_read f) m) s e)),
        )

pub write_alone : WriteAlone
write_alone k f m s isnt refused =
    let same : no_read f ≡ f = rw isnt in
    subst (λ (l : List ℕ). (answer kinds (exchange k f m) s ≡ answer kinds (frame k l m) s) × (after kinds (exchange k f m) s ≡ after kinds (frame k l m) s)) same
    (refused_alike k f m s (λ z. refused (ap (λ (l : List ℕ). number_in (answer kinds (frame k l m) s)) (sym same) ∙ z)))

-- a frame of no bytes is never done
nothing : (k : ℕ) (m s : List ℕ) → number_in (answer kinds (frame k [] m) s) ≡ 0 → ⊥
nothing k m s z = one_of (λ (n : ℕ). n ≡ 0 → ⊥) (ltb (length m) 244) 3 4 (λ e. omega arith) (λ e. omega arith) (done_tests (frame k [] m) s z)

pub read_as_none : ReadAsNone
read_as_none k f m s is =
    let none : no_read f ≡ [] = rw is in
    let same = subst (λ (l : List ℕ). (answer kinds (exchange k f m) s ≡ answer kinds (frame k l m) s) × (after kinds (exchange k f m) s ≡ after kinds (frame k l m) s)) none
    (refused_alike k f m s (λ z. nothing k m s (ap (λ (l : List ℕ). number_in (answer kinds (frame k l m) s)) (sym none) ∙ z))) in
    (same.0, same.1 ∙ (is_refused (frame k [] m) s (nothing k m s)).kept)

-- a merged call that was done is a write that was
pub was_written : (k : ℕ) (f m s : List ℕ) → number_in (answer kinds (exchange k f m) s) ≡ 0 → (is_write f ≡ true) × (number_in (answer kinds (frame k f m) s) ≡ 0)
unfolding frame_answer
was_written k f m s z = go (number_in (answer kinds (frame k (no_read f) m) s)) refl (is_read f) refl
  where
    go : (n : ℕ) → number_in (answer kinds (frame k (no_read f) m) s) ≡ n → (b : Bool) → is_read f ≡ b → (is_write f ≡ true) × (number_in (answer kinds (frame k f m) s) ≡ 0)
    go (suc n) e b r = let same = sym (ap number_in (refused_alike k f m s (λ d. omega arith)).0) ∙ z in absurd (omega arith)
    go zero e true r = absurd (nothing k m s (rw r at e))
    go zero e false r =
        let done : number_in (answer kinds (frame k f m) s) ≡ 0 = rw r at e in
        (rw (r, or-false) at (done_passes k f (length m) (part_of k s) (was_done (frame k f m) s done).1).function, done)

-- the acknowledgement is overwritten by what is fetched
over : (reply more m : List ℕ) → length reply ≡ 4 → drop (4 + length more) (reply ++ drop 4 m) ≡ drop (4 + length more) m
over reply more m four =
    ap (λ (n : ℕ). drop (n + length more) (reply ++ drop 4 m)) (sym four)
    ∙ (drop-append-add reply (drop 4 m) (length more) ∙ drop-drop (length more) 4 m)

-- what the write leaves of the part
wrote_part :
    (k : ℕ) (r : Request) (m p : List ℕ) → RequestFits r → length (request_bytes r) ≤ block_limit → r.axis ≡ k → exhausts r p ≡ false
    → frame_refusal k (write_of r) (length m) p ≡ 0
    → frame_part k (write_of r) m p ≡ with_response (response.write (worked r p).response) (worked r p).part
wrote_part k r m p fit short mine left e =
    left_is k (write_of r) m p e refl ∙ ap (λ (o : Outcome). o.part) (taken_is k (request_bytes r) p r (reads r fit short) (reads_back r fit short) mine left)

pub merges_as_ruled : MergesAsRuled
unfolding run_end frame_answer
merges_as_ruled k r s m rest fit short mine left room =
    let p : List ℕ = part_of k s in
    let given : List ℕ = response_bytes (worked r p).response in
    let head : List ℕ = 0x5F ∷ 0 ∷ 0x2F ∷ length (request_bytes r) ∷ [] in
    let after_write : List ℕ = head ++ drop 4 m in
    let wide : 244 ≤ length after_write = omega (arith, length-append head (drop 4 m), length-drop 4 m) in
    let two = responds_as_ruled k r s m [] 0xF0 after_write rest fit short mine left room tt (answer_short r p fit) (lit≤ tt) wide in
    let one = in_turn k (write_of r) m s _ _ after_write _ refl two.acknowledged refl two.answered in
    let reply : List ℕ = 0x5E ∷ 0 ∷ 0x2F ∷ length given ∷ given in
    let long : length reply ≡ 4 + length given = omega arith in
    let past : drop (length reply) after_write ≡ drop (length reply) m =
    subst (λ (n : ℕ). drop n after_write ≡ drop n m) (sym long) (over head given m refl) in
    let t = after kinds (frame k (write_of r) m) s in
    let wrote = was_done (frame k (write_of r) m) s (ap number_in two.acknowledged) in
    let sent = was_done (frame k fetch_all after_write) t (ap number_in two.answered) in
    let written = own kinds sized (frame k (write_of r) m) s wrote.0 ∙ wrote_part k r m p fit short mine left wrote.1 in
    let size : length (worked r p).part ≡ part_size = (only_stored_changes r p fit).size ∙ length_window ((k - 1) * part_size) part_size s (fits wrote.0) in
    let fitting : length (response.write (worked r p).response) ≤ block_limit =
    subst (λ (l : List ℕ). length l ≤ block_limit) (sym (response_bytes_lem (worked r p).response)) (answer_short r p fit) in
    record {
      answered = one.0 ∙ ap (λ (l : List ℕ). to_frame (record { length = length reply; stored = (worked r p).stored; number = 0 }) (reply ++ l)) past;
      left =
          ap (part_of k) one.1
          ∙ (own kinds sized (frame k fetch_all after_write) t sent.0
          ∙ (fetched_part k fetch_all after_write (part_of k t) sent.1 refl
          ∙ (ap (with_response []) written ∙ response_again (response.write (worked r p).response) [] (worked r p).part size fitting (omega arith))));
      idle = ap (λ (l : List ℕ). waiting_length (part_of k l)) one.1 ∙ two.idle;
    }
