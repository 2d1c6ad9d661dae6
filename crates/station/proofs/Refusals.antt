-- Every number but 0 settles the answer and leaves the station as it was; a block that is foreign or not readable is refused.
use mathlib.Core.Path.{◌≡◌, refl, sym, ap, ◌∙◌}
use mathlib.Core.Bool.{Bool, true, false, cond, not, ◌&&◌, ◌||◌, true≢false}
use mathlib.Core.List.{List, [], ◌∷◌, ◌++◌}
use Prim.Native.Nat.{ℕ, zero, suc, ◌+◌, ◌-◌, ◌*◌, ◌≤◌}
use native.Mathlib.Omega.{arith}
use native.Mathlib.Nat.{zero-add}
use lib.Dec.{eqb, ltb, leb, lit≤}
use lib.ListN.{length, drop, length-take}
use Rattle.codes.proofs.Put.{put_fits}
use Rattle.blocks.specs.Block.{block_limit}
use Rattle.part.specs.Layout.{part_size, response_at, waiting_length, response_room, waiting}
use Rattle.part.specs.WellFormed.{well_formed}
use Rattle.station.specs.Parts.{farms, station_size, part_of, with_part, station_refusal}
use Rattle.station.specs.Frame.{is_write, is_read, code_of, refused_reply, reply_of, frame_tests, frame_refusal, frame_reply}
use Rattle.station.specs.Isolation.{answer, after}
use Rattle.station.specs.Calls.{Call, frame, exchange, frame_by, refused_frame, number_in, kind_of, owner, kinds}
use Rattle.station.specs.Laws.{table_number, NumberedByTable, Refuses, Refused, EmptyReply, ReplyStands, ForeignAxis, UnreadableBlock}
use Rattle.station.proofs.Tests.{one_of}
use Rattle.station.proofs.Answers.{empty_refused}
use Rattle.station.proofs.Says.{Mine, mine, Says, small, framed, worked, says}
use Rattle.station.proofs.Isolation.{Right, right, took_answer, took, gave_answer, gave}
use Rattle.station.proofs.Owes.{owes}
use Rattle.station.proofs.Windows.{with_same}

-- a call is refused for its farm or size, or on its owner's part
pub is_refused : Refused
is_refused c s isnt = go (station_refusal (owner c) (length s)) refl (number_in ((kind_of c).answers (part_of (owner c) s))) refl
  where
    given : (n : ℕ) → answer kinds c s ≡ (kind_of c).refused (suc n) → after kinds c s ≡ s → Refuses c s
    given n a k = record { number = isnt; answered = a ∙ ap (kind_of c).refused (sym (ap number_in a ∙ (owes c).names (suc n))); kept = k }

    go : (r : ℕ) → station_refusal (owner c) (length s) ≡ r → (n : ℕ) → number_in ((kind_of c).answers (part_of (owner c) s)) ≡ n → Refuses c s
    go (suc r) e n d = given r (gave_answer kinds c s r e) (gave kinds c s r e)
    go zero e (suc n) d =
        let r = (owes c).refuses (part_of (owner c) s) n d in
        given n (took_answer kinds c s e ∙ r.0)
        (took kinds c s e ∙ (ap (λ (l : List ℕ). with_part (owner c) l s) r.1 ∙ with_same ((owner c - 1) * part_size) part_size s))
    go zero e zero d = absurd (isnt (ap number_in (took_answer kinds c s e) ∙ d))

-- a call that was done: farm and size are right, and so is all on the part
pub was_done : (c : Call) (s : List ℕ) → number_in (answer kinds c s) ≡ 0 → Right (owner c) (length s) × (number_in ((kind_of c).answers (part_of (owner c) s)) ≡ 0)
was_done c s z = go (station_refusal (owner c) (length s)) refl
  where
    go : (r : ℕ) → station_refusal (owner c) (length s) ≡ r → Right (owner c) (length s) × (number_in ((kind_of c).answers (part_of (owner c) s)) ≡ 0)
    go zero e = (right (owner c) (length s) e, sym (ap number_in (took_answer kinds c s e)) ∙ z)
    go (suc n) e = let other = sym z ∙ (ap number_in (gave_answer kinds c s n e) ∙ (owes c).names (suc n)) in absurd (omega arith)

-- the whole table: where farm or size is refused, and where the part is left to judge
early_number : (a b w : Bool) (rest n : ℕ) → cond a 1 (cond b 2 0) ≡ suc n → cond a 1 (cond (b || w) 2 rest) ≡ suc n
early_number true b w rest n e = e
early_number false true w rest n e = e
early_number false false w rest n e = absurd (omega arith)

late_number : (a b w : Bool) (rest : ℕ) → ◌≡◌ {A = ℕ} (cond a 1 (cond b 2 0)) 0 → cond w 2 rest ≡ cond a 1 (cond (b || w) 2 rest)
late_number true b w rest e = absurd (omega arith)
late_number false true w rest e = absurd (omega arith)
late_number false false w rest e = refl

pub numbered_by_table : NumberedByTable
unfolding station_refusal
numbered_by_table c s = go (station_refusal (owner c) (length s)) refl
  where
    out : Bool
    out = not (leb 1 (owner c) && leb (owner c) farms)

    other : Bool
    other = not (eqb (length s) station_size)

    ill : Bool
    ill = not (well_formed (owner c) (part_of (owner c) s))

    go : (n : ℕ) → station_refusal (owner c) (length s) ≡ n → number_in (answer kinds c s) ≡ table_number c s
    go (suc n) e = ap number_in (gave_answer kinds c s n e) ∙ ((owes c).names (suc n) ∙ sym (early_number out other ill ((kind_of c).tests (part_of (owner c) s)) n e))
    go zero e =
        ap number_in (took_answer kinds c s e)
        ∙ ((owes c).numbered (part_of (owner c) s) ∙ late_number out other ill ((kind_of c).tests (part_of (owner c) s)) e)

-- how a frame, by itself or merged, is answered where it is refused
pub refused_by : (merged : Bool) (k : ℕ) (f m : List ℕ) (n : ℕ) → (kind_of (frame_by merged k f m)).refused n ≡ refused_frame f m n
refused_by false k f m n = refl
refused_by true k f m n = refl

pub empty_reply : EmptyReply
empty_reply merged k f m s n e low high =
    let z = is_refused (frame_by merged k f m) s (λ z. omega arith) in
    z.answered ∙ (ap (kind_of (frame_by merged k f m)).refused e ∙ (refused_by merged k f m n ∙ sym (empty_refused f m n (omega arith))))

-- a call that is done passes its tests, and a frame, by itself or merged, those of a frame
past_two : (a b : Bool) (x y n : ℕ) → ◌≡◌ {A = ℕ} (cond a (suc x) (cond b (suc y) n)) 0 → n ≡ 0
past_two true b x y n e = absurd (omega arith)
past_two false true x y n e = absurd (omega arith)
past_two false false x y n e = e

pub done_tests : (c : Call) (s : List ℕ) → number_in (answer kinds c s) ≡ 0 → (kind_of c).tests (part_of (owner c) s) ≡ 0
done_tests c s e =
    past_two (not (leb 1 (owner c) && leb (owner c) farms)) (not (eqb (length s) station_size) || not (well_formed (owner c) (part_of (owner c) s))) 0 1 _
    (sym (numbered_by_table c s) ∙ e)

frame_tests_lem : (merged : Bool) (k : ℕ) (f m s : List ℕ) → number_in (answer kinds (frame_by merged k f m) s) ≡ 0 → frame_tests k f (length m) (part_of k s) ≡ 0
frame_tests_lem false k f m s e = done_tests (frame k f m) s e
frame_tests_lem true k f m s e = past_two (ltb (length m) 244) (is_read f) 2 3 _ (done_tests (exchange k f m) s e)

-- a write whose block is not the farm's to write
not_mine : (merged : Bool) (k : ℕ) (f m s : List ℕ) → is_write f ≡ true → (Mine k f (part_of k s) → ⊥) → Refuses (frame_by merged k f m) s
not_mine merged k f m s is isnt =
    is_refused (frame_by merged k f m) s (λ z. isnt (mine k f (length m) (part_of k s) (frame_tests_lem merged k f m s z) is))

pub foreign_axis : ForeignAxis
foreign_axis merged k f m s is other = not_mine merged k f m s is (λ y. other y.axis)

pub unreadable_block : UnreadableBlock
unreadable_block merged k f m s is unread = not_mine merged k f m s is (λ y. true≢false (sym y.reads ∙ unread))

-- a reply never fills more than 244 bytes
waiting_bound : (p : List ℕ) → length (waiting p) ≤ block_limit
waiting_bound p = omega (arith, length-take (waiting_length p) (response_room p), length-take block_limit (drop response_at p))

pub refused_bound : (f : List ℕ) (n : ℕ) → length (refused_reply f n) ≤ 244
refused_bound f n = one_of (λ (l : List ℕ). length l ≤ 244) (ltb n 5) [] (cond (is_write f) 0xDF 0xDE ∷ 0x80 ∷ code_of n ∷ 0 ∷ []) (lit≤ tt) (lit≤ tt)

pub reply_bound : (f p : List ℕ) (n : ℕ) → length (reply_of f p n) ≤ 244
reply_bound f p n =
    one_of (λ (l : List ℕ). length l ≤ 244) (eqb n 0) _ _
    (one_of (λ (l : List ℕ). length l ≤ 244) (is_write f) _ _ (lit≤ tt) (omega (arith, waiting_bound p)))
    (refused_bound f n)

pub reply_stands : ReplyStands
unfolding frame_reply frame_refusal
reply_stands k f m p =
    let reply : List ℕ = reply_of f p (frame_refusal k f (length m) p) in
    put_fits m 0 reply
    (one_of (λ (n : ℕ). 0 + length (reply_of f p n) ≤ length m) (not (well_formed k p)) 2 _ (omega arith) (fit (frame_tests k f (length m) p) (says k f (length m) p)))
    ∙ ap (λ (n : ℕ). reply ++ drop n m) (zero-add (length reply))
  where
    fit : (n : ℕ) → Says k f (length m) p n → 0 + length (reply_of f p n) ≤ length m
    fit n (small e) = rw e (omega arith)
    fit n (framed low room) = omega (arith, reply_bound f p n)
    fit n (worked e room my) = omega (arith, reply_bound f p n)
