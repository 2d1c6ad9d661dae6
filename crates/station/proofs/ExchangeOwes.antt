-- What a merged call owes: its write is a frame that is no read, and the fetch after it is never refused.
use mathlib.Core.Path.{◌≡◌, refl, sym, ap, subst, ◌∙◌}
use mathlib.Core.Bool.{Bool, true, false, cond, not}
use mathlib.Core.List.{List, []}
use Prim.Native.Nat.{ℕ, zero, suc, ◌≤◌, ◌<◌}
use native.Mathlib.Omega.{arith}
use lib.Dec.{eqb, ltb, eqb-suc-zero, lit<}
use lib.ListN.{length}
use Rattle.codes.specs.Number.{put}
use Rattle.codes.proofs.Put.{put_length}
use Rattle.part.specs.Layout.{part_size, waiting_length, waiting}
use Rattle.part.specs.WellFormed.{well_formed}
use Rattle.station.specs.Frame.{is_read, refused_reply, frame_refusal, frame_answer, frame_reply, frame_part}
use Rattle.station.specs.Exchange.{FrameDone, frame_done, fetch_all, no_read, exchange_done, exchange_tests}
use Rattle.station.specs.Calls.{exchange, to_frame, refused_frame, kind_of}
use Rattle.station.specs.Owed.{Owes}
use Rattle.station.proofs.Tests.{by_test, one_of}
use Rattle.station.proofs.Answers.{quiet}
use Rattle.station.proofs.Outcome.{Versioned, responded_versioned}
use Rattle.station.proofs.Judged.{done_passes}
use Rattle.station.proofs.Says.{later}
use Rattle.station.proofs.FrameOwes.{writes, frame_owes}
use Rattle.station.proofs.Passes.{fetch_next}

-- what is left of a read is no read
pub unread : (f : List ℕ) → is_read (no_read f) ≡ false
unread f = by_test (λ (l : List ℕ). is_read l ≡ false) (is_read f) [] f (λ e. refl) (λ e. e)

-- a frame of no bytes is refused by 2, 3 or 4
few : (k m : ℕ) (p : List ℕ) → frame_refusal k [] m p < 5
unfolding frame_refusal
few k m p = one_of (λ (n : ℕ). n < 5) (not (well_formed k p)) 2 _ (lit< tt) (one_of (λ (n : ℕ). n < 5) (ltb m 244) 3 4 (lit< tt) (lit< tt))

again : (b reads : Bool) (n : ℕ) → reads ≡ false → cond b 3 n ≡ cond b 3 (cond reads 4 (cond b 3 n))
again true reads n e = refl
again false reads n e = rw e

-- a write that is done and its fetch, in turn
abbrev pub both : ℕ → List ℕ → List ℕ → List ℕ → FrameDone
both k f m p =
    let write = frame_done k f m p in
    let fetch = frame_done k fetch_all write.reply write.part in
    record {
      told = record { length = fetch.told.length; stored = write.told.stored; number = 0 };
      reply = fetch.reply;
      part = fetch.part;
    }

module _ (k : ℕ) (f m p : List ℕ) where
  -- the number of its write
  abbrev pub written : ℕ
  written = frame_refusal k (no_read f) (length m) p

  -- as its tests say
  tested : written ≡ cond (not (well_formed k p)) 2 (exchange_tests k f (length m) p)
  unfolding frame_refusal
  tested = go (is_read f) refl
    where
      go : (b : Bool) → is_read f ≡ b → written ≡ cond (not (well_formed k p)) 2 (exchange_tests k f (length m) p)
      go true e = rw e
      go false e =
          let same : no_read f ≡ f = rw e in
          ap (λ (l : List ℕ). frame_refusal k l (length m) p) same
          ∙ ap (λ (n : ℕ). cond (not (well_formed k p)) 2 n) (again (ltb (length m) 244) (is_read f) _ e)

  -- refused as the write is
  replies : (n : ℕ) → written ≡ n → refused_reply (no_read f) n ≡ refused_reply f n
  replies n w = go (is_read f) refl
    where
      go : (b : Bool) → is_read f ≡ b → refused_reply (no_read f) n ≡ refused_reply f n
      go true e =
          let small : n < 5 = subst (λ (x : ℕ). x < 5) (ap (λ (l : List ℕ). frame_refusal k l (length m) p) (rw e) ∙ w) (few k (length m) p) in
          quiet (no_read f) n small ∙ sym (quiet f n small)
      go false e = rw e

  -- the write is refused: it alone
  pub alone : (n : ℕ) → written ≡ suc n → exchange_done k f m p ≡ frame_done k (no_read f) m p
  unfolding exchange_done frame_answer
  alone n w = rw (w, eqb-suc-zero n)

  -- it is done: the fetch after it passes,
  pub fetch_done : written ≡ 0 → frame_refusal k fetch_all (length (frame_reply k (no_read f) m p)) (frame_part k (no_read f) m p) ≡ 0
  unfolding frame_reply
  fetch_done w =
      let room = (done_passes k (no_read f) (length m) p w).room in
      let long : length (frame_reply k (no_read f) m p) ≡ length m = put_length m 0 _ in
      fetch_next k (no_read f) m p w (writes k (no_read f) (length m) p w (unread f)).0 (frame_reply k (no_read f) m p) (omega arith)

  -- and is answered, with what the write stored
  pub turns : written ≡ 0 → exchange_done k f m p ≡ both k (no_read f) m p
  unfolding exchange_done frame_answer
  turns w = rw (w, fetch_done w)

  numbered : (exchange_done k f m p).told.number ≡ written
  unfolding frame_answer
  numbered = go written refl
    where
      go : (n : ℕ) → written ≡ n → (exchange_done k f m p).told.number ≡ written
      go zero w = ap (λ (d : FrameDone). d.told.number) (turns w) ∙ sym w
      go (suc n) w = ap (λ (d : FrameDone). d.told.number) (alone n w)

  pub refuses : (n : ℕ) → written ≡ suc n
      → (to_frame (exchange_done k f m p).told (exchange_done k f m p).reply ≡ refused_frame f m (suc n)) × ((exchange_done k f m p).part ≡ p)
  unfolding frame_answer
  refuses n w =
      let r = (frame_owes k (no_read f) m).refuses p n w in (
        ap (λ (d : FrameDone). to_frame d.told d.reply) (alone n w)
            ∙ (r.0 ∙ ap (λ (l : List ℕ). to_frame (record { length = length l; stored = 0; number = suc n }) (put m 0 l)) (replies (suc n) w)),
        ap (λ (d : FrameDone). d.part) (alone n w) ∙ r.1,
      )

  -- what both of its frames keep of a part
  keeps : (P : List ℕ → Type 0) → P (frame_part k (no_read f) m p)
      → (P (frame_part k (no_read f) m p) → P (frame_part k fetch_all (frame_reply k (no_read f) m p) (frame_part k (no_read f) m p)))
      → P (exchange_done k f m p).part
  unfolding exchange_done
  keeps P left more = one_of (λ (d : FrameDone). P d.part) (eqb (frame_answer k (no_read f) m p).number 0) _ _ (more left) left

  waits : (waiting_length p ≡ 0 → ⊥) → waiting (exchange_done k f m p).part ≡ waiting p
  waits some = go written refl
    where
      go : (n : ℕ) → written ≡ n → waiting (exchange_done k f m p).part ≡ waiting p
      go zero w = absurd (some (writes k (no_read f) (length m) p w (unread f)).1)
      go (suc n) w = ap waiting (refuses n w).1

  -- it stores what its write does, and the fetch leaves the versions
  stored_is : (exchange_done k f m p).told.stored ≡ (frame_answer k (no_read f) m p).stored
  unfolding exchange_done
  stored_is = one_of (λ (d : FrameDone). d.told.stored ≡ (frame_answer k (no_read f) m p).stored) (eqb (frame_answer k (no_read f) m p).number 0) _ _ refl refl

  versioned : length p ≡ part_size → Versioned p (exchange_done k f m p).told.stored (exchange_done k f m p).part
  unfolding frame_part
  versioned size =
      let q : List ℕ = frame_part k (no_read f) m p in
      let stored : ℕ = (frame_answer k (no_read f) m p).stored in
      let write = frame_owes k (no_read f) m in
      rw (stored_is)
      (keeps (Versioned p stored) (write.versioned p size)
      (λ v.
      one_of (Versioned p stored) (eqb (frame_refusal k fetch_all (length (frame_reply k (no_read f) m p)) q) 0) _ _
      (responded_versioned p q [] stored (omega arith) v) v))

-- what is done was no read
pub done_unread : (k : ℕ) (f : List ℕ) (m : ℕ) (p : List ℕ) → frame_refusal k (no_read f) m p ≡ 0 → is_read f ≡ false
unfolding frame_refusal
done_unread k f m p e = go (is_read f) refl
  where
    go : (b : Bool) → is_read f ≡ b → is_read f ≡ false
    go false h = h
    go true h =
        let none : no_read f ≡ [] = rw h in
        let passed : frame_refusal k [] m p ≡ 0 = ap (λ (l : List ℕ). frame_refusal k l m p) (sym none) ∙ e in
        absurd
        (one_of (λ (n : ℕ). n ≡ 0 → ⊥) (not (well_formed k p)) 2 _ (λ x. omega arith)
        (one_of (λ (n : ℕ). n ≡ 0 → ⊥) (ltb m 244) 3 4 (λ x. omega arith) (λ x. omega arith)) passed)

-- of a frame that is no read
module _ (k : ℕ) (f m p : List ℕ) (isnt : is_read f ≡ false) where
  pub itself : no_read f ≡ f
  itself = rw isnt

  number_is : frame_refusal k (no_read f) (length m) p ≡ frame_refusal k f (length m) p
  number_is = ap (λ (l : List ℕ). frame_refusal k l (length m) p) itself

  pub done_in_turn : frame_refusal k f (length m) p ≡ 0 → exchange_done k f m p ≡ both k f m p
  done_in_turn e = turns k f m p (number_is ∙ e) ∙ ap (λ (l : List ℕ). both k l m p) itself

pub exchange_owes : (k : ℕ) (f m : List ℕ) → Owes (kind_of (exchange k f m))
exchange_owes k f m =
    record {
      names = λ n. refl;
      empty = λ n. refl;
      numbered = λ p. numbered k f m p ∙ tested k f m p;
      later = λ p. one_of Later (ltb (length m) 244) 3 _ (λ low. absurd (omega arith)) (one_of Later (is_read f) 4 _ (λ low. absurd (omega arith)) (later k f (length m) p));
      refuses = λ p n e. refuses k f m p n (sym (numbered k f m p) ∙ e);
      sized = λ p h.
          keeps k f m p (λ (l : List ℕ). length l ≡ part_size) ((frame_owes k (no_read f) m).sized p h)
          ((frame_owes k fetch_all (frame_reply k (no_read f) m p)).sized (frame_part k (no_read f) m p));
      formed = λ p fits w.
          keeps k f m p (λ (l : List ℕ). well_formed k l ≡ true) ((frame_owes k (no_read f) m).formed p tt w)
          ((frame_owes k fetch_all (frame_reply k (no_read f) m p)).formed (frame_part k (no_read f) m p) tt);
      waits = λ p quiet. waits k f m p;
      versioned = λ p. versioned k f m p;
      numbers = λ p some. (frame_owes k (no_read f) m).numbers p (λ none. some (stored_is k f m p ∙ none));
    }
  where
    Later : ℕ → Type 0
    Later n = n ≤ 2 → n ≡ 0
