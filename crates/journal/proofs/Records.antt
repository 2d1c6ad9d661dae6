-- What is known of bytes by whether they are a record.
use mathlib.Core.Path.{◌≡◌, refl, sym, subst, ◌∙◌, ap}
use mathlib.Core.Bool.{Bool, true, false, cond, ◌&&◌, ◌||◌, true≢false, and-eq-true_iff}
use mathlib.Core.List.{List, [], ◌∷◌, append_assoc}
use Prim.Native.Nat.{ℕ, zero, suc, ◌+◌, ◌≤◌}
use native.Mathlib.Omega.{arith}
use lib.Dec.{eqb, leb}
use lib.ListN.{length, get_or, drop}
use lib.Seq.{drop-append-add}
use borrow.Author.Tests.{eqb-true, leb-true, eq-eqb, ne_eqb, lt-ltb}
use Rattle.codes.specs.Number.{number_at}
use Rattle.drive.specs.Faults.{zeros}
use Rattle.station.specs.Parts.{part_of, station_refusal}
use Rattle.station.specs.Calls.{Call, frame, exchange, go_back, frame_by, Answer, to_cycle, to_frame, to_list, to_return, kind_of as call_kind, owner, kinds}
use Rattle.station.specs.Isolation as Isolation
use Rattle.station.specs.Isolation.{answer, answer_by}
use Rattle.station.proofs.Tests.{one_of}
use borrow.Table.Steps.{cases}
use Rattle.journal.specs.Line.{record_length, cycle_record, frame_record, return_record, cycle_call, frame_length, frame_call, return_call, holds_frame, is_merged, is_cycle, is_frame, is_return, is_record, call_of, line_of, bad_line, record_line, record_after}
use Rattle.std.specs.Prelude.{Option, Some, None}
use Rattle.std.specs.Option.{is_some}
use Rattle.journal.specs.declared.record.Kind.{Kind}
use Rattle.journal.specs.declared.record.Kind.TheVariants.{Cycle, Frame, Return}
use Rattle.journal.specs.Kinds.{kind_by, clear_past_frame, kind_in, kind_of}
use Rattle.journal.specs.History.{acted_by, acted_of}
use Rattle.journal.specs.Laws.{MergedRecords, ReturnRecords, NoneLists}

-- a record of a kind that tests nothing else
module _ (size kind : ℕ) (r : List ℕ) (h : eqb (length r) size && eqb (get_or r 0 0) kind ≡ true) where
  sized : length r ≡ size
  sized = eqb-true _ _ ((and-eq-true_iff (eqb (length r) size) (eqb (get_or r 0 0) kind)).0 h).0

  of_kind : get_or r 0 0 ≡ kind
  of_kind = eqb-true _ _ ((and-eq-true_iff (eqb (length r) size) (eqb (get_or r 0 0) kind)).0 h).1

  kind_whole : record_length kind ≡ size → record_length (get_or r 0 0) ≡ length r
  kind_whole e = ap record_length of_kind ∙ (e ∙ sym sized)

pub cycle_length : (r : List ℕ) → is_cycle r ≡ true → length r ≡ cycle_record
cycle_length r h = sized cycle_record 1 r h

pub return_length : (r : List ℕ) → is_return r ≡ true → length r ≡ return_record
return_length r h = sized return_record 4 r h

pub frame_lengths : (r : List ℕ) → is_frame r ≡ true → (length r ≡ frame_record) × (frame_length r ≤ 244)
frame_lengths r h =
    let clear = zeros (drop (3 + frame_length r) r) in
    let fits = leb (frame_length r) 244 in
    let whole = (and-eq-true_iff (eqb (length r) frame_record) (holds_frame (get_or r 0 0) && (fits && clear))).0 h in
    let kind = (and-eq-true_iff (holds_frame (get_or r 0 0)) (fits && clear)).0 whole.1 in
    (eqb-true _ _ whole.0, leb-true _ _ ((and-eq-true_iff fits clear).0 kind.1).0)

-- both kinds that hold a frame are as long
frame_kinds : (kind : ℕ) → holds_frame kind ≡ true → record_length kind ≡ frame_record
frame_kinds kind e = go (eqb kind 2) refl
  where
    go : (b : Bool) → eqb kind 2 ≡ b → record_length kind ≡ frame_record
    go true h = ap record_length (eqb-true kind 2 h)
    go false h = ap record_length (eqb-true kind 3 (rw h at e))

-- a record is as long as its kind byte says
pub record_whole : (r : List ℕ) → is_record r ≡ true → record_length (get_or r 0 0) ≡ length r
unfolding is_record
record_whole r = go (is_cycle r) (is_return r) (is_frame r) refl refl refl
  where
    rest : Bool
    rest = leb (frame_length r) 244 && zeros (drop (3 + frame_length r) r)

    go : (c g f : Bool) → is_cycle r ≡ c → is_return r ≡ g → is_frame r ≡ f → c || g || f ≡ true → record_length (get_or r 0 0) ≡ length r
    go true g f a b d e = kind_whole cycle_record 1 r a refl
    go false true f a b d e = kind_whole return_record 4 r b refl
    go false false true a b d e =
        let x = (and-eq-true_iff (eqb (length r) frame_record) ((holds_frame (get_or r 0 0)) && rest)).0 d in
        frame_kinds (get_or r 0 0) ((and-eq-true_iff (holds_frame (get_or r 0 0)) rest).0 x.1).0 ∙ sym (frame_lengths r d).0
    go false false false a b d e = absurd (true≢false (sym e))

-- what is of one kind is of no other
other : (b : Bool) → b && false ≡ false
other true = refl
other false = refl

-- the kind of a record is that of the tests one after the other
kind_tests : (r : List ℕ) → kind_of r ≡ cond (is_cycle r) (Some Cycle) (cond (is_return r) (Some Return) (cond (is_frame r) (Some (Frame (is_merged r))) None))
unfolding kind_of
kind_tests r = go (get_or r 0 0)
  where
    go : (b : ℕ) → kind_in (kind_by b) r
        ≡ cond (eqb (length r) cycle_record && eqb b 1) (Some Cycle)
        (cond (eqb (length r) return_record && eqb b 4) (Some Return)
        (cond (eqb (length r) frame_record && (holds_frame b && clear_past_frame r)) (Some (Frame (eqb b 3))) None))
    go b =
        cases (eqb b 1) (λ e. rw (eqb-true b 1 e) (simp other))
        (λ n1.
        cases (eqb b 2) (λ e. rw (eqb-true b 2 e) (simp other))
        (λ n2.
        cases (eqb b 3) (λ e. rw (eqb-true b 3 e) (simp other))
        (λ n3.
        cases (eqb b 4) (λ e. rw (eqb-true b 4 e) (simp other))
        (λ n4. rw (n1, n2, n3, n4) (simp other)))))

-- what a play and an act promise of a record, by its call; and of bytes that are none
pub record Comes (r s : List ℕ) (c : Call) : Type 0 where
  pub line : record_line r s ≡ line_of c (answer kinds c s)
  pub after : record_after r s ≡ Isolation.after kinds c s
  pub acted : acted_of r s ≡ acted_by c (answer kinds c s)
  pub good : is_record r ≡ true

pub record ComesBad (r s : List ℕ) : Type 0 where
  pub line : record_line r s ≡ bad_line
  pub after : record_after r s ≡ s
  pub acted : acted_of r s ≡ None
  pub good : is_record r ≡ false

module _ (r s : List ℕ) where
  comes : (c : Call) → is_record r ≡ true → call_of r ≡ c → Comes r s c
  unfolding record_line record_after acted_of
  comes c good call = record { line = rw (good, call); after = rw (good, call); acted = rw (good, call); good = good }

  comes_bad : is_record r ≡ false → ComesBad r s
  unfolding record_line record_after acted_of
  comes_bad bad = record { line = rw bad; after = rw bad; acted = rw bad; good = bad }

  -- by the kind that the code finds
  abbrev pub ComesOf : Option Kind → Type 0
  ComesOf (Some Cycle) = Comes r s (cycle_call r) × (length r ≡ cycle_record)
  ComesOf (Some (Frame merged)) = Comes r s (frame_call r) × (length r ≡ frame_record) × (frame_length r ≤ 244) × (merged ≡ is_merged r)
  ComesOf (Some Return) = Comes r s (return_call r) × (length r ≡ return_record)
  ComesOf None = ComesBad r s

  by_tests : (c g f : Bool) → is_cycle r ≡ c → is_return r ≡ g → is_frame r ≡ f → ComesOf (cond c (Some Cycle) (cond g (Some Return) (cond f (Some (Frame (is_merged r))) None)))
  unfolding is_record call_of
  by_tests true g f x y z = (comes (cycle_call r) (rw x) (rw x), cycle_length r x)
  by_tests false true f x y z = (comes (return_call r) (rw (x, y)) (rw (x, y)), return_length r y)
  by_tests false false true x y z = let long = frame_lengths r z in (comes (frame_call r) (rw (x, y, z)) (rw (x, y)), long.0, long.1, refl)
  by_tests false false false x y z = comes_bad (rw (x, y, z))

  pub comes_of : (k : Option Kind) → k ≡ kind_of r → ComesOf k
  comes_of k e = let P : Option Kind → Type 0 = ComesOf in subst P (sym (e ∙ kind_tests r)) (by_tests (is_cycle r) (is_return r) (is_frame r) refl refl refl)

-- the same of the kind that an arm has found
pub found : (r s : List ℕ) {o : Option Kind} {j k : Kind} → o ≡ kind_of r → o ≡ Some j → j ≡ k → ComesOf r s (Some k)
found r s {k = k} e some is = comes_of r s (Some k) (ap Some (sym is) ∙ (sym some ∙ e))

-- bytes are a record where they are of a kind
pub record_kinds : (r : List ℕ) → is_some (kind_of r) ≡ is_record r
record_kinds r = go (kind_of r) refl
  where
    go : (k : Option Kind) → k ≡ kind_of r → is_some k ≡ is_record r
    go (Some Cycle) e = sym (comes_of r [] (Some Cycle) e).0.good
    go (Some (Frame merged)) e = sym (comes_of r [] (Some (Frame merged)) e).0.good
    go (Some Return) e = sym (comes_of r [] (Some Return) e).0.good
    go None e = sym (comes_of r [] None e).good

-- what stands past the frame
past : (kind farm n : ℕ) (bytes : List ℕ) → drop (3 + n) (kind ∷ farm ∷ n ∷ bytes) ≡ drop n bytes
past kind farm n bytes = drop-append-add (kind ∷ farm ∷ n ∷ []) bytes n

pub merged_records : MergedRecords
unfolding is_record call_of
merged_records farm n bytes =
    let no-cycle = other (eqb (length (0 ∷ farm ∷ n ∷ bytes)) cycle_record) in
    let no_return = other (eqb (length (0 ∷ farm ∷ n ∷ bytes)) return_record) in
    record {
      alike = rw (no-cycle, no_return, past 3 farm n bytes, past 2 farm n bytes) refl;
      alone = rw (no-cycle, no_return) refl;
      merged = rw (no-cycle, no_return) refl;
      lines = λ a reply. (refl, refl);
    }

pub return_records : ReturnRecords
unfolding is_record call_of number_at
return_records farm hi lo h l =
    record {
      whole = refl;
      call = rw (lt-ltb hi 256 h, lt-ltb lo 256 l) (ap (go_back farm) (omega arith));
      done = λ a e. rw (eq-eqb a.number 0 e) (simp append_assoc);
      refused = λ a n. rw (ne_eqb a.number 0 n) refl;
    }

-- whether an answer is that to a list
abbrev is_list : Answer → Bool
is_list (to_cycle d) = false
is_list (to_frame f reply) = false
is_list (to_list l) = true
is_list (to_return r) = false

module _ (s : List ℕ) where
  -- a call that answers no list, refused or not
  unlisted : (c : Call) → ((n : ℕ) → is_list ((call_kind c).refused n) ≡ false) → ((p : List ℕ) → is_list ((call_kind c).answers p) ≡ false) → is_list (answer kinds c s) ≡ false
  unfolding answer
  unlisted c refused done = go (station_refusal (owner c) (length s))
    where
      go : (n : ℕ) → is_list (answer_by kinds n c s) ≡ false
      go zero = done (part_of (owner c) s)
      go (suc n) = refused (suc n)

  unlisted_frame : (merged : Bool) (k : ℕ) (f m : List ℕ) → is_list (answer kinds (frame_by merged k f m) s) ≡ false
  unlisted_frame false k f m = unlisted (frame k f m) (λ n. refl) (λ p. refl)
  unlisted_frame true k f m = unlisted (exchange k f m) (λ n. refl) (λ p. refl)

  unlisted_record : (r : List ℕ) → is_list (answer kinds (call_of r) s) ≡ false
  unfolding call_of
  unlisted_record r =
      let by = one_of (λ c. is_list (answer kinds c s) ≡ false) in
      by (is_cycle r) _ _ (unlisted (cycle_call r) (λ n. refl) (λ p. refl))
      (by (is_return r) _ _ (unlisted (return_call r) (λ n. refl) (λ p. refl)) (unlisted_frame (is_merged r) _ _ _))

pub none_lists : NoneLists
none_lists r s l e = true≢false (sym (ap is_list e) ∙ unlisted_record s r)
