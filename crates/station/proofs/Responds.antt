-- A request that is written by its own farm is answered, when it is fetched, by the response that the rules give, whatever came between;
-- and the fetch with F0 after a write that was done is never refused.
use mathlib.Core.Path.{◌≡◌, refl, sym, ap, subst, ◌∙◌}
use mathlib.Core.Bool.{Bool, true, false}
use mathlib.Core.List.{List, [], ◌∷◌}
use mathlib.Core.Logic.{◌⊎◌, inl, inr}
use Prim.Native.Nat.{ℕ, ◌≤◌}
use native.Mathlib.Omega.{arith}
use lib.Dec.{eqb, lit≤}
use lib.ListN.{length, take}
use borrow.Author.Tests.{eqb-true, eqb-false}
use Rattle.codes.specs.Code.{got, readable}
use Rattle.codes.proofs.Demand.{is_readable}
use Rattle.blocks.specs.Block.{block_limit}
use Rattle.blocks.specs.Request.{Request, request}
use Rattle.blocks.specs.Place.{header_of}
use Rattle.blocks.specs.Page.{RequestFits, request_bytes, response_bytes, IsRequest}
use Rattle.blocks.specs.declared.Header.{Header}
use Rattle.blocks.proofs.Request.{request_header}
use Rattle.blocks.proofs.Page.{response_bytes_lem}
use Rattle.blocks.proofs.Demand.{requests, request_read}
use Rattle.part.specs.Layout.{response_room, waiting_length, waiting, with_response}
use Rattle.part.specs.WellFormed.{well_formed}
use Rattle.part.proofs.Laws.{waiting_length_is}
use Rattle.access.specs.Work.{worked, Outcome, exhausts_in, outcome_of}
use Rattle.access.proofs.Answers.{answer_fits, answer_short}
use Rattle.station.specs.Parts.{farms, station_size, part_of}
use Rattle.station.specs.Frame.{length_byte, block_of, is_write, fetch_of, frame_refusal, frame_answer, frame_reply, frame_part}
use Rattle.station.specs.Exchange.{fetch_all}
use Rattle.station.specs.Runs.{run_end}
use Rattle.station.specs.Isolation.{answer, after, machine}
use Rattle.station.specs.Calls.{Call, frame, to_frame, number_in, kind_of, owner, kinds}
use Rattle.station.specs.Laws.{write_of, MayCome, Between, replied, RespondsAsRuled, FetchFollows}
use Rattle.station.proofs.Isolation.{Right, took_answer, fine, length_after, own, other}
use Rattle.station.proofs.Passes.{waits_all, write_passes, fetch_passes, fetched_part, left_formed, left_is, something_waits}
use Rattle.station.proofs.Owes.{owes, sized}
use Rattle.station.proofs.Frames.{formed}
use Rattle.station.proofs.Refusals.{is_refused, was_done, reply_stands}
use Rattle.station.proofs.Sends.{taken_is, waits_as_ruled}

-- a request of the page, as its block
module _ (r : Request) (fits : RequestFits r) (short : length (request_bytes r) ≤ block_limit) where
  is_request_lem : IsRequest (request_bytes r) r
  is_request_lem = record { fits = fits; bytes = refl; short = short }

  pub reads : readable block_limit request (request_bytes r) ≡ true
  reads = is_readable requests (request_bytes r) r is_request_lem

  pub reads_back : request.read (request_bytes r) ≡ got r []
  reads_back = request_read (request_bytes r) r is_request_lem

  axis_is : (header_of (request_bytes r)).axis ≡ r.axis
  axis_is = ap (λ (h : Header). h.axis) (request_header (request_bytes r) r [] reads_back)

-- what a write and a fetch that pass answer and leave
module _ (k : ℕ) (f m p : List ℕ) (e : frame_refusal k f (length m) p ≡ 0) where
  written :
      is_write f ≡ true
      → (to_frame (frame_answer k f m p) (frame_reply k f m p) ≡ replied (0x5F ∷ 0 ∷ 0x2F ∷ length_byte f ∷ []) (outcome_of k (block_of f) p).stored m)
      × (frame_part k f m p ≡ (outcome_of k (block_of f) p).part)
  unfolding frame_answer
  written is = (rw (reply_stands k f m p, e, is) refl, left_is k f m p e is)

  fetched :
      is_write f ≡ false → (bs : List ℕ) → waiting_length p ≡ length bs → waiting p ≡ bs
      → (to_frame (frame_answer k f m p) (frame_reply k f m p) ≡ replied (0x5E ∷ 0 ∷ 0x2F ∷ length bs ∷ bs) 0 m)
      × (frame_part k f m p ≡ with_response [] p)
  unfolding frame_answer
  fetched isnt bs long same =
      let reply : 0x5E ∷ 0 ∷ 0x2F ∷ waiting_length p ∷ waiting p ≡ 0x5E ∷ 0 ∷ 0x2F ∷ length bs ∷ bs =
      ap (λ (x : ℕ). 0x5E ∷ 0 ∷ 0x2F ∷ x ∷ waiting p) long ∙ ap (λ (l : List ℕ). 0x5E ∷ 0 ∷ 0x2F ∷ length bs ∷ l) same in
      (rw (reply_stands k f m p, e, isnt) (ap (λ (l : List ℕ). replied l 0 m) reply), fetched_part k f m p e isnt)

-- the response waits, whatever comes between
record Waits (k : ℕ) (bs s : List ℕ) : Type 0 where
  size : length s ≡ station_size
  formed : well_formed k (part_of k s) ≡ true
  waits : waiting (part_of k s) ≡ bs

module _ (k : ℕ) (low : 1 ≤ k) (high : k ≤ farms) (bs : List ℕ) (some : bs ≡ [] → ⊥) where
  at_home : (s : List ℕ) → length s ≡ station_size → Right k (length s)
  at_home s size = record { low = low; high = high; size = size }

  elsewhere : (c : Call) (s : List ℕ) → Waits k bs s → (owner c ≡ k → ⊥) → Waits k bs (after kinds c s)
  elsewhere c s h d =
      let same = other kinds sized c s k (at_home s h.size) d in
      record {
        size = length_after kinds sized c s ∙ h.size;
        formed = ap (well_formed k) same ∙ h.formed;
        waits = ap waiting same ∙ h.waits;
      }

  -- then its length is not 0
  full : (p : List ℕ) → waiting p ≡ bs → waiting_length p ≡ 0 → ⊥
  full p same none = some (sym same ∙ ap (λ (n : ℕ). take n (response_room p)) none)

  kept : (c : Call) (s : List ℕ) → (number_in (answer kinds c s) ≡ 0 → ⊥) → Waits k bs s → Waits k bs (after kinds c s)
  kept c s refused h = subst (Waits k bs) (sym (is_refused c s refused).kept) h

  unfetched : (c : Call) (s : List ℕ) → owner c ≡ k → (kind_of c).Fits → (kind_of c).fetches ≡ false → Waits k bs s → Waits k bs (after kinds c s)
  unfetched c s same fit stays h =
      let here : Right (owner c) (length s) = subst (λ (j : ℕ). Right j (length s)) (sym same) (at_home s h.size) in
      let mine : part_of k (after kinds c s) ≡ (kind_of c).leaves (part_of k s) =
      subst (λ (j : ℕ). part_of j (after kinds c s) ≡ (kind_of c).leaves (part_of j s)) same (own kinds sized c s here) in
      record {
        size = length_after kinds sized c s ∙ h.size;
        formed =
            ap (well_formed k) mine
            ∙ subst (λ (j : ℕ). well_formed j (part_of j s) ≡ true → well_formed j ((kind_of c).leaves (part_of j s)) ≡ true) same ((owes c).formed (part_of (owner c) s) fit) h.formed;
        waits = ap waiting mine ∙ ((owes c).waits (part_of k s) stays (full (part_of k s) h.waits) ∙ h.waits);
      }

  one_call : (c : Call) (s : List ℕ) → MayCome k c s → Waits k bs s → Waits k bs (after kinds c s)
  one_call c s b h = go (eqb (owner c) k) refl
    where
      mine : owner c ≡ k → ((kind_of c).fetches ≡ false) ⊎ (number_in (answer kinds c s) ≡ 0 → ⊥) → Waits k bs (after kinds c s)
      mine same (inl stays) = unfetched c s same (b.fits same) stays h
      mine same (inr refused) = kept c s refused h

      go : (t : Bool) → eqb (owner c) k ≡ t → Waits k bs (after kinds c s)
      go false e = elsewhere c s h (eqb-false (owner c) k e)
      go true e = let same = eqb-true (owner c) k e in mine same (b.stays same)

  many_calls : (cs : List Call) (s : List ℕ) → Between k cs s → Waits k bs s → Waits k bs (run_end (machine kinds) cs s)
  unfolding run_end
  many_calls [] s b h = h
  many_calls (c ∷ cs) s b h = many_calls cs (after kinds c s) b.1 (one_call c s b.0 h)

pub responds_as_ruled : RespondsAsRuled
responds_as_ruled k r s m between n w rest fits short mine left room calls enough most wide =
    let p : List ℕ = part_of k s in
    let home : Right k (length s) = record { low = rest.low; high = rest.high; size = rest.size } in
    let bytes = reads r fits short in
    let back = reads_back r fits short in
    let write = frame k (write_of r) m in
    let pass = write_passes k m p rest.formed room (request_bytes r) rest.idle short bytes (axis_is r fits short ∙ mine) (ap (exhausts_in p) back ∙ left) in
    let first = written k (write_of r) m p pass refl in
    let came = taken_is k (request_bytes r) p r bytes back mine left in
    let after_write = own kinds sized write s home in
    let bs : List ℕ = response_bytes (worked r p).response in
    let waits : Waits k bs (after kinds write s) =
    record {
      size = length_after kinds sized write s ∙ rest.size;
      formed = ap (well_formed k) after_write ∙ (owes write).formed p tt rest.formed;
      waits = ap waiting (after_write ∙ first.1)
          ∙ ((waits_as_ruled k (request_bytes r) p r (formed k p rest.formed).0 bytes back mine left).0 ∙ response_bytes_lem (worked r p).response);
    } in
    let then = run_end (machine kinds) between (after kinds write s) in
    let some : bs ≡ [] → ⊥ = λ e. let none = ap length e in omega arith in
    let still = many_calls k rest.low rest.high bs some between (after kinds write s) calls waits in
    let q : List ℕ = part_of k then in
    let there : Right k (length then) = at_home k rest.low rest.high bs some then still.size in
    let long : waiting_length q ≡ length bs = waits_all k q still.formed ∙ ap length still.waits in
    let sent = fetch_passes k w q still.formed wide n (full k rest.low rest.high bs some q still.waits) (omega (arith, long)) most in
    let second = fetched k (fetch_of n) w q sent refl bs long still.waits in
    record {
      fits = answer_fits r p fits;
      short = answer_short r p fits;
      acknowledged =
          took_answer kinds write s (fine home)
          ∙ (first.0 ∙ ap (λ (o : Outcome). replied (0x5F ∷ 0 ∷ 0x2F ∷ length (request_bytes r) ∷ []) o.stored m) came);
      answered = took_answer kinds (frame k (fetch_of n) w) then (fine there) ∙ second.0;
      idle =
          ap waiting_length (own kinds sized (frame k (fetch_of n) w) then there ∙ second.1)
          ∙ waiting_length_is [] q (formed k q still.formed).0 (omega arith);
    }

-- a write that was done, and calls after it that do not fetch or are refused: what it left waiting waits still
module _ (k : ℕ) (f m s : List ℕ) (between : List Call) (is : is_write f ≡ true) (z : number_in (answer kinds (frame k f m) s) ≡ 0) (calls : Between k between (after kinds (frame k f m) s)) where
  abbrev after_write : List ℕ
  after_write = frame_part k f m (part_of k s)

  abbrev at_fetch : List ℕ
  at_fetch = run_end (machine kinds) between (after kinds (frame k f m) s)

  was_right : Right k (length s)
  was_right = (was_done (frame k f m) s z).0

  was_taken : frame_refusal k f (length m) (part_of k s) ≡ 0
  unfolding frame_answer
  was_taken = (was_done (frame k f m) s z).1

  some_waits : waiting after_write ≡ [] → ⊥
  some_waits e =
      something_waits k f m (part_of k s) was_taken is (waits_all k after_write (left_formed k f m (part_of k s) was_taken is) ∙ ap length e)

  still : Waits k (waiting after_write) at_fetch
  still =
      let left = own kinds sized (frame k f m) s was_right in
      many_calls k was_right.low was_right.high (waiting after_write) some_waits between (after kinds (frame k f m) s) calls
      (record {
        size = length_after kinds sized (frame k f m) s ∙ was_right.size;
        formed = ap (well_formed k) left ∙ left_formed k f m (part_of k s) was_taken is;
        waits = ap waiting left;
      })

  there : Right k (length at_fetch)
  there = at_home k was_right.low was_right.high (waiting after_write) some_waits at_fetch still.size

  follows : (w : List ℕ) → 244 ≤ length w → number_in (answer kinds (frame k fetch_all w) at_fetch) ≡ 0
  unfolding frame_answer
  follows w wide =
      ap number_in (took_answer kinds (frame k fetch_all w) at_fetch (fine there))
      ∙ fetch_passes k w (part_of k at_fetch) still.formed wide 0xF0 (full k was_right.low was_right.high (waiting after_write) some_waits (part_of k at_fetch) still.waits) (formed k (part_of k at_fetch) still.formed).1 (lit≤ tt)

  -- what a fetch that is done hands over
  pub hands_over :
      (g w : List ℕ) → is_write g ≡ false → number_in (answer kinds (frame k g w) at_fetch) ≡ 0
      → answer kinds (frame k g w) at_fetch ≡ replied (0x5E ∷ 0 ∷ 0x2F ∷ length (waiting after_write) ∷ waiting after_write) 0 w
  unfolding frame_answer
  hands_over g w isnt n =
      let long = waits_all k (part_of k at_fetch) still.formed ∙ ap length still.waits in
      took_answer kinds (frame k g w) at_fetch (fine there)
      ∙ (fetched k g w (part_of k at_fetch) (was_done (frame k g w) at_fetch n).1 isnt (waiting after_write) long still.waits).0

pub fetch_follows : FetchFollows
fetch_follows k f m s between w is z calls wide = follows k f m s between is z calls w wide
