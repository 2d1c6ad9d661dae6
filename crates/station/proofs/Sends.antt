-- What waits after a block is worked is the response that the rules give, and what is sent is what waits.
use mathlib.Core.Path.{◌≡◌, refl, ◌∙◌, ap}
use mathlib.Core.Bool.{Bool, true, false, not, ◌&&◌, ◌||◌, and-eq-true_iff}
use mathlib.Core.List.{List, []}
use Prim.Native.Nat.{ℕ}
use lib.Dec.{eqb, leb}
use lib.ListN.{length}
use borrow.Author.Tests.{eq-eqb}
use Rattle.codes.specs.Code.{got, readable}
use Rattle.blocks.specs.Block.{block_limit}
use Rattle.blocks.specs.Request.{Request, request}
use Rattle.blocks.specs.Response.{response}
use Rattle.blocks.proofs.Sound.{request_sound}
use Rattle.blocks.proofs.Page.{request_valid}
use Rattle.blocks.specs.Place.{header_of}
use Rattle.part.specs.Layout.{waiting_length, waiting}
use Rattle.part.specs.WellFormed.{waiting_fits}
use Rattle.part.proofs.Held.{readable_short}
use Rattle.part.proofs.Rule.{form_of}
use Rattle.part.proofs.Laws.{waiting_is_given}
use Rattle.access.specs.Work.{worked, Outcome, exhausts, outcome_of}
use Rattle.access.proofs.Answers.{answer_readable}
use Rattle.access.proofs.Keeps.{only_stored_changes}
use Rattle.station.specs.Frame.{is_write, is_read, frame_reply}
use Rattle.station.specs.Laws.{WaitsAsRuled, SendsWaiting}
use Rattle.station.proofs.Outcome.{done}
use Rattle.station.proofs.Judged.{done_passes}

-- a readable block of the axis itself is worked
pub taken_is :
    (k : ℕ) (s p : List ℕ) (r : Request) → readable block_limit request s ≡ true → request.read s ≡ got r [] → r.axis ≡ k → exhausts r p ≡ false
    → outcome_of k s p ≡ done r p
unfolding outcome_of
taken_is k s p r a e x left = rw (a, e, eq-eqb r.axis k x, left)

pub waits_as_ruled : WaitsAsRuled
waits_as_ruled k s p r h a e x left =
    let fits = (request_valid r).0 (request_sound.only s r [] e).0 in
    let bs = response.write (worked r p).response in
    let good : readable block_limit response bs ≡ true = answer_readable r p fits in
    let is : waiting (outcome_of k s p).part ≡ bs = ap (λ (o : Outcome). waiting o.part) (taken_is k s p r a e x left) ∙ waiting_is_given bs (worked r p).part ((only_stored_changes r p fits).size ∙ h) (readable_short bs good) in
    (is, ap (readable block_limit response) is ∙ good)

-- a read in its turn: something waits
waits : (write reads none : Bool) → write ≡ false → write || reads ≡ true → (write && not none || reads && none) ≡ false → none ≡ false
waits write reads none x r t = rw (x, rw x at r) at t

-- of what waits in a well-formed part
reads_back : (none short reads own : Bool) → none ≡ false → none || short && reads && own ≡ true → reads ≡ true
reads_back none short reads own x w = ((and-eq-true_iff short reads).0 ((and-eq-true_iff (short && reads) own).0 (rw x at w)).0).1

pub sends_waiting : SendsWaiting
unfolding frame_reply waiting_fits
sends_waiting k f m p e x =
    let c = done_passes k f (length m) p e in
    let some = waits (is_write f) (is_read f) (eqb (waiting_length p) 0) x c.function c.turn in (
      rw (e, x) refl,
      reads_back (eqb (waiting_length p) 0) (leb (waiting_length p) block_limit) (readable block_limit response (waiting p)) (eqb (header_of (waiting p)).axis k) some (form_of k p c.formed).waits,
    )
