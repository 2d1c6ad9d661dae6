-- What callers may cite of every call on a station in place of its text: from document 01, "Frames and refusal numbers", document 02, R-3,
-- R-4 and R-7, and demands 1 to 3. Each is a statement here and a proof in proofs/.
use Rattle.std.specs.Prelude.{◌≡◌, Bool, true, false, cond, not, ◌&&◌, ◌||◌, ◌⊎◌, ◌↔◌, ℕ, suc, ◌+◌, ◌-◌, ◌≤◌, ◌<◌, eqb, leb, length, take, drop}
use mathlib.Core.List.{List, [], ◌∷◌, ◌++◌, Memᴰ}
use Rattle.codes.specs.Code.{got, AllOf, readable}
use Rattle.codes.specs.Number.{put}
use Rattle.blocks.specs.Block.{block_limit}
use Rattle.blocks.specs.Request.{Request, request}
use Rattle.blocks.specs.Response.{Response, response}
use Rattle.blocks.specs.Page.{RequestFits, request_bytes, ResponseFits, response_bytes}
use Rattle.blocks.specs.Place.{header_of}
use Rattle.checker.specs.Check.{check_of}
use Rattle.drive.specs.Cycle.{cycle_of}
use Rattle.catalogue.specs.declared.Row.{Row}
use Rattle.catalogue.specs.Table.{rows}
use Rattle.catalogue.specs.Element.{element_of}
use Rattle.versions.specs.Layout.{is_setting, last_used}
use Rattle.versions.specs.Version.{settings_of, version_of, is_kept}
use Rattle.part.specs.Layout.{part_size, waiting_length, waiting, with_response, middle, versions}
use Rattle.part.specs.Record.{drive_of}
use Rattle.access.specs.Work.{worked, exhausts, outcome_of, exhausts_in}
use Rattle.part.specs.Fresh.{fresh_part}
use Rattle.part.specs.WellFormed.{well_formed}
use Rattle.station.specs.Parts.{farms, station_size, part_of, fresh_station}
use Rattle.station.specs.declared.Framed.{Framed}
use Rattle.station.specs.declared.Listed.{Listed}
use Rattle.station.specs.Frame.{is_write, is_read, block_of, fetch_of, frame_refusal, reply_of, frame_reply}
use Rattle.station.specs.Exchange.{fetch_all}
use Rattle.station.specs.declared.Sent.{Sent}
use Rattle.station.specs.Cycle.{input_of, cycle_refusal, cycle_answer, cycle_part}
use Rattle.station.specs.Runs.{run_answers, run_end}
use Rattle.station.specs.Isolation.{Isolated, answer, after, machine}
use Rattle.station.specs.Calls.{Call, frame, exchange, list, go_back, frame_by, Answer, to_frame, to_list, to_return, number_in, stored_in, kind_of, owner, kinds}

-- Demand 2 for the calls of today
abbrev pub IsolatedStation : Type 0
IsolatedStation = Isolated kinds

-- one call alone: it leaves the size of the memory, and every part but its owner's
abbrev pub KeepsSize : Type 0
KeepsSize = (c : Call) (s : List ℕ) → length (after kinds c s) ≡ length s

abbrev pub KeepsOthers : Type 0
KeepsOthers =
    (c : Call) (s : List ℕ) → length s ≡ station_size → (k : ℕ) → 1 ≤ k → k ≤ farms → (owner c ≡ k → ⊥)
    → part_of k (after kinds c s) ≡ part_of k s

-- Document 01's table of refusal numbers, for any call on a station: the first that applies, or 0
abbrev pub table_number : Call → List ℕ → ℕ
table_number c s =
    let k = owner c in
    cond (not (leb 1 k && leb k farms)) 1
    (cond (not (eqb (length s) station_size) || not (well_formed k (part_of k s))) 2
    ((kind_of c).tests (part_of k s)))

-- every call is numbered by the table, wherever its number is decided: 1 and the size of 2 before any part is looked at (`station_refusal`),
abbrev pub NumberedByTable : Type 0
NumberedByTable = (c : Call) (s : List ℕ) → number_in (answer kinds c s) ≡ table_number c s

-- and 10, 11 and 15 where the block is worked (`outcome_of`)
abbrev pub BlockNumbered : Type 0
BlockNumbered =
    (k : ℕ) (s p : List ℕ)
    → (outcome_of k s p).number
    ≡ cond (not (readable block_limit request s)) 10
    (cond (not (eqb (header_of s).axis k)) 11
    (cond (exhausts_in p (request.read s)) 15 0))

-- R-7: 15 is the number of a block of the caller's axis exactly where the last number is used and something would be stored
abbrev pub FifteenExactly : Type 0
FifteenExactly =
    (k : ℕ) (s p : List ℕ) (r : Request) → readable block_limit request s ≡ true → request.read s ≡ got r [] → r.axis ≡ k
    → ((outcome_of k s p).number ≡ 15) ↔ ((last_used (versions p) ≡ 65535) × ((worked r p).stored ≡ 0 → ⊥))

-- a call is refused: its number is not 0, its answer follows from that number, and "the whole station" stays unchanged
pub record Refuses (c : Call) (s : List ℕ) : Type 0 where
  pub number : number_in (answer kinds c s) ≡ 0 → ⊥
  pub answered : answer kinds c s ≡ (kind_of c).refused (number_in (answer kinds c s))
  pub kept : after kinds c s ≡ s

-- every number but 0 is a refusal
abbrev pub Refused : Type 0
Refused = (c : Call) (s : List ℕ) → (number_in (answer kinds c s) ≡ 0 → ⊥) → Refuses c s

-- Document 02, R-1: a cycle that is not refused tells what the cycle of its axis's drive did
abbrev pub TellsWhatItDid : Type 0
TellsWhatItDid =
    (k : ℕ) (i : Sent) (p : List ℕ) → cycle_refusal k i p ≡ 0
    → let did = (cycle_of (drive_of p) (input_of i p)).output in
    ((cycle_answer k i p).acknowledged ≡ did.acknowledged) × ((cycle_answer k i p).entered ≡ did.entered)

-- a frame, by itself or merged, refused by numbers 1 to 4: "empty reply", and the reply memory is as it was
abbrev pub EmptyReply : Type 0
EmptyReply =
    (merged : Bool) (k : ℕ) (f m s : List ℕ) (n : ℕ) → number_in (answer kinds (frame_by merged k f m) s) ≡ n → 1 ≤ n → n ≤ 4
    → answer kinds (frame_by merged k f m) s ≡ to_frame (record { length = 0; stored = 0; number = n }) m

-- a reply stands at the start of the reply memory, whole, and the bytes past it stay unchanged
abbrev pub ReplyStands : Type 0
ReplyStands =
    (k : ℕ) (f m p : List ℕ)
    → let reply = reply_of f p (frame_refusal k f (length m) p) in frame_reply k f m p ≡ reply ++ drop (length reply) m

-- so of a frame and of a merged call, whatever it answers: no reply is longer than 244 bytes, and what is past it stays
abbrev pub PastStays : Type 0
PastStays =
    (merged : Bool) (k : ℕ) (f m s : List ℕ) (a : Framed) (w : List ℕ) → answer kinds (frame_by merged k f m) s ≡ to_frame a w
    → (a.length ≤ 244) × (length w ≡ length m) × (drop a.length w ≡ drop a.length m)

-- Demand 1: "a frame for another farm's axis changes no stored element", by itself or merged, whatever else is wrong with it
abbrev pub ForeignAxis : Type 0
ForeignAxis =
    (merged : Bool) (k : ℕ) (f m s : List ℕ) → is_write f ≡ true → ((header_of (block_of f)).axis ≡ k → ⊥) → Refuses (frame_by merged k f m) s

-- nor does a block that is not readable
abbrev pub UnreadableBlock : Type 0
UnreadableBlock =
    (merged : Bool) (k : ℕ) (f m s : List ℕ) → is_write f ≡ true → readable block_limit request (block_of f) ≡ false
    → Refuses (frame_by merged k f m) s

-- every part of a fresh station is fresh
abbrev pub FreshParts : Type 0
FreshParts = (s : List ℕ) → length s ≡ station_size → (k : ℕ) → 1 ≤ k → k ≤ farms → part_of k (fresh_station s) ≡ fresh_part

-- a station of the right size whose every part is well-formed
pub record WellFormedStation (s : List ℕ) : Type 0 where
  pub size : length s ≡ station_size
  pub parts : (k : ℕ) → 1 ≤ k → k ≤ farms → well_formed k (part_of k s) ≡ true

-- every call keeps every part well-formed
abbrev pub CallKeepsWellFormed : Type 0
CallKeepsWellFormed = (c : Call) (s : List ℕ) → (kind_of c).Fits → WellFormedStation s → WellFormedStation (after kinds c s)

-- so, whatever is called on a fresh station, its parts are well-formed and no call is refused by number 2
pub record FromFresh (cs : List Call) (s : List ℕ) : Type 0 where
  pub ends : WellFormedStation (run_end (machine kinds) cs (fresh_station s))
  pub never2 : AllOf (λ a. number_in a ≡ 2 → ⊥) (run_answers (machine kinds) cs (fresh_station s))

abbrev pub NeverIllFormed : Type 0
NeverIllFormed = (cs : List Call) (s : List ℕ) → AllOf (λ c. (kind_of c).Fits) cs → length s ≡ station_size → FromFresh cs s

-- Demand 3, its last sentence: "every response we send is readable and is the one that demand 2 gives." Farm k at rest: on a station of
-- the right size, its part is well-formed and no response waits.
pub record AtRest (k : ℕ) (s : List ℕ) : Type 0 where
  pub low : 1 ≤ k
  pub high : k ≤ farms
  pub size : length s ≡ station_size
  pub formed : well_formed k (part_of k s) ≡ true
  pub idle : waiting_length (part_of k s) ≡ 0

-- the frame that writes a request
abbrev pub write_of : Request → List ℕ
write_of r = 0x5F ∷ 0 ∷ 0x2F ∷ length (request_bytes r) ∷ request_bytes r

-- what may come between a write of farm k and its fetch, on the station s: every call of others, and of its own every one that does not
-- fetch or is refused
pub record MayCome (k : ℕ) (c : Call) (s : List ℕ) : Type 0 where
  pub fits : owner c ≡ k → (kind_of c).Fits
  pub stays : owner c ≡ k → ((kind_of c).fetches ≡ false) ⊎ (number_in (answer kinds c s) ≡ 0 → ⊥)

-- such calls, one after the other
abbrev pub Between : ℕ → List Call → List ℕ → Type 0
Between k [] s = Unit {0}
Between k (c ∷ cs) s = MayCome k c s × Between k cs (after kinds c s)

-- a frame that was worked: the elements stored, and the reply, past which the reply memory m is as it was
abbrev pub replied : List ℕ → ℕ → List ℕ → Answer
replied reply stored m = to_frame (record { length = length reply; stored = stored; number = 0 }) (reply ++ drop (length reply) m)

-- farm k writes the request r on the station s, with the reply memory m; other calls follow; then it fetches at most n bytes into w
module _ (k : ℕ) (r : Request) (s m : List ℕ) (between : List Call) (n : ℕ) (w : List ℕ) where
  -- the response that the rules give for the part at the write
  abbrev pub ruled : Response
  ruled = (worked r (part_of k s)).response

  -- the station when it is fetched
  abbrev pub at_fetch : List ℕ
  at_fetch = run_end (machine kinds) between (after kinds (frame k (write_of r) m) s)

  pub record Responded : Type 0 where
    pub fits : ResponseFits ruled
    pub short : length (response_bytes ruled) ≤ block_limit
    pub acknowledged :
        answer kinds (frame k (write_of r) m) s
        ≡ replied (0x5F ∷ 0 ∷ 0x2F ∷ length (request_bytes r) ∷ []) (worked r (part_of k s)).stored m
    pub answered :
        answer kinds (frame k (fetch_of n) w) at_fetch
        ≡ replied (0x5E ∷ 0 ∷ 0x2F ∷ length (response_bytes ruled) ∷ response_bytes ruled) 0 w
    pub idle : waiting_length (part_of k (after kinds (frame k (fetch_of n) w) at_fetch)) ≡ 0

abbrev pub RespondsAsRuled : Type 0
RespondsAsRuled =
    (k : ℕ) (r : Request) (s m : List ℕ) (between : List Call) (n : ℕ) (w : List ℕ)
    → AtRest k s → RequestFits r → length (request_bytes r) ≤ block_limit → r.axis ≡ k → exhausts r (part_of k s) ≡ false → 244 ≤ length m
    → Between k between (after kinds (frame k (write_of r) m) s)
    → length (response_bytes (worked r (part_of k s)).response) ≤ n → n ≤ block_limit → 244 ≤ length w
    → Responded k r s m between n w

-- Document 02, R-3: the fetch with F0 after a write that was done is never refused, whatever may come between,
abbrev pub FetchFollows : Type 0
FetchFollows =
    (k : ℕ) (f m s : List ℕ) (between : List Call) (w : List ℕ)
    → is_write f ≡ true → number_in (answer kinds (frame k f m) s) ≡ 0 → Between k between (after kinds (frame k f m) s) → 244 ≤ length w
    → number_in (answer kinds (frame k fetch_all w) (run_end (machine kinds) between (after kinds (frame k f m) s))) ≡ 0

-- so a merged call "equals the two calls made in turn from the same station": the fetch's answer, with what the write stored,
abbrev pub InTurn : Type 0
InTurn =
    (k : ℕ) (f m s : List ℕ) (write fetch : Framed) (m' m'' : List ℕ)
    → is_write f ≡ true → answer kinds (frame k f m) s ≡ to_frame write m' → write.number ≡ 0
    → answer kinds (frame k fetch_all m') (after kinds (frame k f m) s) ≡ to_frame fetch m''
    → (answer kinds (exchange k f m) s ≡ to_frame (record { length = fetch.length; stored = write.stored; number = 0 }) m'')
    × (after kinds (exchange k f m) s ≡ after kinds (frame k fetch_all m') (after kinds (frame k f m) s))

-- "where the write is refused, the write alone",
abbrev pub WriteAlone : Type 0
WriteAlone =
    (k : ℕ) (f m s : List ℕ) → is_read f ≡ false → (number_in (answer kinds (frame k f m) s) ≡ 0 → ⊥)
    → (answer kinds (exchange k f m) s ≡ answer kinds (frame k f m) s) × (after kinds (exchange k f m) s ≡ after kinds (frame k f m) s)

-- and a read is answered as no frame at all: 4, after 1, 2 and 3, whatever follows its first byte
abbrev pub ReadAsNone : Type 0
ReadAsNone =
    (k : ℕ) (f m s : List ℕ) → is_read f ≡ true
    → (answer kinds (exchange k f m) s ≡ answer kinds (frame k [] m) s) × (after kinds (exchange k f m) s ≡ s)

-- In terms of requests: farm k at rest is answered by the response that the rules give for its part, "leaving the axis idle"
pub record Merged (k : ℕ) (r : Request) (s m : List ℕ) : Type 0 where
  pub answered :
      let given = response_bytes (worked r (part_of k s)).response in
      answer kinds (exchange k (write_of r) m) s ≡ replied (0x5E ∷ 0 ∷ 0x2F ∷ length given ∷ given) (worked r (part_of k s)).stored m
  pub left : part_of k (after kinds (exchange k (write_of r) m) s) ≡ with_response [] (worked r (part_of k s)).part
  pub idle : waiting_length (part_of k (after kinds (exchange k (write_of r) m) s)) ≡ 0

abbrev pub MergesAsRuled : Type 0
MergesAsRuled =
    (k : ℕ) (r : Request) (s m : List ℕ)
    → AtRest k s → RequestFits r → length (request_bytes r) ≤ block_limit → r.axis ≡ k → exhausts r (part_of k s) ≡ false → 244 ≤ length m
    → Merged k r s m

-- Document 02, R-4: "Every response of our own station passes for its request." The block of a reply, after its four bytes
abbrev pub block_sent : Framed → List ℕ → List ℕ
block_sent a m = take (a.length - 4) (drop 4 m)

-- what any fetch answers that is done passes for the block of the write before it, whatever may come between,
abbrev pub FetchedPasses : Type 0
FetchedPasses =
    (k : ℕ) (f m s : List ℕ) (between : List Call) (g w : List ℕ) (a : Framed) (w' : List ℕ)
    → is_write f ≡ true → number_in (answer kinds (frame k f m) s) ≡ 0 → Between k between (after kinds (frame k f m) s)
    → is_read g ≡ true → answer kinds (frame k g w) (run_end (machine kinds) between (after kinds (frame k f m) s)) ≡ to_frame a w' → a.number ≡ 0
    → check_of (block_of f) (block_sent a w') ≡ 0

-- and what a merged call answers that is done
abbrev pub MergedPasses : Type 0
MergedPasses =
    (k : ℕ) (f m s : List ℕ) (a : Framed) (w : List ℕ) → answer kinds (exchange k f m) s ≡ to_frame a w → a.number ≡ 0
    → check_of (block_of f) (block_sent a w) ≡ 0

-- What a fetch answers rests on what waits after a block is worked,
abbrev pub WaitsAsRuled : Type 0
WaitsAsRuled =
    (k : ℕ) (s p : List ℕ) (r : Request) → length p ≡ part_size → readable block_limit request s ≡ true → request.read s ≡ got r [] → r.axis ≡ k
    → exhausts r p ≡ false
    → (waiting (outcome_of k s p).part ≡ response.write (worked r p).response) × (readable block_limit response (waiting (outcome_of k s p).part) ≡ true)

-- and that every call which does not fetch leaves it waiting (`Owes`): a cycle whatever waits
abbrev pub CycleKeepsWaiting : Type 0
CycleKeepsWaiting = (k : ℕ) (i : Sent) (p : List ℕ) → waiting (cycle_part k i p) ≡ waiting p

-- of any fetch, whatever was called before it: what is sent is what waits, and is readable
abbrev pub SendsWaiting : Type 0
SendsWaiting =
    (k : ℕ) (f m p : List ℕ) → frame_refusal k f (length m) p ≡ 0 → is_write f ≡ false
    → (frame_reply k f m p ≡ put m 0 (0x5E ∷ 0 ∷ 0x2F ∷ waiting_length p ∷ waiting p)) × (readable block_limit response (waiting p) ≡ true)

-- Document 02, R-7: the versions of farm k on a station
abbrev pub versions_of : ℕ → List ℕ → List ℕ
versions_of k s = versions (part_of k s)

-- between the stations s and t farm k took a version: the next number is used, that version is the settings as they are on t, and those
-- that are still kept are as they were
pub record Took (k : ℕ) (s t : List ℕ) : Type 0 where
  pub next : last_used (versions_of k t) ≡ suc (last_used (versions_of k s))
  pub settings : version_of (last_used (versions_of k t)) (versions_of k t) ≡ settings_of (part_of k t)
  pub kept :
      (n : ℕ) → n ≤ last_used (versions_of k s) → is_kept n (versions_of k t) ≡ true
      → version_of n (versions_of k t) ≡ version_of n (versions_of k s)

-- "A version is taken after every change that stores at least one element": of any kind,
abbrev pub VersionTaken : Type 0
VersionTaken = (c : Call) (s : List ℕ) → (stored_in (answer kinds c s) ≡ 0 → ⊥) → Took (owner c) s (after kinds c s)

-- and no other call touches the versions of any farm
abbrev pub VersionsStay : Type 0
VersionsStay =
    (c : Call) (s : List ℕ) → length s ≡ station_size → stored_in (answer kinds c s) ≡ 0 → (k : ℕ) → 1 ≤ k → k ≤ farms
    → versions_of k (after kinds c s) ≡ versions_of k s

-- So a version is what the settings were after its change, whatever is called afterwards, for as long as it is kept.
abbrev pub VersionStands : Type 0
VersionStands =
    (c : Call) (s : List ℕ) (later : List Call) → (stored_in (answer kinds c s) ≡ 0 → ⊥)
    → let t = after kinds c s in
    let n = last_used (versions_of (owner c) t) in
    let end = run_end (machine kinds) later t in
    is_kept n (versions_of (owner c) end) ≡ true → version_of n (versions_of (owner c) end) ≡ settings_of (part_of (owner c) t)

-- a fresh station has used no number
abbrev pub FreshUsesNone : Type 0
FreshUsesNone = (s : List ℕ) → length s ≡ station_size → (k : ℕ) → 1 ≤ k → k ≤ farms → last_used (versions_of k (fresh_station s)) ≡ 0

-- a list tells exactly which numbers are kept
abbrev pub ListsKept : Type 0
ListsKept =
    (k : ℕ) (s : List ℕ) (a : Listed) → answer kinds (list k) s ≡ to_list a → a.number ≡ 0
    → (n : ℕ) → (is_kept n (versions_of k s) ≡ true) ↔ ((a.oldest ≤ n) × (n < a.oldest + a.kept))

-- "go back to one, which stores all its elements (18 today) as a new version", element by element; "State, faults and words are not
-- rewound": no other element of the table, and no byte between the parameters and the versions, is changed
pub record WentBack (k n : ℕ) (s t : List ℕ) : Type 0 where
  pub answered : answer kinds (go_back k n) s ≡ to_return (record { stored = 18; version = suc (last_used (versions_of k s)); number = 0 })
  pub settings : settings_of (part_of k t) ≡ version_of n (versions_of k s)
  pub others :
      (q : Row) → Memᴰ q rows → is_setting q ≡ false → (j : ℕ) → j < q.count
      → element_of q j (part_of k t) ≡ element_of q j (part_of k s)
  pub rest : middle (part_of k t) ≡ middle (part_of k s)

abbrev pub GoesBack : Type 0
GoesBack = (k n : ℕ) (s : List ℕ) → number_in (answer kinds (go_back k n) s) ≡ 0 → WentBack k n s (after kinds (go_back k n) s)

-- and every version that is kept can be gone back to while a number is left
abbrev pub KeptCanReturn : Type 0
KeptCanReturn =
    (k n : ℕ) (s : List ℕ) → 1 ≤ k → k ≤ farms → length s ≡ station_size → well_formed k (part_of k s) ≡ true
    → is_kept n (versions_of k s) ≡ true → last_used (versions_of k s) < 65535
    → number_in (answer kinds (go_back k n) s) ≡ 0
