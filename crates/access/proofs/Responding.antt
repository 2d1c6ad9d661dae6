-- The response that waits: a header over the first bytes of an array, and the blocks that stand after it; for a change, the refusal by 15
-- and the version before it.
use Rattle.std.proofs.lemmas.List.{drop-take}
use Rattle.access.specs.declared.error.Refused.TheVariants.{UsedUp}
use Rattle.std.specs.Prelude.{Ok, Err}
use mathlib.Core.Path.{◌≡◌, refl, sym, ◌∙◌, ap, subst}
use mathlib.Core.Bool.{Bool, true, false, cond, not, ◌&&◌, and-false}
use mathlib.Core.List.{List, [], ◌++◌}
use mathlib.Core.Logic.{◌⊎◌, inl, inr}
use Prim.Native.Nat.{ℕ, ◌+◌, ◌*◌, ◌-◌, ◌≤◌}
use native.Mathlib.Omega.{arith}
use lib.Dec.{eqb}
use lib.ListN.{length, take, drop, replicate, length-replicate}
use lib.Seq.{length-take-le, take_at, drop_at}
use borrow.Author.Tests.{eq-eqb, ne_eqb}
use Rattle.codes.specs.Code.{readable, write_all}
use Rattle.codes.specs.Number.{put}
use Rattle.codes.proofs.Put.{put_fits}
use Rattle.blocks.specs.Block.{Block, block_limit}
use Rattle.blocks.specs.Page.{block_bytes}
use Rattle.blocks.specs.Place.{header_of, header_bytes, walk}
use Rattle.blocks.specs.Request.{Request, request}
use Rattle.blocks.specs.Response.{has_error, response}
use Rattle.blocks.specs.declared.Header.{Header}
use Rattle.blocks.specs.declared.reader.Address.{Address}
use Rattle.blocks.proofs.Page.{response_bytes_lem}
use Rattle.part.specs.Layout.{with_response, with_version, used_up}
use Rattle.access.specs.declared.reply.Reply.{Reply}
use Rattle.access.specs.Read.{read_blocks}
use Rattle.access.specs.Change.{ChangedAll, change_all}
use Rattle.access.specs.Work.{answer_of, worked_read, worked_change}
use Rattle.access.specs.Walk.{no_blocks, with_blocks, DidAll, blocks_in, request_in, responded_part, change_outcome, Reported}
use Rattle.access.proofs.Checks.{pick}
use Rattle.access.proofs.Filled.{WroteAll, all_wrote}
use Rattle.access.proofs.Room.{blocks_room}
use Rattle.access.proofs.Answering.{answers_short}
use Rattle.access.proofs.Apart.{none_stored, told, Lent, did_told}
use Rattle.access.proofs.Requested.{header_is, count_few, walk_is, walk_whole, blocks_are}

-- the first n bytes, under a header
pub header_over : (l : List ℕ) (h : Header) → 4 ≤ length l → put l 0 (header_bytes h) ≡ header_bytes h ++ drop 4 l
header_over l h s = put_fits l 0 (header_bytes h) s

-- the first n bytes past the header
pub past_header : (l : List ℕ) (n : ℕ) → 4 ≤ n → drop 4 (take n l) ≡ take (n - 4) (drop 4 l)
past_header l n k = let z : n ≡ 4 + (n - 4) = omega arith in ap (λ (m : ℕ). drop 4 (take m l)) z ∙ drop-take 4 (n - 4) l

-- what was put after it
put_back : (l bs : List ℕ) (at n : ℕ) → at + length bs ≤ length l → n ≡ at + length bs → take (n - at) (drop at (put l at bs)) ≡ bs
put_back l bs at n h e =
    let rest = drop (at + length bs) l in
    let k : n - at ≡ length bs = omega arith in
    ap (λ (x : List ℕ). take (n - at) (drop at x)) (put_fits l at bs h)
    ∙ (ap (take (n - at)) (drop_at (take at l) (bs ++ rest) at (length-take-le at l (omega arith)))
    ∙ (ap (λ (m : ℕ). take m (bs ++ rest)) k ∙ take_at bs rest (length bs) refl))

-- the request's header with another identifier
abbrev named : Header → ℕ → Header
named h id = record { reference = h.reference; identifier = id; axis = h.axis; count = h.count }

-- a version is taken of the part q, which is then t, where something is stored and no number is wanting
abbrev pub Versioned : Bool → ℕ → List ℕ → List ℕ → Type 0
Versioned only stored q t = ((stored ≡ 0 → ⊥) × (only ≡ false) × (t ≡ with_version q)) ⊎ ((stored ≡ 0) × (t ≡ q))

module _ (s : List ℕ) (e : readable block_limit request s ≡ true) (h : Header) (eh : h ≡ header_of s) (p : List ℕ) (x : Reply) (none : x ≡ no_blocks) where
  abbrev r : Request
  r = request_in s

  bare : (id : ℕ) (bs : List Block) → header_bytes (named h id) ++ write_all block_bytes bs ≡ response.write (answer_of r id bs)
  bare id bs = ap (λ (x : Header). header_bytes (named x id) ++ write_all block_bytes bs) (header_is s e h eh) ∙ sym (response_bytes_lem (answer_of r id bs))

  -- blocks that fit are put after the header
  wrote : (bs : List Block) (y : Reply) → 4 + length (write_all block_bytes bs) ≤ block_limit → y ≡ with_blocks bs x → WroteAll (replicate block_limit 0) 4 bs y
  wrote bs y k o = all_wrote bs (replicate block_limit 0) 4 y (omega (arith, k, length-replicate {A = ℕ} block_limit 0)) (o ∙ ap (with_blocks bs) none)

  -- a header over the blocks that were written
  full : (id : ℕ) (bs : List Block) (y : Reply) → WroteAll (replicate block_limit 0) 4 bs y → y.next ≤ block_limit → header_bytes (named h id) ++ take (y.next - 4) (drop 4 y.bytes) ≡ response.write (answer_of r id bs)
  full id bs y o k =
      ap (λ (l : List ℕ). header_bytes (named h id) ++ take (y.next - 4) (drop 4 l)) o.bytes
      ∙ (ap (λ (l : List ℕ). header_bytes (named h id) ++ l) (put_back (replicate block_limit 0) (write_all block_bytes bs) 4 y.next (omega (arith, o.next, length-replicate {A = ℕ} block_limit 0)) o.next) ∙ bare id bs)

  module _ (y : Reply) (o : y ≡ with_blocks (read_blocks p 4 (walk h.count s 4)) x) where
    read_wrote : WroteAll (replicate block_limit 0) 4 (read_blocks p 4 (walk h.count s 4)) y
    read_wrote = wrote (read_blocks p 4 (walk h.count s 4)) y (blocks_room p (walk h.count s 4) 4 (omega (arith, walk_whole s e h eh, count_few s e h eh))) o

    pub read_room : (4 ≤ y.next) × (y.next ≤ block_limit)
    read_room =
        let b = blocks_room p (walk h.count s 4) 4 (omega (arith, walk_whole s e h eh, count_few s e h eh)) in
        (omega (arith, read_wrote.next), omega (arith, read_wrote.next))

    pub read_leaves : (t : Bool) → y.error ≡ t → (m : List ℕ) → m ≡ with_response (header_bytes (named h (cond t 0x81 0x01)) ++ take (y.next - 4) (drop 4 y.bytes)) p → m ≡ responded_part (worked_read r p)
    read_leaves t q m k =
        let bs = read_blocks p 4 r.addresses in
        let same : WroteAll (replicate block_limit 0) 4 bs y = subst (λ (them : List Address). WroteAll (replicate block_limit 0) 4 (read_blocks p 4 them) y) (walk_is s e h eh) read_wrote in
        k
        ∙ (ap (λ (l : List ℕ). with_response l p) (full (cond t 0x81 0x01) bs y same read_room.1)
        ∙ ap (λ (l : Bool). with_response (response.write (answer_of r (cond l 0x81 0x01) bs)) p) (sym q ∙ same.error))

  module _
      (no : h.identifier ≡ 1 → ⊥) (only : Bool) (n : ℕ) (lent : Lent only n p) (left : List ℕ) (y : Reply) (count : ℕ)
      (o : DidAll (change_all (walk h.count s 4) (blocks_in h.count s (4 + h.count * 6)) (take n p)) left x y count) where
    abbrev sent : ChangedAll
    sent = change_all (walk h.count s 4) (blocks_in h.count s (4 + h.count * 6)) (take n p)

    few : 4 + length (write_all block_bytes sent.blocks) ≤ block_limit
    few =
        let b = answers_short (walk h.count s 4) (blocks_in h.count s (4 + h.count * 6)) (take n p) in
        omega (arith, walk_whole s e h eh, count_few s e h eh)

    pub change_room : (4 ≤ y.next) × (y.next ≤ block_limit)
    change_room =
        let k = (wrote sent.blocks y few o.wrote).next in
        (omega (arith, k), omega (arith, k, few))

    abbrev c : ChangedAll
    c = change_all r.addresses r.blocks p

    abbrev q : List ℕ
    q = left ++ drop n p

    same : DidAll (told only r.addresses r.blocks p) q x y count
    same =
        did_told only n p lent r.addresses r.blocks left x y count
        (subst (λ (bs : List Block). DidAll (change_all r.addresses bs (take n p)) left x y count) (blocks_are s e h eh no)
        (subst (λ (them : List Address). DidAll (change_all them (blocks_in h.count s (4 + h.count * 6)) (take n p)) left x y count) (walk_is s e h eh) o))

    came_to : WroteAll (replicate block_limit 0) 4 c.blocks y
    came_to =
        let b = answers_short r.addresses r.blocks p in
        wrote c.blocks y (omega (arith, b, ap length (walk_is s e h eh), walk_whole s e h eh, count_few s e h eh)) same.wrote

    -- something would be stored, and the numbers are used up
    pub change_refused : only ≡ used_up p → only ≡ true → (count ≡ 0 → ⊥) → Reported (change_outcome r p) q (Err UsedUp)
    change_refused u t some =
        let spent : used_up p ≡ true = sym u ∙ t in
        let stored : eqb c.stored 0 ≡ false = ne_eqb c.stored 0 (λ z. some (same.stored ∙ z)) in
        let kept : q ≡ p = same.part ∙ rw t in
        rw (spent, stored) (record { number = refl; stored = refl; part = kept })

    module _ (u : only ≡ used_up p) (t : List ℕ) (came : Versioned only count q t) where
      -- else what was stored is kept as a version
      goes_on : (used_up p && not (eqb c.stored 0) ≡ false) × (t ≡ (worked_change r p).part)
      goes_on = go came
        where
          go : Versioned only count q t → (used_up p && not (eqb c.stored 0) ≡ false) × (t ≡ (worked_change r p).part)
          go (inl x) =
              let free : used_up p ≡ false = sym u ∙ x.1 in
              let some : eqb c.stored 0 ≡ false = ne_eqb c.stored 0 (λ z. x.0 (same.stored ∙ z)) in
              let whole : q ≡ c.part = same.part ∙ rw x.1 in
              (rw free refl, x.2 ∙ (ap with_version whole ∙ rw some refl))
          go (inr x) =
              let zero : c.stored ≡ 0 = sym same.stored ∙ x.0 in
              let none : eqb c.stored 0 ≡ true = eq-eqb c.stored 0 zero in
              (rw (none, and-false) refl, x.1 ∙ (same.part ∙ (pick (λ y. y ≡ c.part) only (λ e. sym (none_stored r.addresses r.blocks p zero)) (λ e. refl) ∙ rw none refl)))

      answered : (m : List ℕ) → m ≡ with_response (response.write (worked_change r p).response) t → Reported (change_outcome r p) m (Ok count)
      answered m k =
          rw goes_on.0 (record { number = refl; stored = same.stored; part = k ∙ ap (with_response (response.write (worked_change r p).response)) goes_on.1 })

      pub change_failed : y.error ≡ true → (m : List ℕ) → m ≡ with_response (header_bytes (named h 0x82) ++ take (y.next - 4) (drop 4 y.bytes)) t → Reported (change_outcome r p) m (Ok count)
      change_failed f m k =
          let w : has_error c.blocks ≡ true = sym came_to.error ∙ f in
          answered m
          (k ∙ (ap (λ (x : List ℕ). with_response x t) (full 0x82 c.blocks y came_to change_room.1) ∙ rw w refl))

      pub change_done : y.error ≡ false → (m : List ℕ) → m ≡ with_response (header_bytes (named h 0x02) ++ take (4 - 4) (drop 4 y.bytes)) t → Reported (change_outcome r p) m (Ok count)
      change_done f m k =
          let w : has_error c.blocks ≡ false = sym came_to.error ∙ f in
          answered m (k ∙ (ap (λ (x : List ℕ). with_response x t) (bare 0x02 []) ∙ rw w refl))
