-- What the tests of a station call settle, for every kind of call.
use mathlib.Core.Path.{◌≡◌, refl, ap}
use mathlib.Core.Bool.{Bool, true, false, cond, not, ◌&&◌}
use mathlib.Core.List.{List, []}
use Prim.Native.Nat.{ℕ, zero, suc, ◌-◌, ◌≤◌, ◌<◌}
use native.Mathlib.Omega.{arith}
use lib.Dec.{eqb, leb, lit<}
use lib.ListN.{length, take, drop}
use borrow.Author.Tests.{le-leb, eq-eqb, lt-ltb}
use borrow.Rule.Slice.PartMut.{put_mid}
use Rattle.codes.proofs.Put.{put_none}
use Rattle.catalogue.specs.Table.{rows, parameter_bytes}
use Rattle.versions.specs.Layout.{last_at}
use Rattle.part.specs.Layout.{part_size}
use Rattle.station.specs.Parts.{farms, station_size, window, with_window, part_of, with_part, station_refusal}
use Rattle.std.specs.declared.ops.Range.{Range}
use Rattle.station.specs.declared.refusal.Refusal.{Refusal}
use Rattle.station.specs.declared.refusal.Refusal.TheVariants.{
  NoSuchFarm,
  NotWellFormed,
  ShortReply,
  NoFrame,
  WrongSlot,
  WrongIndex,
  WrongLength,
  OutOfTurn,
  WantsFewer,
  Unreadable,
  ForeignAxis,
  UnknownFlags,
  NotKept,
  UsedUp,
}
use Rattle.station.specs.Refusal.{refusal_number}
use Rattle.station.specs.Frame.{refused_reply}
use Rattle.station.specs.Isolation.{Kinds, answer, after}
use Rattle.station.specs.Inner.{Place, Lent}
use Rattle.station.specs.Calls.{to_frame, refused_frame}

-- where a part lies that is lent
pub lends : (k n : ℕ) (r : Range ℕ) → 1 ≤ k → k ≤ farms → n ≡ station_size → Place k r → Lent k n r
unfolding parameter_bytes rows last_at
lends k n r low high size at =
    record {
      low = low;
      high = high;
      size = size;
      ordered = omega (arith, at.start, at.end);
      within = omega (arith, at.end);
      place = at;
    }

-- no number of a refusal is 0
pub some_number : (refusal : Refusal) → refusal_number refusal ≡ 0 → ⊥
some_number NoSuchFarm e = absurd (omega arith)
some_number NotWellFormed e = absurd (omega arith)
some_number ShortReply e = absurd (omega arith)
some_number NoFrame e = absurd (omega arith)
some_number WrongSlot e = absurd (omega arith)
some_number WrongIndex e = absurd (omega arith)
some_number WrongLength e = absurd (omega arith)
some_number OutOfTurn e = absurd (omega arith)
some_number WantsFewer e = absurd (omega arith)
some_number Unreadable e = absurd (omega arith)
some_number ForeignAxis e = absurd (omega arith)
some_number UnknownFlags e = absurd (omega arith)
some_number NotKept e = absurd (omega arith)
some_number UsedUp e = absurd (omega arith)

-- a call on the station, refused or done: what its function has to show at each return
module _ (K : Kinds) (c : K.Call) (s : List ℕ) where
  refused_by : (n : ℕ) → n ≡ station_refusal (K.owner c) (length s) → (n ≡ 0 → ⊥) → (K.refused c n ≡ answer K c s) × (s ≡ after K c s)
  unfolding answer after
  refused_by zero e z = absurd (z refl)
  refused_by (suc n) e z = rw (← e) (refl, refl)

  pub refuses :
      (refusal : Refusal) → refusal_number refusal ≡ station_refusal (K.owner c) (length s)
      → (K.refused c (refusal_number refusal) ≡ answer K c s) × (s ≡ after K c s)
  refuses refusal e = refused_by (refusal_number refusal) e (some_number refusal)

  module _ (r : Range ℕ) (l : Lent (K.owner c) (length s) r) where
    whole : r.end - r.start ≡ part_size
    whole = omega (arith, l.place.start, l.place.end)

    -- the part that is lent, as the code has it
    pub lent : take (r.end - r.start) (drop r.start s) ≡ part_of (K.owner c) s
    unfolding window
    lent = rw (whole, l.place.start)

    pub does :
        (a : K.Answer) (ys : List ℕ) → a ≡ K.answers c (part_of (K.owner c) s) → ys ≡ K.leaves c (part_of (K.owner c) s)
        → (a ≡ answer K c s) × (put_mid r.start (r.end - r.start) s ys ≡ after K c s)
    unfolding answer after with_window station_refusal
    does a ys p q =
        rw (whole, l.place.start, le-leb 1 (K.owner c) l.low, le-leb (K.owner c) farms l.high, eq-eqb (length s) station_size l.size)
        (p, ap (λ (l : List ℕ). with_part (K.owner c) l s) q)

-- numbers below 5 have an empty reply
pub quiet : (f : List ℕ) (n : ℕ) → n < 5 → refused_reply f n ≡ []
quiet f n h = rw (lt-ltb n 5 h)

pub empty_refused : (f m : List ℕ) (n : ℕ) → n < 5 → to_frame (record { length = 0; stored = 0; number = n }) m ≡ refused_frame f m n
empty_refused f m n h = rw (quiet f n h, put_none m 0)

-- farm and size are refused by 1 and 2
pub refusal_small : (k size : ℕ) → station_refusal k size < 5
unfolding station_refusal
refusal_small k size = go (not (leb 1 k && leb k farms)) (not (eqb size station_size))
  where
    go : (a b : Bool) → cond a 1 (cond b 2 0) < 5
    go true b = lit< tt
    go false true = lit< tt
    go false false = lit< tt
