-- Document 02, R-3, "Send and fetch in one call": "One call takes a write frame and answers as a fetch with F0 after it would, leaving the
-- axis idle." A merged call of farm k worked on the part of its axis.
use Rattle.std.specs.Prelude.{cond, List, [], ℕ, eqb, ltb}
use Rattle.station.specs.declared.Framed.{Framed}
use Rattle.station.specs.Frame.{is_read, fetch_of, frame_tests, frame_answer, frame_reply, frame_part}

-- what a frame answers, and the reply memory and the part after it
pub record FrameDone : Type 0 where
  pub told : Framed
  pub reply : List ℕ
  pub part : List ℕ

abbrev pub frame_done : ℕ → List ℕ → List ℕ → List ℕ → FrameDone
frame_done k f m p = record { told = frame_answer k f m p; reply = frame_reply k f m p; part = frame_part k f m p }

-- "a fetch with F0"
abbrev pub fetch_all : List ℕ
fetch_all = fetch_of 0xF0

-- "a read frame here is number 4", as no frame at all is
abbrev pub no_read : List ℕ → List ℕ
no_read f = cond (is_read f) [] f

-- "It equals the two calls made in turn from the same station; where the write is refused, the write alone."
unfoldable pub exchange_done : ℕ → List ℕ → List ℕ → List ℕ → FrameDone
exchange_done k f m p =
    let write = frame_done k (no_read f) m p in
    let fetch = frame_done k fetch_all write.reply write.part in
    cond (eqb write.told.number 0)
    (record {
      told = record { length = fetch.told.length; stored = write.told.stored; number = fetch.told.number };
      reply = fetch.reply;
      part = fetch.part;
    })
    write

-- "Refusals: those of the write, in the same order; a read frame here is number 4.": numbers 3 to 11, where the part p is well-formed
abbrev pub exchange_tests : ℕ → List ℕ → ℕ → List ℕ → ℕ
exchange_tests k f m p = cond (ltb m 244) 3 (cond (is_read f) 4 (frame_tests k f m p))
