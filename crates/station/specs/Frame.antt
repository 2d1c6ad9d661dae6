-- Document 01, "Frames and refusal numbers", with number 15 of document 02, R-7: a frame of farm k worked on the part of its axis.
use Rattle.std.specs.Prelude.{Bool, cond, not, ◌&&◌, ◌||◌, List, [], ◌∷◌, ℕ, eqb, ltb, leb, length, get_or, drop}
use Rattle.codes.specs.Code.{readable}
use Rattle.codes.specs.Number.{put}
use Rattle.blocks.specs.Block.{block_limit}
use Rattle.blocks.specs.Request.{request}
use Rattle.blocks.specs.Place.{header_of}
use Rattle.part.specs.Layout.{waiting_length, waiting, with_response}
use Rattle.part.specs.WellFormed.{well_formed}
use Rattle.access.specs.Work.{outcome_of, exhausts_in}
use Rattle.station.specs.declared.Framed.{Framed}

-- "Write: 5F, slot 0, index 47, length, block"; "Read: 5E 00 2F and the largest length wanted"
abbrev pub function : List ℕ → ℕ
function f = get_or f 0 0

abbrev pub slot : List ℕ → ℕ
slot f = get_or f 1 0

abbrev pub index : List ℕ → ℕ
index f = get_or f 2 0

abbrev pub length_byte : List ℕ → ℕ
length_byte f = get_or f 3 0

abbrev pub block_of : List ℕ → List ℕ
block_of f = drop 4 f

abbrev pub is_write : List ℕ → Bool
is_write f = eqb (function f) 0x5F

abbrev pub is_read : List ℕ → Bool
is_read f = eqb (function f) 0x5E

-- the frame that fetches at most n bytes
abbrev pub fetch_of : ℕ → List ℕ
fetch_of n = 0x5E ∷ 0 ∷ 0x2F ∷ n ∷ []

-- "not the bytes that follow (a read has none after it)"
abbrev pub length_fits : List ℕ → Bool
length_fits f = leb (length_byte f) block_limit && eqb (length (block_of f)) (cond (is_write f) (length_byte f) 0)

-- numbers 3 to 11 and 15, where the part p is well-formed; m is the size of the reply memory
abbrev pub frame_tests : ℕ → List ℕ → ℕ → List ℕ → ℕ
frame_tests k f m p =
    cond (ltb m 244) 3
    (cond (ltb (length f) 4 || not (is_write f || is_read f)) 4
    (cond (not (eqb (slot f) 0)) 5
    (cond (not (eqb (index f) 47)) 6
    (cond (not (length_fits f)) 7
    (cond (is_write f && not (eqb (waiting_length p) 0) || is_read f && eqb (waiting_length p) 0) 8
    (cond (is_read f && ltb (length_byte f) (waiting_length p)) 9
    (cond (is_write f && not (readable block_limit request (block_of f))) 10
    (cond (is_write f && not (eqb (header_of (block_of f)).axis k)) 11
    (cond (is_write f && exhausts_in p (request.read (block_of f))) 15
    0)))))))))

-- "The order of checks is the order of numbers.", from 2 on
unfoldable pub frame_refusal : ℕ → List ℕ → ℕ → List ℕ → ℕ
frame_refusal k f m p = cond (not (well_formed k p)) 2 (frame_tests k f m p)

-- "Returned": the code of a number from 5 to 11; R-7: "a frame's reply to 15 is DF 80 A1 00"
abbrev pub code_of : ℕ → ℕ
code_of n =
    cond (eqb n 5) 0xB2
    (cond (eqb n 6) 0xB0
    (cond (eqb n 7) 0xB1
    (cond (eqb n 8) 0xB5
    (cond (eqb n 9) 0xB7
    (cond (eqb n 10) 0xB8
    (cond (eqb n 15) 0xA1
    0xB6))))))

-- "Numbers 5 to 11 put DE (read) or DF (write), 80, code, 00 in the reply", and so does 15; the others are answered by an empty reply
abbrev pub refused_reply : List ℕ → ℕ → List ℕ
refused_reply f n = cond (ltb n 5) [] (cond (is_write f) 0xDF 0xDE ∷ 0x80 ∷ code_of n ∷ 0 ∷ [])

-- "Acknowledged by 5F 00 2F and the length"; "Answered by 5E 00 2F, length, block"
abbrev pub worked_reply : List ℕ → List ℕ → List ℕ
worked_reply f p =
    cond (is_write f) (0x5F ∷ 0 ∷ 0x2F ∷ length_byte f ∷ []) (0x5E ∷ 0 ∷ 0x2F ∷ waiting_length p ∷ waiting p)

-- the bytes of the reply, by the refusal number
abbrev pub reply_of : List ℕ → List ℕ → ℕ → List ℕ
reply_of f p n = cond (eqb n 0) (worked_reply f p) (refused_reply f n)

-- "the response then waits"; "and the axis is idle again"
abbrev pub worked_part : ℕ → List ℕ → List ℕ → List ℕ
worked_part k f p = cond (is_write f) (outcome_of k (block_of f) p).part (with_response [] p)

-- What a frame answers, the reply memory m after it, and what it leaves of the part. "Bytes past the reply, and the whole
-- station after any refusal, stay unchanged, and 0 elements are stored."
unfoldable pub frame_answer : ℕ → List ℕ → List ℕ → List ℕ → Framed
frame_answer k f m p =
    let n = frame_refusal k f (length m) p in
    record {
      length = length (reply_of f p n);
      stored = cond (eqb n 0 && is_write f) (outcome_of k (block_of f) p).stored 0;
      number = n;
    }

unfoldable pub frame_reply : ℕ → List ℕ → List ℕ → List ℕ → List ℕ
frame_reply k f m p = put m 0 (reply_of f p (frame_refusal k f (length m) p))

unfoldable pub frame_part : ℕ → List ℕ → List ℕ → List ℕ → List ℕ
frame_part k f m p = cond (eqb (frame_refusal k f (length m) p) 0) (worked_part k f p) p
