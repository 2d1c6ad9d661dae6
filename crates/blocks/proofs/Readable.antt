-- Readability of a whole block, case by case as the code tests it.
use mathlib.Core.Path.{◌≡◌, refl, sym, ◌∙◌, ap}
use mathlib.Core.List.{List, [], ◌∷◌}
use mathlib.Core.Bool.{Bool, true, false, true≢false, cond, not, ◌&&◌, ◌||◌}
use Prim.Native.Nat.{ℕ, ◌+◌, ◌*◌, ◌≤◌, ◌<◌}
use native.Mathlib.Omega.{arith}
use lib.ListN.{length, get_or, drop}
use lib.Dec.{eqb, leb}
use native.Mathlib.Decide.{dec_le}
use borrow.Author.Tests.{le-leb, lt-leb, leb-true, eq-eqb, ne_eqb}
use borrow.Table.Steps.{cases}
use Rattle.codes.specs.Code.{Got, got, bad, Code, and_then, read_times, times, is_whole, reads_all}
use Rattle.blocks.specs.Block.{block_limit, Block, change_block_fits, response_block_fits, block}
use Rattle.blocks.specs.Request.{Request, address, request, request_blocks}
use Rattle.blocks.specs.Response.{Response, response, has_error, errors_fit, response_blocks, is_answer}
use Rattle.codes.specs.Code.{readable}
use Rattle.blocks.specs.Walk.{Framed, map_got, erring}
use Rattle.codes.proofs.Sound.{Sound, read_iff_written}
use Rattle.blocks.proofs.Sound.{request_sound, response_sound}
use Rattle.codes.proofs.Fixed.{Bytes, byte_at, Fixed, fixed_times}
use Rattle.blocks.proofs.Addresses.{fixed_address}
use Rattle.blocks.proofs.Turns.{met}

and-false : (a : Bool) → a && false ≡ false
and-false true = refl
and-false false = refl

module _ {A : Type 0} (c : Code A) (s : List ℕ) where
  too_long : 240 < length s → false ≡ readable block_limit c s
  unfolding readable
  too_long h = rw (lt-leb (length s) 240 h)

  pub unread : c.read s ≡ bad → false ≡ readable block_limit c s
  unfolding readable
  unread e = rw (e, and-false)

  pub decided : length s ≤ 240 → (r : Bool) → r ≡ reads_all c s → r ≡ readable block_limit c s
  unfolding readable
  decided h r e = rw (le-leb (length s) 240 h) e

  -- what is written is never shorter than four bytes: no shorter block is read
  pub too_short : Sound c → ((a : A) → 4 ≤ length (c.write a)) → length s < 4 → false ≡ readable block_limit c s
  unfolding readable
  too_short sc long h = go (reads_all c s) refl
    where
      go : (v : Bool) → reads_all c s ≡ v → false ≡ (leb (length s) 240 && reads_all c s)
      go true e = let w = (read_iff_written c sc s).0 e in absurd (omega (arith, long w.0, ap (λ (l : List ℕ). length l) w.2))
      go false e = rw (e, and-false)

long_request : (a : Request) → 4 ≤ length (request.write a)
unfolding request
long_request a = omega arith

long_response : (a : Response) → 4 ≤ length (response.write a)
unfolding response
long_response a = omega arith

request_short : (s : List ℕ) → length s < 4 → false ≡ readable block_limit request s
request_short s = too_short request s request_sound long_request

response_short : (s : List ℕ) → length s < 4 → false ≡ readable block_limit response s
response_short s = too_short response s response_sound long_response

-- the reader's end does not hang on what was read
same_end : {A B : Type 0} (x : A) (y : B) (t : List ℕ) → is_whole (got x t) ≡ is_whole (got y t)
same_end x y [] = refl
same_end x y (z ∷ t) = refl

end_free : {R : Type 0} (f : List Block → R) (g : Got (List Block)) → is_whole (erring false (map_got has_error g)) ≡ is_whole (map_got f g)
end_free f (got bs t) = same_end (has_error bs) (f bs) t
end_free f bad = refl

end_need : {R : Type 0} (f : List Block → R) (need : Bool) (g : Got (List Block)) → is_whole (erring need (map_got has_error g)) ≡ is_whole (map_got f (and_then g (λ bs t. cond (not need || has_error bs) (got bs t) bad)))
end_need f need (got bs t) = pick (not need || has_error bs)
  where
    pick : (v : Bool) → is_whole (cond v (got (has_error bs) t) bad) ≡ is_whole (map_got f (cond v (got bs t) bad))
    pick true = same_end (has_error bs) (f bs) t
    pick false = refl
end_need f need bad = refl

abbrev inside : ℕ → ℕ → ℕ → Bool
inside lo hi x = leb lo x && leb x hi

is_inside : (lo hi x : ℕ) → lo ≤ x → x ≤ hi → inside lo hi x ≡ true
is_inside lo hi x h k = rw (le-leb lo x h, le-leb x hi k)

bounds : (lo hi x : ℕ) → inside lo hi x ≡ true → (lo ≤ x) × (x ≤ hi)
bounds lo hi x e = cases (leb lo x) (λ l. (leb-true lo x l, leb-true x hi (rw l at e))) (λ l. absurd (true≢false (sym (rw l at e))))

module _ (s : List ℕ) (b : Bytes s) (h : 4 ≤ length s) where
  module _ (e0 : inside 1 255 (get_or s 0 0) ≡ false) where
    request_reference : false ≡ readable block_limit request s
    unfolding request
    request_reference = unread request s (rw (byte_at s b 0 (omega arith), e0))

    response_reference : false ≡ readable block_limit response s
    unfolding response
    response_reference = unread response s (rw (byte_at s b 0 (omega arith), e0))

  module _ (e0 : inside 1 255 (get_or s 0 0) ≡ true) where
    request_asks : inside 1 2 (get_or s 1 0) ≡ false → false ≡ readable block_limit request s
    unfolding request
    request_asks e1 = unread request s (rw (byte_at s b 0 (omega arith), e0, byte_at s b 1 (omega arith), e1))

    response_answers : is_answer (get_or s 1 0) ≡ false → false ≡ readable block_limit response s
    unfolding response
    response_answers e1 = unread response s (rw (byte_at s b 0 (omega arith), e0, byte_at s b 1 (omega arith), e1))

    module _ (e1 : inside 1 2 (get_or s 1 0) ≡ true) where
      request_number : inside 1 39 (get_or s 3 0) ≡ false → false ≡ readable block_limit request s
      unfolding request
      request_number e3 =
          unread request s
          (rw (byte_at s b 0 (omega arith), e0, byte_at s b 1 (omega arith), e1, byte_at s b 2 (omega arith), byte_at s b 3 (omega arith), e3))

      module _ (e3 : inside 1 39 (get_or s 3 0) ≡ true) where
        addresses : Fixed (times (get_or s 3 0) address) (get_or s 3 0 * 6)
        addresses = fixed_times address 6 fixed_address (get_or s 3 0)

        request_room : length s < 4 + get_or s 3 0 * 6 → false ≡ readable block_limit request s
        unfolding request
        request_room l =
            unread request s
            (rw (byte_at s b 0 (omega arith), e0, byte_at s b 1 (omega arith), e1, byte_at s b 2 (omega arith), byte_at s b 3 (omega arith), e3, addresses.short s b 4 h l))

        request_whole : length s ≤ 240 → 4 + get_or s 3 0 * 6 ≤ length s → (g : Got Bool) → g ≡ map_got has_error (read_times (block change_block_fits).read (request_blocks (get_or s 1 0) (get_or s 3 0)) (drop (4 + get_or s 3 0 * 6) s)) → is_whole (erring false g) ≡ readable block_limit request s
        unfolding request
        request_whole m l g q =
            decided request s m _
            (rw (byte_at s b 0 (omega arith), e0, byte_at s b 1 (omega arith), e1, byte_at s b 2 (omega arith), byte_at s b 3 (omega arith), e3, (addresses.enough s b 4 l).1, q)
            (end_free _ (read_times (block change_block_fits).read (request_blocks (get_or s 1 0) (get_or s 3 0)) (drop (4 + get_or s 3 0 * 6) s))))

    module _ (e1 : is_answer (get_or s 1 0) ≡ true) where
      response_number : inside 1 39 (get_or s 3 0) ≡ false → false ≡ readable block_limit response s
      unfolding response
      response_number e3 =
          unread response s
          (rw (byte_at s b 0 (omega arith), e0, byte_at s b 1 (omega arith), e1, byte_at s b 2 (omega arith), byte_at s b 3 (omega arith), e3))

      response_whole : inside 1 39 (get_or s 3 0) ≡ true → length s ≤ 240 → (g : Got Bool) → g ≡ map_got has_error (read_times (block (response_block_fits (get_or s 1 0))).read (response_blocks (get_or s 1 0) (get_or s 3 0)) (drop 4 s)) → is_whole (erring (leb 0x81 (get_or s 1 0)) g) ≡ readable block_limit response s
      unfolding response errors_fit
      response_whole e3 m g q =
          decided response s m _
          (rw (byte_at s b 0 (omega arith), e0, byte_at s b 1 (omega arith), e1, byte_at s b 2 (omega arith), byte_at s b 3 (omega arith), e3, q)
          (end_need _ (leb 0x81 (get_or s 1 0)) (read_times (block (response_block_fits (get_or s 1 0))).read (response_blocks (get_or s 1 0) (get_or s 3 0)) (drop 4 s))))

-- a block that is not framed is no request and no response
module _ (s : List ℕ) (b : Bytes s) (n : Framed s → ⊥) where
  framed : 4 ≤ length s → length s ≤ 240 → inside 1 255 (get_or s 0 0) ≡ true → inside 1 39 (get_or s 3 0) ≡ true → ⊥
  framed h m e0 e3 =
      let r = bounds 1 255 (get_or s 0 0) e0 in
      let p = bounds 1 39 (get_or s 3 0) e3 in
      n (record { long = h; short = m; reference = r.0; some = p.0; few = p.1 })

  pub unframed_request : false ≡ readable block_limit request s
  unframed_request = go (dec_le (length s) 240) (dec_le 4 (length s))
    where
      go : Dec (length s ≤ 240) → Dec (4 ≤ length s) → false ≡ readable block_limit request s
      go (no l) d = too_long request s (omega arith)
      go (yes m) (no l) = request_short s (omega arith)
      go (yes m) (yes h) =
          cases (inside 1 255 (get_or s 0 0))
          (λ e0.
          cases (inside 1 2 (get_or s 1 0))
          (λ e1. cases (inside 1 39 (get_or s 3 0)) (λ e3. absurd (framed h m e0 e3)) (request_number s b h e0 e1))
          (request_asks s b h e0))
          (request_reference s b h)

  pub unframed_response : false ≡ readable block_limit response s
  unframed_response = go (dec_le (length s) 240) (dec_le 4 (length s))
    where
      go : Dec (length s ≤ 240) → Dec (4 ≤ length s) → false ≡ readable block_limit response s
      go (no l) d = too_long response s (omega arith)
      go (yes m) (no l) = response_short s (omega arith)
      go (yes m) (yes h) =
          cases (inside 1 255 (get_or s 0 0))
          (λ e0.
          cases (is_answer (get_or s 1 0))
          (λ e1. cases (inside 1 39 (get_or s 3 0)) (λ e3. absurd (framed h m e0 e3)) (response_number s b h e0 e1))
          (response_answers s b h e0))
          (response_reference s b h)

-- and of one that is, the identifier and what follows the header decide
module _ (s : List ℕ) (b : Bytes s) (w : Framed s) where
  reference : inside 1 255 (get_or s 0 0) ≡ true
  reference = is_inside 1 255 (get_or s 0 0) w.reference (omega (arith, b 0))

  number : inside 1 39 (get_or s 3 0) ≡ true
  number = is_inside 1 39 (get_or s 3 0) w.some w.few

  pub request_identifier : inside 1 2 (get_or s 1 0) ≡ false → false ≡ readable block_limit request s
  request_identifier = request_asks s b w.long reference

  pub response_identifier : is_answer (get_or s 1 0) ≡ false → false ≡ readable block_limit response s
  response_identifier = response_answers s b w.long reference

  module _ (e : inside 1 2 (get_or s 1 0) ≡ true) where
    pub request_addresses : length s < 4 + get_or s 3 0 * 6 → false ≡ readable block_limit request s
    request_addresses = request_room s b w.long reference e number

    request_end : 4 + get_or s 3 0 * 6 ≤ length s → (g : Got Bool) → g ≡ map_got has_error (read_times (block change_block_fits).read (request_blocks (get_or s 1 0) (get_or s 3 0)) (drop (4 + get_or s 3 0 * 6) s)) → is_whole (erring false g) ≡ readable block_limit request s
    request_end = request_whole s b w.long reference e number w.short

    -- a read ends with its addresses, and a change goes on with as many blocks
    pub read_end : (get_or s 1 0 ≡ 2 → ⊥) → 4 + get_or s 3 0 * 6 ≤ length s → eqb (4 + get_or s 3 0 * 6) (length s) ≡ readable block_limit request s
    unfolding request_blocks has_error
    read_end other l =
        met s (record { at = 4 + get_or s 3 0 * 6; error = false }) false l refl
        ∙ request_end l (got false (drop (4 + get_or s 3 0 * 6) s)) (rw (ne_eqb (get_or s 1 0) 2 other) refl)

    pub change_end : get_or s 1 0 ≡ 2 → 4 + get_or s 3 0 * 6 ≤ length s → (g : Got Bool) → g ≡ map_got has_error (read_times (block change_block_fits).read (get_or s 3 0) (drop (4 + get_or s 3 0 * 6) s)) → is_whole (erring false g) ≡ readable block_limit request s
    unfolding request_blocks
    change_end two l g q = request_end l g (rw (eq-eqb (get_or s 1 0) 2 two) q)

  response_end : is_answer (get_or s 1 0) ≡ true → (g : Got Bool) → g ≡ map_got has_error (read_times (block (response_block_fits (get_or s 1 0))).read (response_blocks (get_or s 1 0) (get_or s 3 0)) (drop 4 s)) → is_whole (erring (leb 0x81 (get_or s 1 0)) g) ≡ readable block_limit response s
  response_end e = response_whole s b w.long reference e number w.short

  -- 02 ends with its header, and another answer goes on with as many blocks
  pub header_end : is_answer (get_or s 1 0) ≡ true → get_or s 1 0 ≡ 2 → eqb 4 (length s) ≡ readable block_limit response s
  unfolding response_blocks has_error
  header_end e two =
      met s (record { at = 4; error = false }) false w.long refl
      ∙ (same ∙ response_end e (got false (drop 4 s)) (rw (eq-eqb (get_or s 1 0) 2 two) refl))
    where
      same : is_whole (erring false (got false (drop 4 s))) ≡ is_whole (erring (leb 0x81 (get_or s 1 0)) (got false (drop 4 s)))
      same = rw two refl

  pub answer_end : is_answer (get_or s 1 0) ≡ true → (get_or s 1 0 ≡ 2 → ⊥) → (g : Got Bool) → g ≡ map_got has_error (read_times (block (response_block_fits (get_or s 1 0))).read (get_or s 3 0) (drop 4 s)) → is_whole (erring (leb 0x81 (get_or s 1 0)) g) ≡ readable block_limit response s
  unfolding response_blocks
  answer_end e other g q = response_end e g (rw (ne_eqb (get_or s 1 0) 2 other) q)
