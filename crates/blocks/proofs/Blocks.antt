-- Where a block of values stands, ends and holds its values.
use Rattle.std.specs.Prelude.{Some, None}
use mathlib.Core.Path.{◌≡◌, refl, sym, ◌∙◌, ap}
use mathlib.Core.List.{List, ◌++◌, append-nil, append_assoc}
use mathlib.Core.Bool.{Bool, true, false, true≢false, cond, ◌||◌}
use Prim.Native.Nat.{ℕ, zero, suc, ◌+◌, ◌-◌, ◌*◌, ◌%◌, ◌≤◌, ◌<◌}
use native.Mathlib.Omega.{arith}
use native.Mathlib.Decide.{dec_le}
use native.Mathlib.Nat.{mul-le-mul_right}
use lib.ListN.{length, get_or, drop, replicate, length-replicate, length-append, length-drop, get_or-eq_default}
use lib.Seq.{drop-drop}
use lib.Dec.{eqb, lit≤}
use borrow.Author.Tests.{eqb-true, eqb-false}
use Rattle.codes.specs.Code.{Got, got, bad, read_times, AllOf, write_all, fill, word}
use Rattle.codes.specs.Number.{number_at}
use Rattle.codes.proofs.Sound.{word_sound}
use Rattle.codes.proofs.Fixed.{Bytes, byte_at, byte_end, fixed_word, fixed_times, fill_zero, fill_other}
use Rattle.codes.proofs.Items.{all_length, item_at, tail_stands}
use Rattle.codes.proofs.Number.{number_is}
use Rattle.codes.proofs.Put.{word_length, fill_bytes}
use Rattle.blocks.specs.declared.Head.{Head}
use Rattle.blocks.specs.Block.{Block, one_byte, two_bytes, four_bytes, format_size, value_size, change_block_fits, fill_size, values_of, values_size, block}
use Rattle.blocks.specs.Place.{head_of, block_at, value_at}
use Rattle.blocks.specs.Walk.{block_by}
use Rattle.blocks.proofs.Sound.{block_sound, values_sound, values_count}

-- no value is wider than four bytes
at_most : (b : Bool) (x y : ℕ) → x ≤ 4 → y ≤ 4 → cond b x y ≤ 4
at_most true x y h k = h
at_most false x y h k = k

pub format_small : (f : ℕ) → format_size f ≤ 4
unfolding format_size
format_small f = at_most (one_byte f) 1 _ (lit≤ tt) (at_most (two_bytes f) 2 _ (lit≤ tt) (at_most (four_bytes f) 4 0 (lit≤ tt) (lit≤ tt)))

pub size_small : (f : ℕ) → value_size f ≤ 4
unfolding value_size
size_small f = at_most (eqb f 0x44) 2 _ (lit≤ tt) (format_small f)

-- what fills the values makes their bytes even in number: no other format than a byte's has an odd size
even_sizes : (e o t q : Bool) → (e ≡ true → o ≡ false) → (n : ℕ) → cond o (n % 2) 0 ≡ n * cond e 2 (cond o 1 (cond t 2 (cond q 4 0))) % 2
even_sizes true true t q h n = absurd (true≢false (h refl))
even_sizes true false t q h n = omega arith
even_sizes false true t q h n = omega arith
even_sizes false false true q h n = omega arith
even_sizes false false false true h n = omega arith
even_sizes false false false false h n = omega arith

pub fill_even : (f n : ℕ) → fill_size f n ≡ n * value_size f % 2
unfolding value_size format_size
fill_even f n = even_sizes (eqb f 0x44) (one_byte f) (two_bytes f) (four_bytes f) (λ e. rw (eqb-true f 0x44 e) refl) n

-- the bytes of n values: n times those of one, and what fills them up
values_length : (f n : ℕ) (vs : List ℕ) → length vs ≡ n → length ((values_of f n).write vs) ≡ n * value_size f + fill_size f n
unfolding values_of
values_length f n vs e =
    let w = value_size f in
    let all : length (write_all (word w).write vs) ≡ n * w = all_length (word w).write w (word_length w) vs ∙ ap (λ (k : ℕ). k * w) e in
    let rest : length ((fill (fill_size f n) vs).write vs) ≡ fill_size f n = ap length (fill_bytes (fill_size f n) vs vs) ∙ length-replicate (fill_size f n) 0 in
    omega (arith, length-append (write_all (word w).write vs) ((fill (fill_size f n) vs).write vs))

pub values_size_lem : (f n : ℕ) → values_size f n ≡ n * value_size f + fill_size f n
unfolding values_size
values_size_lem f n = values_length f n (replicate n 0) (length-replicate n 0)

-- fewer bytes hold no such values
values_short : (f n : ℕ) (s : List ℕ) → length s < values_size f n → (values_of f n).read s ≡ bad
values_short f n s h = go ((values_of f n).read s) refl
  where
    go : (g : Got (List ℕ)) → (values_of f n).read s ≡ g → (values_of f n).read s ≡ bad
    go (got vs t) e =
        let o = (values_sound f n).only s vs t e in
        absurd (omega (arith, ap length o.1, length-append ((values_of f n).write vs) t, values_length f n vs (values_count f n vs o.0), values_size_lem f n))
    go bad e = e

-- at most one byte fills them
pub fill_small : (f n : ℕ) → fill_size f n ≤ 1
fill_small f n = omega (arith, fill_even f n)

-- The values at a place, where all their bytes stand in the list: they are read if what fills them up is zero.
module _ (f n : ℕ) (s : List ℕ) (b : Bytes s) (at : ℕ) (h : at + values_size f n ≤ length s) where
  abbrev place : ℕ
  place = at + n * value_size f

  abbrev pub filled : Bool
  filled = eqb (fill_size f n) 0 || eqb (get_or s place 0) 0

  values_bare : (vs : List ℕ) × (read_times (word (value_size f)).read n (drop at s) ≡ got vs (drop place s))
  values_bare = (fixed_times (word (value_size f)) (value_size f) (fixed_word (value_size f)) n).enough s b at (omega (arith, values_size_lem f n))

  values_filled : filled ≡ true → (vs : List ℕ) × ((values_of f n).read (drop at s) ≡ got vs (drop (at + values_size f n) s))
  unfolding values_of
  values_filled t = (values_bare.0, rw values_bare.1 (go (fill_size f n) refl))
    where
      go : (k : ℕ) → fill_size f n ≡ k → (fill k values_bare.0).read (drop place s) ≡ got values_bare.0 (drop (at + values_size f n) s)
      go zero e = let z : place ≡ at + values_size f n = omega (arith, values_size_lem f n) in rw z
      go (suc zero) e =
          let z : place + 1 ≡ at + values_size f n = omega (arith, values_size_lem f n) in
          fill_zero values_bare.0 0 s b place (omega arith) (eqb-true _ 0 (rw e at t)) ∙ rw z
      go (suc (suc k)) e = absurd (omega (arith, fill_small f n))

  values_unfilled : filled ≡ false → (values_of f n).read (drop at s) ≡ bad
  unfolding values_of
  values_unfilled t = rw values_bare.1 (go (fill_size f n) refl)
    where
      go : (k : ℕ) → fill_size f n ≡ k → (fill k values_bare.0).read (drop place s) ≡ bad
      go zero e = absurd (true≢false (rw e at t))
      go (suc zero) e = fill_other values_bare.0 0 s b place (omega (arith, values_size_lem f n)) (eqb-false _ 0 (rw e at t))
      go (suc (suc k)) e = absurd (omega (arith, fill_small f n))

-- The block at a place: two bytes, the format and the count, and then the values.
module _ (fits : ℕ → ℕ → Bool) (s : List ℕ) (b : Bytes s) (at : ℕ) where
  nothing : (block fits).read (drop at s) ≡ bad → None ≡ block_by fits s at
  nothing e = rw e

  pub block_stub : length s < at + 2 → None ≡ block_by fits s at
  unfolding block
  block_stub k = nothing (go (dec_le (at + 1) (length s)))
    where
      go : Dec (at + 1 ≤ length s) → (block fits).read (drop at s) ≡ bad
      go (yes y) = rw (byte_at s b at (omega arith), byte_end s (at + 1) (omega arith))
      go (no n) = rw (byte_end s at (omega arith))

  module _ (h : at + 2 ≤ length s) where
    abbrev f : ℕ
    f = get_or s at 0

    abbrev n : ℕ
    n = get_or s (at + 1) 0

    pub block_unfit : fits f n ≡ false → None ≡ block_by fits s at
    unfolding block
    block_unfit e = nothing (rw (byte_at s b at (omega arith), byte_at s b (at + 1) (omega arith), e))

    module _ (e : fits f n ≡ true) where
      two : at + 1 + 1 ≡ at + 2
      two = omega arith

      unread : (values_of f n).read (drop (at + 2) s) ≡ bad → None ≡ block_by fits s at
      unfolding block
      unread v = nothing (rw (byte_at s b at (omega arith), byte_at s b (at + 1) (omega arith), e, two, v))

      pub block_short : length s < at + 2 + (n * value_size f + fill_size f n) → None ≡ block_by fits s at
      block_short l = unread (values_short f n (drop (at + 2) s) (omega (arith, values_size_lem f n, length-drop (at + 2) s)))

      module _ (l : at + 2 + (n * value_size f + fill_size f n) ≤ length s) where
        pub room : at + 2 + values_size f n ≤ length s
        room = omega (arith, values_size_lem f n)

        pub block_unfilled : filled f n s b (at + 2) room ≡ false → None ≡ block_by fits s at
        block_unfilled t = unread (values_unfilled f n s b (at + 2) room t)

        pub block_long : filled f n s b (at + 2) room ≡ true → Some (record { format = f; count = n; size = value_size f; next = at + 2 + (n * value_size f + fill_size f n) }) ≡ block_by fits s at
        unfolding block
        block_long t =
            let v = values_filled f n s b (at + 2) room t in
            let c = values_count f n v.0 ((values_sound f n).only (drop (at + 2) s) v.0 _ v.1).0 in
            let z : length s - length (drop (at + 2 + values_size f n) s) ≡ at + 2 + (n * value_size f + fill_size f n) = omega (arith, values_size_lem f n, length-drop (at + 2 + values_size f n) s) in
            rw (byte_at s b at (omega arith), byte_at s b (at + 1) (omega arith), e, two, v.1, c, z)

-- a block that stands, as the layout reads it
pub record Stood (fits : ℕ → ℕ → Bool) (s : List ℕ) (at : ℕ) (h : Head) : Type 0 where
  pub it : Block
  pub read : (block fits).read (drop at s) ≡ got it (drop h.next s)
  pub format : h.format ≡ it.format
  pub count : h.count ≡ length it.values
  pub size : h.size ≡ value_size it.format
  pub inside : h.next ≤ length s

module _ (fits : ℕ → ℕ → Bool) (s : List ℕ) (at : ℕ) where
  rest_stands : (b : Block) (t : List ℕ) → (block fits).read (drop at s) ≡ got b t → t ≡ drop (length s - length t) s
  rest_stands b t e = tail_stands s at ((block fits).write b) t ((block_sound fits).only (drop at s) b t e).1

  pub block_stands : (h : Head) → block_by fits s at ≡ Some h → Stood fits s at h
  block_stands h = go ((block fits).read (drop at s)) refl
    where
      go : (g : Got Block) → (block fits).read (drop at s) ≡ g → head_of (length s) g ≡ Some h → Stood fits s at h
      go (got b t) e q =
          let n : length s - length t ≡ h.next = cc in
          record {
            it = b;
            read = e ∙ ap (got b) (rest_stands b t e ∙ ap (λ (k : ℕ). drop k s) n);
            format = cc;
            count = cc;
            size = cc;
            inside = omega arith;
          }
      go bad e q = absurd (let z : ◌≡◌ {A = ℕ} 0 1 = cc in omega arith)

  pub block_falls : block_by fits s at ≡ None → (block fits).read (drop at s) ≡ bad
  block_falls = go ((block fits).read (drop at s)) refl
    where
      go : (g : Got Block) → (block fits).read (drop at s) ≡ g → head_of (length s) g ≡ None → (block fits).read (drop at s) ≡ bad
      go (got b t) e q = absurd (let z : ◌≡◌ {A = ℕ} 0 1 = cc in omega arith)
      go bad e q = e

values_valid : (fits : ℕ → ℕ → Bool) (b : Block) → (block fits).Valid b → AllOf (word (value_size b.format)).Valid b.values
unfolding block values_of
values_valid fits b v = v.1.1.0.0.1

block_two : (fits : ℕ → ℕ → Bool) (b : Block) → 2 ≤ length ((block fits).write b)
unfolding block
block_two fits b = omega arith

-- after its values stands what fills them up
abbrev after : Block → List ℕ → List ℕ
after b t = (fill (fill_size b.format (length b.values)) b.values).write b.values ++ t

values_tail : (fits : ℕ → ℕ → Bool) (s : List ℕ) (at : ℕ) (b : Block) (t : List ℕ) → drop at s ≡ (block fits).write b ++ t → drop (at + 2) s ≡ write_all (word (value_size b.format)).write b.values ++ after b t
unfolding block values_of
values_tail fits s at b t e =
    let vs = b.values in
    let all = write_all (word (value_size b.format)).write vs in
    let fills = (fill (fill_size b.format (length vs)) vs).write vs in
    sym (drop-drop 2 at s) ∙ (ap (drop 2) e ∙ (ap (λ (l : List ℕ). l ++ t) (append-nil (all ++ fills)) ∙ append_assoc all fills t))

-- its values all stand in the list
pub values_inside : (fits : ℕ → ℕ → Bool) (s : List ℕ) (at : ℕ) (b : Block) (t : List ℕ) → (block fits).read (drop at s) ≡ got b t → at + 2 + length b.values * value_size b.format ≤ length s
values_inside fits s at b t e =
    let o = (block_sound fits).only (drop at s) b t e in
    let w = value_size b.format in
    let v = ap length (values_tail fits s at b t o.1) ∙ length-append (write_all (word w).write b.values) (after b t) in
    omega (arith, v, all_length (word w).write w (word_length w) b.values, length-drop (at + 2) s, length-drop at s, ap length o.1, length-append ((block fits).write b) t, block_two fits b)

-- the j-th value of a block stands after its two bytes and j values
pub value_stands : (fits : ℕ → ℕ → Bool) (s : List ℕ) (at : ℕ) (b : Block) (t : List ℕ) (j : ℕ) → (block fits).read (drop at s) ≡ got b t → j < length b.values → number_at (value_size b.format) s (at + 2 + j * value_size b.format) ≡ get_or b.values j 0
value_stands fits s at b t j e h =
    let w = value_size b.format in
    let o = (block_sound fits).only (drop at s) b t e in
    let p = item_at (word w) (word_sound w) w (word_length w) 0 b.values (values_valid fits b o.0) (after b t) j h in
    number_is w s (at + 2 + j * w) (get_or b.values j 0) p.0 (size_small b.format)
    (ap (word w).read (sym (drop-drop (j * w) (at + 2) s) ∙ ap (drop (j * w)) (values_tail fits s at b t o.1)) ∙ p.1)

-- the j-th value of a block of a change, by what the code knows of its head
module _ (s : List ℕ) (at j : ℕ) where
  pub value_nowhere : block_at s at ≡ None → 0 ≡ value_at s at j
  unfolding value_at
  value_nowhere e = rw (block_falls change_block_fits s at e)

  module _ (h : Head) (st : Stood change_block_fits s at h) where
    pub value_past : h.count ≤ j → 0 ≡ value_at s at j
    unfolding value_at
    value_past k = rw st.read (sym (get_or-eq_default st.it.values 0 {n = j} (omega (arith, st.count))))

    module _ (k : j < h.count) where
      pub value_room : at + 2 + j * h.size ≤ length s
      value_room =
          omega (arith, values_inside change_block_fits s at st.it (drop h.next s) st.read, mul-le-mul_right {m = j} {n = length st.it.values} h.size (omega (arith, st.count)), ap (λ (x : ℕ). length st.it.values * x) st.size)

      pub value_here : number_at h.size s (at + 2 + j * h.size) ≡ value_at s at j
      unfolding value_at
      value_here = rw (st.read, st.size) (value_stands change_block_fits s at st.it (drop h.next s) j st.read (omega (arith, st.count)))
