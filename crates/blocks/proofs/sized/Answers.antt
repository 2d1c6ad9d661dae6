-- Each test that fails says why no block stands at the place, by whatever rule.
-- the bytes of the values and what fills them, as the code has them
use Rattle.std.specs.Prelude.{Option, Some}
use Rattle.blocks.specs.declared.Head.{Head}
use mathlib.Core.Bool.{◌||◌}
use mathlib.Core.List.{List}
use mathlib.Core.Path.{◌≡◌, sym, ◌∙◌, ap₂}
use Prim.Native.Nat.{ℕ, ◌+◌, ◌*◌, ◌%◌}
use lib.Dec.{eqb}
use lib.ListN.{get_or}
use native.Mathlib.Omega.{arith}
use Rattle.codes.proofs.Fixed.{Bytes, small}
use Rattle.blocks.specs.Block.{value_size, fill_size}
use Rattle.blocks.proofs.Blocks.{size_small, fill_even, block_short, block_unfilled, block_long}
use Rattle.blocks.proofs.sized.Goals as goal

module _ (s : List ℕ) (at bare each : ℕ) (sized : each ≡ value_size (get_or s at 0)) (all : bare ≡ get_or s (at + 1) 0 * value_size (get_or s at 0)) where
  abbrev f : ℕ
  f = get_or s at 0

  abbrev n : ℕ
  n = get_or s (at + 1) 0

  filled-up : bare + bare % 2 ≡ n * value_size f + fill_size f n
  filled-up = omega (arith, all, fill_even f n)

  tested : eqb (fill_size f n) 0 || eqb (get_or s (at + 2 + n * value_size f) 0) 0 ≡ eqb (bare % 2) 0 || eqb (get_or s (at + 2 + bare) 0) 0
  tested = let e : fill_size f n ≡ bare % 2 = omega (arith, all, fill_even f n) in ap₂ (λ (k x : ℕ). eqb k 0 || eqb (get_or s (at + 2 + x) 0) 0) e (sym all)

  head_is : ◌≡◌ {A = Option Head} (Some (record { format = f; count = n; size = each; next = at + 2 + (bare + bare % 2) })) (Some (record { format = f; count = n; size = value_size f; next = at + 2 + (n * value_size f + fill_size f n) }))
  head_is = ap₂ (λ (w x : ℕ). Some (record { format = f; count = n; size = w; next = at + 2 + x })) sized filled-up

pub overflow_mul-bare : goal.overflow_mul-bare
overflow_mul-bare c =
    omega (arith, small c.from.result c.args.each (omega (arith, c.from.ensures, c.type_inv.s (c.args.at + 1))) (rw c.requires.1 (size_small (get_or c.args.s.now c.args.at 0))))

pub overflow_add-filled : goal.overflow_add-filled
overflow_add-filled c =
    omega (arith, small c.from.result c.args.each (omega (arith, c.from.ensures, c.type_inv.s (c.args.at + 1))) (rw c.requires.1 (size_small (get_or c.args.s.now c.args.at 0))))

pub returns-then-s-at : goal.returns-then-s-at
returns-then-s-at c fits e =
    let s = c.args.s.now in
    let y : Bytes s = λ i. omega (arith, c.type_inv.s i) in
    let all = ap₂ (λ (x w : ℕ). x * w) c.from.ensures c.requires.1 in
    block_short fits s y c.args.at c.requires.0 e (omega (arith, filled-up s c.args.at _ c.args.each c.requires.1 all))

pub returns-then-not-is_filled : goal.returns-then-not-is_filled
returns-then-not-is_filled c fits e =
    let s = c.args.s.now in
    let y : Bytes s = λ i. omega (arith, c.type_inv.s i) in
    let all = ap₂ (λ (x w : ℕ). x * w) c.from.ensures c.requires.1 in
    block_unfilled fits s y c.args.at c.requires.0 e (omega (arith, filled-up s c.args.at _ c.args.each c.requires.1 all))
    (tested s c.args.at _ c.args.each c.requires.1 all ∙ (sym c.is_filled.ensures ∙ c.if-not-is_filled.true))

pub returns : goal.returns
returns c fits e =
    let s = c.args.s.now in
    let y : Bytes s = λ i. omega (arith, c.type_inv.s i) in
    let all = ap₂ (λ (x w : ℕ). x * w) c.from.ensures c.requires.1 in
    head_is s c.args.at _ c.args.each c.requires.1 all
    ∙ block_long fits s y c.args.at c.requires.0 e (omega (arith, filled-up s c.args.at _ c.args.each c.requires.1 all))
    (tested s c.args.at _ c.args.each c.requires.1 all ∙ (sym c.is_filled.ensures ∙ c.if-not-is_filled.false))
