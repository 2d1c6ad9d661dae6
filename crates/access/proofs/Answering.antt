-- How an address of a change is answered: by `40 00` or by an error, of at most four bytes.
use Rattle.std.specs.Prelude.{Result, Ok, Err}
use Rattle.access.specs.declared.error.ParameterError.{ParameterError}
use mathlib.Core.Bool.{Bool, true, false, cond, not, ◌||◌}
use mathlib.Core.List.{List, [], ◌∷◌}
use Prim.Native.Nat.{ℕ, ◌*◌, ◌≤◌}
use native.Mathlib.Omega.{arith}
use lib.Dec.{eqb, lit≤}
use lib.ListN.{length, length-append}
use Rattle.codes.specs.Code.{write_all}
use Rattle.blocks.specs.Block.{Block}
use Rattle.blocks.specs.Page.{block_bytes}
use Rattle.blocks.specs.declared.reader.Address.{Address}
use Rattle.catalogue.specs.declared.Row.{Row}
use Rattle.catalogue.specs.Element.{size_code, type_code}
use Rattle.access.specs.declared.error.ParameterError.TheVariants.{ReadOnly, OutsideLimits, WrongType, WrongCount}
use Rattle.access.specs.Address.{checked, error_block, empty_block}
use Rattle.access.specs.Change.{Changed, failure, all_inside, store_whole, of_elements, of_checked, change_one, change_all}
use Rattle.access.specs.Walk.{answer_in}
use Rattle.access.proofs.Checks.{pick}
use Rattle.access.proofs.Room.{error_size}

-- an answer takes at most four bytes
error_short : (e : ParameterError) → length (block_bytes (error_block e)) ≤ 4
error_short e = omega (arith, error_size e)

empty_short : length (block_bytes empty_block) ≤ 4
empty_short = lit≤ tt

pub answer_short : (d : Result ℕ ParameterError) → length (block_bytes (answer_in d)) ≤ 4
answer_short (Ok n) = empty_short
answer_short (Err e) = error_short e

record Brief (c : Changed) : Type 0 where
  pub short : length (block_bytes c.block) ≤ 4

failure_brief : (t : Bool) (e : ParameterError) (p : List ℕ) (c : Changed) → Brief c → Brief (cond t (failure e p) c)
failure_brief true e p c k = record { short = error_short e }
failure_brief false e p c k = k

store_brief : (r : Row) (i : ℕ) (xs p : List ℕ) → Brief (store_whole r i xs p)
store_brief r i xs p = pick Brief (all_inside r xs) (λ t. record { short = empty_short }) (λ t. record { short = error_short OutsideLimits })

elements_brief : (a : Address) (b : Block) (p : List ℕ) (r : Row) (n : ℕ) → Brief (of_elements a b p r n)
elements_brief a b p r n =
    failure_brief (not r.writable) ReadOnly p _
    (failure_brief (not (eqb b.format (size_code r.kind) || eqb b.format (type_code r.kind))) WrongType p _
    (failure_brief (not (eqb (length b.values) n)) WrongCount p _ (store_brief r a.subindex b.values p)))

change_brief : (a : Address) (b : Block) (p : List ℕ) → Brief (change_one a b p)
unfolding change_one
change_brief a b p = go (checked a)
  where
    go : (c : Result (Row × ℕ) ParameterError) → Brief (of_checked a b p c)
    go (Err e) = record { short = error_short e }
    go (Ok (r, n)) = elements_brief a b p r n

pub answers_short : (them : List Address) (bs : List Block) (p : List ℕ) → length (write_all block_bytes (change_all them bs p).blocks) ≤ 4 * length them
answers_short [] bs p = omega arith
answers_short (a ∷ more) [] p = omega arith
answers_short (a ∷ more) (b ∷ bs) p =
    let c = change_one a b p in
    let one = (change_brief a b p).short in
    let rest = answers_short more bs c.part in
    omega (arith, length-append (block_bytes c.block) (write_all block_bytes (change_all more bs c.part).blocks))
