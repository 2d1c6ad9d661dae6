-- What a change answers and how much it stores do not hang on the part, so that they can be told on no bytes of it; and where nothing is
-- stored, the part is as it was.
use Rattle.std.specs.Prelude.{Result, Ok, Err}
use Rattle.catalogue.specs.declared.Row.{Row}
use Rattle.access.specs.declared.error.ParameterError.{ParameterError}
use mathlib.Core.Path.{◌≡◌, refl, ap, ◌∙◌}
use mathlib.Core.Bool.{Bool, true, false, cond, not, ◌||◌}
use mathlib.Core.List.{List, [], ◌∷◌, ◌++◌, append-nil}
use mathlib.Core.Logic.{◌⊎◌, inl, inr}
use Prim.Native.Nat.{ℕ, ◌+◌, ◌≤◌}
use native.Mathlib.Omega.{arith}
use lib.Dec.{eqb}
use lib.ListN.{length, take, drop, drop_of_length-le}
use lib.Seq.{take-length, drop-length}
use Rattle.blocks.specs.Block.{Block}
use Rattle.blocks.specs.declared.reader.Address.{Address}
use Rattle.catalogue.specs.Element.{size_code, type_code}
use Rattle.access.specs.declared.reply.Reply.{Reply}
use Rattle.access.specs.Address.{checked}
use Rattle.access.specs.Change.{Changed, all_inside, of_checked, change_one, ChangedAll, change_all}
use Rattle.access.specs.Walk.{with_blocks, DidAll}
use Rattle.access.proofs.Answers.{change_cases}
use Rattle.access.proofs.Lengths.{change_length}

record Alike (c d : Changed) : Type 0 where
  block : c.block ≡ d.block
  stored : c.stored ≡ d.stored

alike_test : (t : Bool) {w x y z : Changed} → Alike w y → Alike x z → Alike (cond t w x) (cond t y z)
alike_test true f g = f
alike_test false f g = g

checked_alike : (a : Address) (b : Block) (p q : List ℕ) (c : Result (Row × ℕ) ParameterError) → Alike (of_checked a b p c) (of_checked a b q c)
checked_alike a b p q (Err e) = record { block = refl; stored = refl }
checked_alike a b p q (Ok (r, n)) =
    alike_test (not r.writable) (record { block = refl; stored = refl })
    (alike_test (not (eqb b.format (size_code r.kind) || eqb b.format (type_code r.kind))) (record { block = refl; stored = refl })
    (alike_test (not (eqb (length b.values) n)) (record { block = refl; stored = refl })
    (alike_test (all_inside r b.values) (record { block = refl; stored = refl }) (record { block = refl; stored = refl }))))

-- each address, and then all, on two parts
all_alike :
    (them : List Address) (sent : List Block) (p q : List ℕ)
    → ((change_all them sent p).blocks ≡ (change_all them sent q).blocks) × ((change_all them sent p).stored ≡ (change_all them sent q).stored)
unfolding change_one
all_alike [] sent p q = (refl, refl)
all_alike (a ∷ more) [] p q = (refl, refl)
all_alike (a ∷ more) (b ∷ sent) p q =
    let one = checked_alike a b p q (checked a) in
    let rest = all_alike more sent (change_one a b p).part (change_one a b q).part in
    ((λ i. one.block i ∷ rest.0 i), (λ i. one.stored i + rest.1 i))

pub none_stored : (them : List Address) (sent : List Block) (p : List ℕ) → (change_all them sent p).stored ≡ 0 → (change_all them sent p).part ≡ p
none_stored [] sent p z = refl
none_stored (a ∷ more) [] p z = refl
none_stored (a ∷ more) (b ∷ sent) p z = none_stored more sent (change_one a b p).part (omega (arith, z)) ∙ one (omega (arith, z))
  where
    one : (change_one a b p).stored ≡ 0 → (change_one a b p).part ≡ p
    one = change_cases a b p (λ c. c.stored ≡ 0 → c.part ≡ p) (λ e z. refl) (λ s named z. absurd (omega (arith, z, s.count, named.some)))

-- a change whose part stays as it was where it is only told what would be stored
abbrev pub told : Bool → List Address → List Block → List ℕ → ChangedAll
told only them sent p =
    let c = change_all them sent p in
    record { blocks = c.blocks; part = cond only p c.part; stored = c.stored }

-- then none of its bytes are lent, and else all
abbrev pub Lent : Bool → ℕ → List ℕ → Type 0
Lent only n p = ((only ≡ true) × (n ≡ 0)) ⊎ ((only ≡ false) × (n ≡ length p))

pub lent_few : (only : Bool) (n : ℕ) (p : List ℕ) → Lent only n p → n ≤ length p
lent_few only n p (inl x) = omega (arith, x.1)
lent_few only n p (inr x) = omega (arith, x.1)

pub did_told : (only : Bool) (n : ℕ) (p : List ℕ) → Lent only n p → (them : List Address) (sent : List Block) (m : List ℕ) (x y : Reply) (stored : ℕ) → DidAll (change_all them sent (take n p)) m x y stored → DidAll (told only them sent p) (m ++ drop n p) x y stored
did_told only n p came them sent m x y stored o =
    let alike = all_alike them sent (take n p) p in
    record {
      wrote = o.wrote ∙ ap (λ (bs : List Block). with_blocks bs x) alike.0;
      part = go came;
      stored = o.stored ∙ alike.1;
    }
  where
    go : Lent only n p → m ++ drop n p ≡ (told only them sent p).part
    go (inl x) =
        let none : m ≡ [] = drop_of_length-le m {i = 0} (omega (arith, ap length o.part, change_length them sent (take n p), ap (λ (j : ℕ). length (take j p)) x.1)) in
        rw (x.0, x.1, none) refl
    go (inr x) =
        let whole : m ≡ (change_all them sent p).part = o.part ∙ ap (λ (t : List ℕ). (change_all them sent t).part) (ap (λ (j : ℕ). take j p) x.1 ∙ take-length p) in
        rw (x.0, x.1, drop-length p, append-nil m) whole
