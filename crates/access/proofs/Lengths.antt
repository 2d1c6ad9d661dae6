-- Whatever is worked on a part, it leaves as many bytes.
use Rattle.std.specs.Prelude.{Result, Ok, Err}
use Rattle.access.specs.declared.error.ParameterError.{ParameterError}
use mathlib.Core.Path.{◌≡◌, refl, ◌∙◌}
use mathlib.Core.Bool.{Bool, not, ◌||◌}
use mathlib.Core.List.{List, [], ◌∷◌}
use Prim.Native.Nat.{ℕ, ◌+◌}
use lib.Dec.{eqb}
use lib.ListN.{length}
use Rattle.codes.specs.Code.{Got, got, bad, readable}
use Rattle.blocks.specs.Block.{Block, block_limit}
use Rattle.blocks.specs.declared.reader.Address.{Address}
use Rattle.blocks.specs.Request.{Request, request}
use Rattle.blocks.specs.Response.{response}
use Rattle.catalogue.specs.declared.Row.{Row}
use Rattle.catalogue.specs.Element.{size_code, type_code, put_element}
use Rattle.catalogue.proofs.Elements.{element_length}
use Rattle.part.proofs.Laws.{response_length}
use Rattle.part.proofs.Versions.{version_length}
use Rattle.access.specs.Address.{checked}
use Rattle.access.specs.Change.{Changed, all_inside, store_from, of_checked, change_one, change_all}
use Rattle.access.specs.Work.{Worked, Outcome, worked, exhausts, admitted_if, outcome_of}
use Rattle.access.proofs.Checks.{pick}

-- a change, address by address
abbrev Long : List ℕ → Changed → Type 0
Long p c = length c.part ≡ length p

store_length : (r : Row) (i : ℕ) (xs p : List ℕ) → length (store_from r i xs p) ≡ length p
store_length r i [] p = refl
store_length r i (x ∷ xs) p = store_length r (i + 1) xs (put_element r i x p) ∙ element_length r i x p

checked_length : (a : Address) (b : Block) (p : List ℕ) (c : Result (Row × ℕ) ParameterError) → Long p (of_checked a b p c)
checked_length a b p (Err e) = refl
checked_length a b p (Ok (r, n)) =
    pick (Long p) (not r.writable) (λ t. refl) (λ t.
    pick (Long p) (not (eqb b.format (size_code r.kind) || eqb b.format (type_code r.kind))) (λ u. refl) (λ u.
    pick (Long p) (not (eqb (length b.values) n)) (λ v. refl) (λ v.
    pick (Long p) (all_inside r b.values) (λ x. store_length r a.subindex b.values p) (λ x. refl))))

pub change_length : (as' : List Address) (bs : List Block) (p : List ℕ) → length (change_all as' bs p).part ≡ length p
unfolding change_one
change_length [] bs p = refl
change_length (a ∷ as') [] p = refl
change_length (a ∷ as') (b ∷ bs) p = change_length as' bs (change_one a b p).part ∙ checked_length a b p (checked a)

-- a request worked, and a block admitted
worked_length : (r : Request) (p : List ℕ) → length (worked r p).part ≡ length p
unfolding worked
worked_length r p =
    let c = change_all r.addresses r.blocks p in
    let kept : length c.part ≡ length p = change_length r.addresses r.blocks p in
    pick (λ (w : Worked). length w.part ≡ length p) (eqb r.identifier 1) (λ t. refl)
    (λ t. pick (λ (q : List ℕ). length q ≡ length p) (eqb c.stored 0) (λ u. kept) (λ u. version_length c.part ∙ kept))

admitted_length : (k : ℕ) (p : List ℕ) (fits : Bool) (g : Got Request) → length (admitted_if k p fits g).part ≡ length p
admitted_length k p fits bad = refl
admitted_length k p fits (got r t) =
    let Same : Outcome → Type 0 = λ o. length o.part ≡ length p in
    pick Same fits
    (λ u. pick Same (not (eqb r.axis k)) (λ v. refl)
    (λ v. pick Same (exhausts r p) (λ x. refl)
    (λ x. response_length (response.write (worked r p).response) (worked r p).part ∙ worked_length r p)))
    (λ u. refl)

pub outcome_length : (k : ℕ) (s p : List ℕ) → length (outcome_of k s p).part ≡ length p
unfolding outcome_of
outcome_length k s p = admitted_length k p (readable block_limit request s) (request.read s)
