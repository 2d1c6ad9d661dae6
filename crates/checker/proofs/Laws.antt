-- The laws of specs/Laws.antt: what is tested of the two blocks is what the plain page says of the request and the response that they are.
use mathlib.Core.Path.{◌≡◌, refl, sym, ◌∙◌}
use mathlib.Core.Bool.{Bool, true, false, true≢false, cond, not, ◌||◌}
use mathlib.Core.List.{List, [], ◌∷◌}
use mathlib.Core.Logic.{◌⊎◌, inl, inr}
use Prim.Native.Nat.{ℕ, zero, suc, ◌≤◌, ◌<◌}
use native.Mathlib.Omega.{arith}
use lib.Dec.{eqb, leb, lit<}
use lib.ListN.{length}
use borrow.Author.Tests.{leb-true, le-leb, eqb-true, eqb-false, eq-eqb, ne_eqb}
use Rattle.codes.specs.Code.{readable}
use Rattle.codes.proofs.Demand.{both, written_as, is_readable}
use Rattle.blocks.specs.Block.{Block, block_limit}
use Rattle.blocks.specs.Request.{Request, request}
use Rattle.blocks.specs.Response.{Response, response}
use Rattle.blocks.specs.Page.{From, IsRequest, IsResponse}
use Rattle.blocks.specs.declared.reader.Address.{Address}
use Rattle.blocks.proofs.Demand.{requests, responses, request_read, response_read}
use Rattle.checker.specs.Check.{matching, is_values, elements_asked, count_fits, counts_fit, check_of}
use Rattle.checker.specs.Laws.{Matches, Counted, EachCounted, Tested, Checks, Verdict, FirstFailed, Passes, YesExactly, ComparesWritten}
use Rattle.checker.proofs.Comparing.{row_of, in_row}
use Rattle.checker.proofs.Judging.{no_request, no_response, both_read}
use Rattle.checker.proofs.Tested.{untested, fails, holds, so, first_of, numbered, tested}

-- identifiers
either_one : (a b : ℕ) (x : ℕ) → eqb x a || eqb x b ≡ true → (x ≡ a) ⊎ (x ≡ b)
either_one a b x = go (eqb x a) refl
  where
    go : (t : Bool) → eqb x a ≡ t → t || eqb x b ≡ true → (x ≡ a) ⊎ (x ≡ b)
    go true e h = inl (eqb-true x a e)
    go false e h = inr (eqb-true x b h)

either_back : (a b : ℕ) (x : ℕ) → (x ≡ a) ⊎ (x ≡ b) → eqb x a || eqb x b ≡ true
either_back a b x (inl e) = rw (eq-eqb x a e)
either_back a b x (inr e) = go (eqb x a)
  where
    go : (t : Bool) → t || eqb x b ≡ true
    go true = refl
    go false = eq-eqb x b e

matches : (asked id : ℕ) → From 1 2 asked → matching asked id ≡ true → Matches asked id
matches asked id range = go (eqb asked 1) refl
  where
    go : (t : Bool) → eqb asked 1 ≡ t → cond t (eqb id 1 || eqb id 0x81) (eqb id 2 || eqb id 0x82) ≡ true → Matches asked id
    go true e h = inl (eqb-true asked 1 e, either_one 1 0x81 id h)
    go false e h = let other = eqb-false asked 1 e in inr (omega (arith, range.0, range.1), either_one 2 0x82 id h)

matches_back : (asked id : ℕ) → Matches asked id → matching asked id ≡ true
matches_back asked id (inl m) = rw m.0 (either_back 1 0x81 id m.1)
matches_back asked id (inr m) = rw m.0 (either_back 2 0x82 id m.1)

-- counts
is_values_lem : (f : ℕ) → From 0x41 0x43 f → is_values f ≡ true
is_values_lem f h = rw (le-leb 0x41 f h.0, le-leb f 0x43 h.1)

counted : (a : Address) (b : Block) → count_fits a.elements b.format (length b.values) ≡ true → Counted a b
counted a b e =
    record {
      asked = λ v some. eqb-true _ _ (rw (ne_eqb a.elements 0 some) at (as_asked v));
      one = λ v none. eqb-true _ _ (rw none at (as_asked v));
    }
  where
    as_asked : From 0x41 0x43 b.format → eqb (length b.values) (elements_asked a.elements) ≡ true
    as_asked v = rw (is_values_lem b.format v) at e

counted_back : (a : Address) (b : Block) → Counted a b → count_fits a.elements b.format (length b.values) ≡ true
counted_back a b c = go (is_values b.format) refl
  where
    size : From 0x41 0x43 b.format → (t : Bool) → eqb a.elements 0 ≡ t → eqb (length b.values) (cond t 1 a.elements) ≡ true
    size v true e = eq-eqb _ _ (c.one v (eqb-true a.elements 0 e))
    size v false e = eq-eqb _ _ (c.asked v (eqb-false a.elements 0 e))

    go : (t : Bool) → is_values b.format ≡ t → not t || eqb (length b.values) (elements_asked a.elements) ≡ true
    go true e = let v = both (leb 0x41 b.format) (leb b.format 0x43) e in size (leb-true 0x41 b.format v.0, leb-true b.format 0x43 v.1) (eqb a.elements 0) refl
    go false e = refl

pub each_counted : (them : List Address) (bs : List Block) → counts_fit them bs ≡ true → EachCounted them bs
unfolding counts_fit
each_counted [] bs e x y k h l = absurd (omega arith)
each_counted (a ∷ more) [] e x y k h l = absurd (omega arith)
each_counted (a ∷ more) (b ∷ bs) e x y zero h l = counted a b (both (count_fits a.elements b.format (length b.values)) (counts_fit more bs) e).0
each_counted (a ∷ more) (b ∷ bs) e x y (suc k) h l = each_counted more bs (both (count_fits a.elements b.format (length b.values)) (counts_fit more bs) e).1 x y k (omega arith) (omega arith)

each_back : (them : List Address) (bs : List Block) → EachCounted them bs → counts_fit them bs ≡ true
unfolding counts_fit
each_back [] bs c = refl
each_back (a ∷ more) [] c = refl
each_back (a ∷ more) (b ∷ bs) c = rw (counted_back a b (c a b 0 (omega arith) (omega arith))) (each_back more bs (λ x y k h l. c x y (suc k) (omega arith) (omega arith)))

-- checks 3 to 7
tests : (q : Request) (r : Response) → From 1 2 q.identifier → Checks (Tested (first_of 3 (row_of q r))) q r
tests q r range =
    record {
      reference = so 3 _ _ _ (eqb-true _ _) (eq-eqb _ _) (tested 3 (lit< tt) (row_of q r) 0 (lit< tt));
      axis = so 4 _ _ _ (eqb-true _ _) (eq-eqb _ _) (tested 3 (lit< tt) (row_of q r) 1 (lit< tt));
      number = so 5 _ _ _ (eqb-true _ _) (eq-eqb _ _) (tested 3 (lit< tt) (row_of q r) 2 (lit< tt));
      identifier = so 6 _ _ _ (matches _ _ range) (matches_back _ _) (tested 3 (lit< tt) (row_of q r) 3 (lit< tt));
      counts = so 7 _ _ _ (each_counted _ _) (each_back _ _) (tested 3 (lit< tt) (row_of q r) 4 (lit< tt));
    }

pub compares_written : ComparesWritten
compares_written s t q r i j = sym (both_read s t (is_readable requests s q i) (is_readable responses t r j) q r (request_read s q i) (response_read t r j))

-- where both are read the number is neither 1 nor 2
compared_range : (n : ℕ) → (n ≡ 0) ⊎ ((3 ≤ n) × (n < 8)) → (n ≤ 7) × (n ≡ 1 → ⊥) × (n ≡ 2 → ⊥)
compared_range n (inl e) = (omega arith, λ z. omega arith, λ z. omega arith)
compared_range n (inr h) = (omega (arith, h.1), λ z. omega (arith, h.0), λ z. omega (arith, h.0))

pub first_failed : FirstFailed
first_failed s t = go (readable block_limit request s) refl (readable block_limit response t) refl
  where
    go : (x : Bool) → readable block_limit request s ≡ x → (y : Bool) → readable block_limit response t ≡ y → Verdict s t (check_of s t)
    go false e y f =
        let one = no_request s t e in
        let none : (q : Request) → IsRequest s q → ⊥ = λ q i. true≢false (sym (is_readable requests s q i) ∙ e) in
        record {
          most = omega arith;
          request = fails 1 _ _ (sym one) (lit< tt) (λ p. none p.0 p.1);
          response = untested 2 _ _ (omega arith) (omega arith);
          rest = λ q r i j. absurd (none q i);
        }
    go true e false f =
        let two = no_response s t e f in
        let none : (r : Response) → IsResponse t r → ⊥ = λ r j. true≢false (sym (is_readable responses t r j) ∙ f) in
        record {
          most = omega arith;
          request = holds 1 _ _ (λ z. omega arith) (written_as requests s e);
          response = fails 2 _ _ (sym two) (lit< tt) (λ p. none p.0 p.1);
          rest = λ q r i j. absurd (none r j);
        }
    go true e true f =
        let q = written_as requests s e in
        let r = written_as responses t f in
        let same = compares_written s t q.0 r.0 q.1 r.1 ∙ in_row q.0 r.0 in
        let range = compared_range (check_of s t) (rw same (numbered 3 (row_of q.0 r.0))) in
        record {
          most = range.0;
          request = holds 1 _ _ range.1 q;
          response = holds 2 _ _ range.2 r;
          rest = λ a b i j. rw (compares_written s t a b i j ∙ in_row a b) (tests a b i.fits.identifier);
        }

-- a number up to 7 that is none of 1 to 7, in two halves
above : (n : ℕ) → n ≤ 7 → (n ≡ 7 → ⊥) → (n ≡ 6 → ⊥) → (n ≡ 5 → ⊥) → n ≤ 4
above n most n7 n6 n5 = omega arith

below : (n : ℕ) → n ≤ 4 → (n ≡ 4 → ⊥) → (n ≡ 3 → ⊥) → (n ≡ 2 → ⊥) → (n ≡ 1 → ⊥) → n ≡ 0
below n most n4 n3 n2 n1 = omega arith

pub yes_exactly : YesExactly
yes_exactly s t = (says, λ p. none (check_of s t) c.most c.request c.response p (c.rest _ _ p.is_request p.is_response))
  where
    c : Verdict s t (check_of s t)
    c = first_failed s t

    says : check_of s t ≡ 0 → Passes s t
    says z =
        let q = c.request.held (inl z) in
        let r = c.response.held (inl z) in
        let d = c.rest q.0 r.0 q.1 r.1 in
        record {
          request = q.0;
          response = r.0;
          is_request = q.1;
          is_response = r.1;
          answers =
              record {
                reference = d.reference.held (inl z);
                axis = d.axis.held (inl z);
                number = d.number.held (inl z);
                identifier = d.identifier.held (inl z);
                counts = d.counts.held (inl z);
              };
        }

    -- none of the seven failed
    none : (n : ℕ) → n ≤ 7 → Tested n 1 ((q : Request) × IsRequest s q) → Tested n 2 ((r : Response) × IsResponse t r) → (p : Passes s t) → Checks (Tested n) p.request p.response → n ≡ 0
    none n most q r p d =
        below n (above n most (λ e. d.counts.failed e p.answers.counts) (λ e. d.identifier.failed e p.answers.identifier) (λ e. d.number.failed e p.answers.number))
        (λ e. d.axis.failed e p.answers.axis) (λ e. d.reference.failed e p.answers.reference) (λ e. r.failed e (p.response, p.is_response)) (λ e. q.failed e (p.request, p.is_request))
