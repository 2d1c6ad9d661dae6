-- Each test that fails says which.
use mathlib.Core.Path.{sym, ◌∙◌}
use native.Mathlib.Omega.{arith}
use borrow.Author.Tests.{eq-eqb, ne_eqb}
use Rattle.codes.proofs.Fixed.{Bytes}
use Rattle.checker.proofs.Comparing.{by_bytes, ends_there, asked_range, both_count}
use Rattle.checker.proofs.compare.Goals as goal

pub returns-then-response-request : goal.returns-then-response-request
returns-then-response-request c q r es et =
    let a = c.args in
    let bs : Bytes a.request.now = λ i. omega (arith, c.type_inv.request i) in
    let bt : Bytes a.response.now = λ i. omega (arith, c.type_inv.response i) in
    rw (← by_bytes _ _ q r es et bs bt)
    (simp (ne_eqb _ _ c.if-response-request.true))

pub returns-then-response-request-2 : goal.returns-then-response-request-2
returns-then-response-request-2 c q r es et =
    let a = c.args in
    let bs : Bytes a.request.now = λ i. omega (arith, c.type_inv.request i) in
    let bt : Bytes a.response.now = λ i. omega (arith, c.type_inv.response i) in
    rw (← by_bytes _ _ q r es et bs bt)
    (simp (eq-eqb _ _ c.if-response-request.false, ne_eqb _ _ c.if-response-request-2.true))

pub returns-then-response-request-3 : goal.returns-then-response-request-3
returns-then-response-request-3 c q r es et =
    let a = c.args in
    let bs : Bytes a.request.now = λ i. omega (arith, c.type_inv.request i) in
    let bt : Bytes a.response.now = λ i. omega (arith, c.type_inv.response i) in
    rw (← by_bytes _ _ q r es et bs bt)
    (simp (eq-eqb _ _ c.if-response-request.false, eq-eqb _ _ c.if-response-request-2.false, ne_eqb _ _ c.if-response-request-3.true))

pub is_matching-requires : goal.is_matching-requires
is_matching-requires c =
    let a = c.args in
    let bs : Bytes a.request.now = λ i. omega (arith, c.type_inv.request i) in
    asked_range _ _ c.requires bs

pub returns-then-not-is_matching : goal.returns-then-not-is_matching
returns-then-not-is_matching c q r es et =
    let a = c.args in
    let bs : Bytes a.request.now = λ i. omega (arith, c.type_inv.request i) in
    let bt : Bytes a.response.now = λ i. omega (arith, c.type_inv.response i) in
    rw (← by_bytes _ _ q r es et bs bt)
    (simp (eq-eqb _ _ c.if-response-request.false, eq-eqb _ _ c.if-response-request-2.false, eq-eqb _ _ c.if-response-request-3.false, sym c.is_matching.ensures ∙ c.if-not-is_matching.true))

pub returns-then-response-eq2 : goal.returns-then-response-eq2
returns-then-response-eq2 c q r es et =
    let a = c.args in
    let bs : Bytes a.request.now = λ i. omega (arith, c.type_inv.request i) in
    let bt : Bytes a.response.now = λ i. omega (arith, c.type_inv.response i) in
    rw (← by_bytes _ _ q r es et bs bt)
    (simp (eq-eqb _ _ c.if-response-request.false, eq-eqb _ _ c.if-response-request-2.false, eq-eqb _ _ c.if-response-request-3.false, sym c.is_matching.ensures ∙ c.if-not-is_matching.false, ends_there _ _ q r es et bt c.if-response-eq2.true))

pub counts_fit-requires : goal.counts_fit-requires
counts_fit-requires c =
    let a = c.args in
    let bs : Bytes a.request.now = λ i. omega (arith, c.type_inv.request i) in
    let bt : Bytes a.response.now = λ i. omega (arith, c.type_inv.response i) in
    (c.requires, both_count _ _ c.requires bs bt c.if-response-request-3.false c.if-response-eq2.false)

pub returns-then-counts_fit : goal.returns-then-counts_fit
returns-then-counts_fit c q r es et =
    let a = c.args in
    let bs : Bytes a.request.now = λ i. omega (arith, c.type_inv.request i) in
    let bt : Bytes a.response.now = λ i. omega (arith, c.type_inv.response i) in
    rw (← by_bytes _ _ q r es et bs bt)
    (simp (eq-eqb _ _ c.if-response-request.false, eq-eqb _ _ c.if-response-request-2.false, eq-eqb _ _ c.if-response-request-3.false, sym c.is_matching.ensures ∙ c.if-not-is_matching.false, sym (c.counts_fit.ensures q r es et) ∙ c.if-counts_fit.true))

pub returns-else-counts_fit : goal.returns-else-counts_fit
returns-else-counts_fit c q r es et =
    let a = c.args in
    let bs : Bytes a.request.now = λ i. omega (arith, c.type_inv.request i) in
    let bt : Bytes a.response.now = λ i. omega (arith, c.type_inv.response i) in
    rw (← by_bytes _ _ q r es et bs bt)
    (simp (eq-eqb _ _ c.if-response-request.false, eq-eqb _ _ c.if-response-request-2.false, eq-eqb _ _ c.if-response-request-3.false, sym c.is_matching.ensures ∙ c.if-not-is_matching.false, sym (c.counts_fit.ensures q r es et) ∙ c.if-counts_fit.false))
