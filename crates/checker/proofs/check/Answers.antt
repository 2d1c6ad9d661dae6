-- What is not readable is not compared.
use mathlib.Core.Path.{sym, ◌∙◌}
use Rattle.checker.proofs.Judging.{no_request, no_response, as_read}
use Rattle.checker.proofs.check.Goals as goal

pub returns-then-not-request_readable : goal.returns-then-not-request_readable
returns-then-not-request_readable c =
    let q = c.request_readable in
    no_request _ _ (sym q.ensures ∙ c.if-not-request_readable.true)

pub returns-then-not-response_readable : goal.returns-then-not-response_readable
returns-then-not-response_readable c =
    let q = c.request_readable in
    let r = c.response_readable in
    no_response _ _ (sym q.ensures ∙ c.if-not-request_readable.false) (sym r.ensures ∙ c.if-not-response_readable.true)

pub returns : goal.returns
returns c =
    let q = c.request_readable in
    let r = c.response_readable in
    as_read _ _ (sym q.ensures ∙ c.if-not-request_readable.false) (sym r.ensures ∙ c.if-not-response_readable.false) _ c.compare.ensures
