-- The refusals in the order of their numbers, then a request or a change.
use mathlib.Core.Path.{sym, ◌∙◌, ap}
use Rattle.access.specs.Work.{Outcome}
use Rattle.access.proofs.Outcomes.{unreadable, foreign, is_read, is_changed}
use Rattle.access.proofs.work.Goals as goal

pub returns-then-not-request_readable : goal.returns-then-not-request_readable
returns-then-not-request_readable c =
    let a = c.args in
    let q = c.request_readable in
    let o = sym (unreadable a.axis a.block.now a.part.now (sym q.ensures ∙ c.if-not-request_readable.true)) in
    (ap (λ (x : Outcome). x.number) o, ap (λ (x : Outcome). x.stored) o, ap (λ (x : Outcome). x.part) o)

pub returns-then-h-axis : goal.returns-then-h-axis
returns-then-h-axis c =
    let a = c.args in
    let q = c.request_readable in
    let h = c.header_of-h in
    let o = sym (foreign a.axis a.block.now a.part.now (sym q.ensures ∙ c.if-not-request_readable.false) h.result h.ensures c.if-h-axis.true) in
    (ap (λ (x : Outcome). x.number) o, ap (λ (x : Outcome). x.stored) o, ap (λ (x : Outcome). x.part) o)

pub returns-then-h-eq1 : goal.returns-then-h-eq1
returns-then-h-eq1 c =
    let a = c.args in
    let q = c.request_readable in
    let h = c.header_of-h in
    let o = sym (is_read a.axis a.block.now a.part.now (sym q.ensures ∙ c.if-not-request_readable.false) h.result h.ensures c.if-h-axis.false c.if-h-eq1.true) in
    (ap (λ (x : Outcome). x.number) o, ap (λ (x : Outcome). x.stored) o, c.answer.ensures ∙ ap (λ (x : Outcome). x.part) o)

pub returns : goal.returns
returns c =
    let a = c.args in
    let q = c.request_readable in
    let h = c.header_of-h in
    let d = c.answer-2 in
    let o = sym (is_changed a.axis a.block.now a.part.now (sym q.ensures ∙ c.if-not-request_readable.false) h.result h.ensures c.if-h-axis.false c.if-h-eq1.false) in
    (d.ensures.number ∙ ap (λ (x : Outcome). x.number) o, d.ensures.stored ∙ ap (λ (x : Outcome). x.stored) o, d.ensures.part ∙ ap (λ (x : Outcome). x.part) o)
