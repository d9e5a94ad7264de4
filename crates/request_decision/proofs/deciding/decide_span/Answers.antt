use mathlib.Core.Path.{sym, ◌∙◌}
use Rattle.parts.specs.Registers.{state_in}
use Rattle.request_decision.proofs.RequestLaws.{spanned}
use Rattle.request_decision.proofs.AmountTests.{year_is, time_is, settled_after}
use Rattle.request_decision.proofs.deciding.decide_span.Goals as goal

pub returns-then-not-is_in_time : goal.returns-then-not-is_in_time
returns-then-not-is_in_time c =
    let r = c.args.v.register.now in
    let found = sym c.span_of.ensures ∙ c.in-Some.is in
    rw (year_is r c.args.q _ found, sym (time_is r c.args.q _ c.requires found) ∙ sym c.is_in_time.ensures ∙ c.if-not-is_in_time.true)

pub decide_amount-requires : goal.decide_amount-requires
decide_amount-requires c = (c.requires, spanned c.args.v.register.now c.args.q _ (sym c.span_of.ensures ∙ c.in-Some.is))

pub returns : goal.returns
returns c =
    settled_after (state_in c.args.v) c.args.q c.in-Some.days c.decide_amount.result c.requires
    (sym c.span_of.ensures ∙ c.in-Some.is)
    (sym c.is_in_time.ensures ∙ c.if-not-is_in_time.false)
    c.decide_amount.ensures
