use mathlib.Core.Path.{sym, ap, ◌∙◌}
use Rattle.parts.specs.Registers.{state_in}
use Rattle.spans.specs.Spans.{is_timely}
use Rattle.cession_decision.proofs.CessionLaws.{spanned}
use Rattle.cession_decision.proofs.SpanTests.{year_is, time_is, settled_after}
use Rattle.cession_decision.proofs.deciding.decide_span.Goals as goal

pub returns-then-not-is_timely : goal.returns-then-not-is_timely
returns-then-not-is_timely c =
    let r = c.args.v.register.now in
    let found = sym c.span_of.ensures ∙ c.in-Some.is in
    rw (year_is r c.args.c _ found, sym (time_is r c.args.c _ found) ∙ sym (c.is_timely.ensures ∙ ap is_timely c.in_time_own_month.ensures) ∙ c.if-not-is_timely.true)

pub decide_held-requires-clause-span : goal.decide_held-requires-clause-span
decide_held-requires-clause-span c = spanned c.args.v.register.now c.args.c _ (sym c.span_of.ensures ∙ c.in-Some.is)

pub returns : goal.returns
returns c =
    settled_after (state_in c.args.v) c.args.c c.in-Some.days c.decide_held.result
    (sym c.span_of.ensures ∙ c.in-Some.is)
    (sym (c.is_timely.ensures ∙ ap is_timely c.in_time_own_month.ensures) ∙ c.if-not-is_timely.false)
    c.decide_held.ensures
