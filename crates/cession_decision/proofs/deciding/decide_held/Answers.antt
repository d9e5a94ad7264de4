use mathlib.Core.Path.{◌≡◌, sym, ap, ◌∙◌}
use mathlib.Core.Bool.{true, false, not}
use Rattle.std.specs.Prelude.{is_some}
use Rattle.parts.specs.Registers.{state_in}
use Rattle.cession_decision.specs.CessionQuestions.{is_held}
use Rattle.cession_decision.proofs.SpanTests.{held_is, held_after}
use Rattle.cession_decision.proofs.deciding.decide_held.Goals as goal

pub returns-then-is_some : goal.returns-then-is_some
returns-then-is_some c =
    let short : is_held c.args.v.register.now c.args.v.ledger.now c.args.c ≡ false = sym (held_is (state_in c.args.v) c.args.c c.args.days c.requires.span c.requires.lines) ∙ ap not (sym (ap is_some c.first_short_day.ensures) ∙ sym c.is_some.ensures ∙ c.if-is_some.true) in
    rw short

pub returns : goal.returns
returns c =
    let held : is_held c.args.v.register.now c.args.v.ledger.now c.args.c ≡ true = sym (held_is (state_in c.args.v) c.args.c c.args.days c.requires.span c.requires.lines) ∙ ap not (sym (ap is_some c.first_short_day.ensures) ∙ sym c.is_some.ensures ∙ c.if-is_some.false) in
    held_after (state_in c.args.v) c.args.c c.decide_charge.result held c.decide_charge.ensures
