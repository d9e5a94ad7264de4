use mathlib.Core.Path.{ap, ◌∙◌}
use Prim.Native.Nat.{◌<◌}
use mir.Syntax.{w32}
use mir.Facts.{to_z_pos}
use Rattle.parts.specs.Registers.{state}
use Rattle.parts.specs.Answers.{number_of_answer, amount_of_answer}
use Rattle.order.proofs.OrderFacts.{guarantee_le}
use Rattle.cession_decision.specs.CessionQuestions.{receiver_of}
use Rattle.cessions.specs.CedeCapacity.{annual_line}
use Rattle.cessions.proofs.AnswerLaws.{decided_facts, ceded_as, decided, refused}
use Rattle.cessions.proofs.CededLaws.{minus_held}
use native.Mathlib.Omega.{arith}
use Rattle.cessions.proofs.ceding.cede_capacity.Goals as goal

pub moved_register-requires-clause-guarantee : goal.moved_register-requires-clause-guarantee
moved_register-requires-clause-guarantee c =
    let w = decided_facts (state c.args.r c.args.free.now c.args.ledger.now) c.args.c c.in-Ok.h c.in-Ok.ensures in
    guarantee_le (receiver_of c.args.r c.args.c) (w.order.accounts c.args.c.receiver w.fields.receiver)

pub moved_register-requires-clause-lines : goal.moved_register-requires-clause-lines
moved_register-requires-clause-lines c =
    (decided_facts (state c.args.r c.args.free.now c.args.ledger.now) c.args.c c.in-Ok.h c.in-Ok.ensures).lines

pub returns-in-Ok : goal.returns-in-Ok
returns-in-Ok c =
    let s = state c.args.r c.args.free.now c.args.ledger.now in
    let w = (decided_facts s c.args.c c.in-Ok.h c.in-Ok.ensures).fields.amount in
    let small : c.args.c.amount < 2147483648 = omega (arith, w.to) in
    let t = decided s c.args.c c.in-Ok.h _ c.in-Ok.ensures
    (ceded_as s c.args.c c.in-Ok.h c.annual_line-minus.result c.annual_line-plus.result c.moved_register.result _ c.in-Ok.ensures.1
    (c.annual_line-minus.ensures ∙ ap (annual_line c.args.c.giver c.args.c.point c.in-Ok.h.first) (minus_held c.args.c.amount w.from w.to))
    (c.annual_line-plus.ensures ∙ ap (annual_line c.args.c.receiver c.args.c.point c.in-Ok.h.first) (to_z_pos w32 small))
    c.write_two_lines.ensures
    c.moved_register.ensures) in
    record { number = t.0; amount = t.1.0; state = t.1.1 }

pub returns-in-Err : goal.returns-in-Err
returns-in-Err c =
    let t = refused (state c.args.r c.args.free.now c.args.ledger.now) c.args.c c.in-Err.why c.in-Err.ensures in
    record { number = ap number_of_answer c.refused.ensures.answer ∙ t.0; amount = ap amount_of_answer c.refused.ensures.answer ∙ t.1.0; state = rw c.refused.ensures.register t.1.1 }
