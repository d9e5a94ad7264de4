use mathlib.Core.Path.{refl, ◌∙◌}
use lib.ListN.{length-set}
use Rattle.amounts.proofs.RangeLaws.{replaced_none, step_from_start}
use Rattle.shares.specs.Batches.{batch_in}
use Rattle.shares.proofs.LoopLaws.{marked_none, marked_more, marked_named, number_for_lem}
use native.Mathlib.Omega.{arith}
use Rattle.shares.proofs.lines.ask_lines.Goals as goal

pub loop-i-init : goal.loop-i-init
loop-i-init c = (refl, marked_none c.args.b.users.now, replaced_none _ _ _)

pub loop-i-preserved : goal.loop-i-preserved
loop-i-preserved c =
    let us = c.args.b.users.now in
    let marks = c.loop-i.invariant in
    let named = marked_named us c.loop-i.i _ c.loop-i.named refl (omega arith) marks.1 in
    let told = c.answer_number.ensures ∙ c.line_questions-answer.ensures ∙ number_for_lem c.args.r.now (batch_in c.args.b) c.loop-i.i _ _ c.requires.0 c.days_of_year-days.ensures named in
    (simp length-set marks.0, marked_more us c.loop-i.i _ c.loop-i.named refl (omega arith) marks.1 marks.0, step_from_start _ _ _ _ _ marks.2 told)
