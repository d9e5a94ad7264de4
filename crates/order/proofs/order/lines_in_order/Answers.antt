use mathlib.Core.Path.{sym, ◌∙◌}
use Rattle.parts.proofs.TestLaws.{all_next}
use Rattle.order.proofs.OrderLaws.{in_year, mark_of, line_fields_lem, line_named, lines_fail, lines_short}
use Rattle.order.proofs.order.lines_in_order.Goals as goal

pub returns-then-ledger-n : goal.returns-then-ledger-n
returns-then-ledger-n c = lines_short _ _ c.if-ledger-n.true

pub returns-then-not-fields_in_order : goal.returns-then-not-fields_in_order
returns-then-not-fields_in_order c =
    lines_fail _ _ _ c.loop-i-test.true
    (line_fields_lem c.args.r.now _ _ _ _ _ c.requires c.line_at-l.ensures _ c.fields_in_order.ensures c.if-not-fields_in_order.true)

pub bounds-marks-l : goal.bounds-marks-l
bounds-marks-l c = mark_of _ _ _ _ c.requires (in_year _ _ c.line_at-l.result _ c.fields_in_order.ensures c.if-not-fields_in_order.false)

pub returns-then-not-named_in_order : goal.returns-then-not-named_in_order
returns-then-not-named_in_order c =
    lines_fail _ _ _ c.loop-i-test.true
    (sym (line_named c.args.r.now _ _ _ _ _ c.requires c.line_at-l.ensures _ c.month_marks-marks.ensures _ _ c.fields_in_order.ensures c.if-not-fields_in_order.false c.named_in_order.ensures)
    ∙ c.if-not-named_in_order.true)

pub loop-i-preserved : goal.loop-i-preserved
loop-i-preserved c =
    all_next _ _ c.loop-i.invariant
    (sym (line_named c.args.r.now _ _ _ _ _ c.requires c.line_at-l.ensures _ c.month_marks-marks.ensures _ _ c.fields_in_order.ensures c.if-not-fields_in_order.false c.named_in_order.ensures)
    ∙ c.if-not-named_in_order.false)
