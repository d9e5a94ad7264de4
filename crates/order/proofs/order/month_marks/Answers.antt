use mathlib.Core.Path.{refl}
use lib.ListN.{length-set}
use Rattle.order.proofs.OrderLaws.{marked_none, marked_more, mark_place}
use Rattle.order.proofs.order.month_marks.Goals as goal

pub loop-n-init : goal.loop-n-init
loop-n-init c = (refl, marked_none c.args.year c.requires.year)

pub overflow_sub-marks : goal.overflow_sub-marks
overflow_sub-marks c = (mark_place _ _ _ _ _ c.requires c.loop-n-test.true c.month_first-opens.ensures).0

pub bounds-marks-opens : goal.bounds-marks-opens
bounds-marks-opens c = (mark_place _ _ _ _ _ c.requires c.loop-n-test.true c.month_first-opens.ensures).1

pub loop-n-preserved : goal.loop-n-preserved
loop-n-preserved c = (
  simp length-set c.loop-n.invariant.0,
  marked_more _ _ _ _ _ c.loop-n.marks c.requires c.loop-n-test.true c.loop-n.invariant.0 c.month_first-opens.ensures c.loop-n.invariant.1,
)
