use mathlib.Core.Path.{◌≡◌}
use Rattle.parts.specs.Tests.{all_below}
use Rattle.order.specs.Order.{row_test}
use Rattle.order.proofs.order.table_in_order.Given as goal

abbrev pub invariant-loop-i : goal.invariant-loop-i
invariant-loop-i l = l.ok ≡ all_below l.i (row_test l.days l.free l.points)
