use mathlib.Core.Path.{◌≡◌}
use mathlib.Core.Bool.{true}
use Rattle.parts.specs.Tests.{all_below}
use Rattle.order.specs.Order.{line_test}
use Rattle.order.proofs.order.lines_in_order.Given as goal

abbrev pub invariant-loop-i : goal.invariant-loop-i
invariant-loop-i l = all_below l.i (line_test l.r l.ledger) ≡ true
