use mathlib.Core.Path.{◌≡◌}
use Rattle.parts.specs.Tests.{all_below}
use Rattle.order.specs.Steps.{at_most}
use Rattle.order.proofs.order.all_within.Given as goal

abbrev pub invariant-loop-amount : goal.invariant-loop-amount
invariant-loop-amount l = l.ok ≡ all_below l.amount-index (at_most l.row l.total)
