use mathlib.Core.Path.{◌≡◌}
use Rattle.amounts.specs.Ranges.{least_of}
use Rattle.tables.proofs.tables.least_free.Given as goal

abbrev pub invariant-loop-amount : goal.invariant-loop-amount
invariant-loop-amount l = l.least ≡ least_of l.free l.at l.amount-index l.most
