-- The sum so far is that of the months passed.
-- Assumes nothing.
use Prim.Native.Nat.{◌*◌, ◌-◌, ◌≤◌}
use mathlib.Core.Path.{◌≡◌}
use Rattle.days.specs.Days.{days_before}
use Rattle.days.proofs.dates.Month.days_before.Given as goal

abbrev pub invariant-loop-before : goal.invariant-loop-before
invariant-loop-before l = (l.before ≤ l.self.month - 1) × (l.sum ≡ days_before l.self.year l.before) × (l.sum ≤ 255 * l.before)
