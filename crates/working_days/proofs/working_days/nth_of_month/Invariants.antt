-- `working_days::working_days::nth_of_month` meets its contract.
-- The day sought stays the `left`-th working day from `day` on. As long as one is left, `day` is a day of the month, so the loop needs no
-- test for its end.
-- Assumes nothing.
use Prim.Native.Nat.{◌+◌, ◌-◌, ◌≤◌}
use Rattle.days.specs.Days.{month_length}
use Rattle.working_days.specs.WorkingDays.{nth_of_month}
use Rattle.working_days.proofs.WorkingDayLaws.{Sought}
use Rattle.working_days.proofs.working_days.nth_of_month.Given as goal

abbrev pub invariant-loop-month : goal.invariant-loop-month
invariant-loop-month l = (1 ≤ l.day) × Sought l.month.year l.month.month (month_length l.month.year l.month.month + 1) (nth_of_month l.month.year l.month.month l.n) l.day l.left

abbrev pub decreases-loop-month : goal.decreases-loop-month
decreases-loop-month l = month_length l.month.year l.month.month + 1 - l.day
