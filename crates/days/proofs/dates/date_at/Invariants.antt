-- `days::dates::date_at` meets its contract.
-- The year is found by one division. The loop goes through its months: the date sought is that which is `rest` days after the first of
-- `month`. In December fewer than 31 days are left.
-- Assumes nothing.
use Prim.Native.Nat.{◌+◌, ◌-◌}
use mathlib.Core.Path.{◌≡◌}
use Rattle.days.specs.Days.{date_of, date_from, year_of, month_start}
use Rattle.days.proofs.dates.date_at.Given as goal

abbrev pub invariant-loop-month : goal.invariant-loop-month
invariant-loop-month l = (date_from l.year l.month l.rest (12 - l.month) ≡ date_of l.day) × (month_start l.year l.month + l.rest ≡ l.day) × (l.year ≡ year_of l.day)
