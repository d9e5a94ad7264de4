-- Document 01, "The changing calls" and question 9: the first of the month after a day, and the working days that are deadlines.
-- Which n is whose, the 11th for requests and the 16th for cessions, is said where these calls are defined.
-- Assumes nothing.
use Rattle.std.specs.Prelude.{ℕ, Bool, leb}
use Rattle.days.specs.Days.{month_start, date_of, year_after, month_after, year_before, month_before}
use Rattle.calendar.specs.ThermalYears.{calendar_year, calendar_month}
use Rattle.working_days.specs.WorkingDays.{nth_working_day}

-- "the first of the month after arrival"
unfoldable pub next_first : ℕ → ℕ
next_first a =
    month_start (year_after (date_of a).year (date_of a).month) (month_after (date_of a).month)

-- "the 11th working day of the arrival month": the n-th of the month of day a
unfoldable pub own_deadline : ℕ → ℕ → ℕ
own_deadline a n = nth_working_day (date_of a).year (date_of a).month n

-- "the 11th working day of the preceding month": the n-th of the month before month k of thermal year Y
unfoldable pub preceding_deadline : ℕ → ℕ → ℕ → ℕ
preceding_deadline y k n =
    nth_working_day (year_before (calendar_year y k) (calendar_month k)) (month_before (calendar_month k)) n

-- "The day itself is in time."
abbrev pub in_time_own : ℕ → ℕ → Bool
in_time_own a n = leb a (own_deadline a n)

abbrev pub in_time_preceding : ℕ → ℕ → ℕ → ℕ → Bool
in_time_preceding a y k n = leb a (preceding_deadline y k n)
