-- What each public function of thermal years and of deadlines answers. Input outside the calendar is answered
-- `None`, and so no function answers it with a wrong date.
-- Assumes nothing.
use Rattle.std.specs.Prelude.{ℕ, cond, ◌&&◌, leb, Option, Some, None}
use Rattle.days.specs.declared.dates.Month.{Month}
use Rattle.calendar.specs.declared.thermal_years.Span.{Span}
use Rattle.calendar.specs.declared.deadlines.Timeliness.{Timeliness}
use Rattle.calendar.specs.declared.deadlines.Timeliness.TheVariants.{InTime, Late}
use Rattle.days.specs.Days.{between, in_calendar, is_month, month_length, month_start, day_number}
use Rattle.calendar.specs.ThermalYears.{span, is_thermal_year, is_thermal_month, thermal_first, thermal_last, calendar_year, calendar_month, thermal_month_first, thermal_month_last}
use Rattle.calendar.specs.Deadlines.{next_first, preceding_deadline, in_time_own, in_time_preceding}

-- the day with a number, where the calendar has it
unfoldable pub day_in : ℕ → Option ℕ
day_in n = cond (in_calendar n) (Some n) None

-- the first of the month after a day, where the calendar has it: it has none for a day of December 2099 or later (`next_in`,
-- `next_out`)
unfoldable pub next_first_answer : ℕ → Option ℕ
next_first_answer a = day_in (next_first a)

-- the first and the last day of a thermal year
unfoldable pub year_answer : ℕ → Option Span
year_answer y = cond (is_thermal_year y) (Some (span (thermal_first y) (thermal_last y))) None

-- month k of a thermal year as a month of the calendar
unfoldable pub calendar_answer : ℕ → ℕ → Option Month
calendar_answer y k = cond (is_thermal_month y k) (Some (record { year = calendar_year y k; month = calendar_month k })) None

-- the first and the last day of a month of the calendar
unfoldable pub span_of_month : ℕ → ℕ → Option Span
span_of_month y m = cond (is_month y m) (Some (span (month_start y m) (day_number y m (month_length y m)))) None

-- the first and the last day of a month of a thermal year
unfoldable pub month_answer : ℕ → ℕ → Option Span
month_answer y k =
    cond (is_thermal_month y k) (Some (span (thermal_month_first y k) (thermal_month_last y k))) None

-- the n-th working day of the month before month k of thermal year Y
unfoldable pub preceding_day : ℕ → ℕ → ℕ → Option ℕ
preceding_day y k n = cond (is_thermal_month y k && between 1 18 n) (Some (preceding_deadline y k n)) None

-- whether an arrival is in time for a deadline
abbrev pub timely : ℕ → ℕ → Timeliness
timely a d = cond (leb a d) InTime Late

-- whether an arrival is in time by the n-th working day of its own month
unfoldable pub own_answer : ℕ → ℕ → Option Timeliness
own_answer a n = cond (in_calendar a && between 1 18 n) (Some (cond (in_time_own a n) InTime Late)) None

-- and by the n-th working day of the month before month k of thermal year Y
unfoldable pub preceding_answer : ℕ → ℕ → ℕ → ℕ → Option Timeliness
preceding_answer a y k n =
    cond (in_calendar a && (is_thermal_month y k && between 1 18 n))
    (Some (cond (in_time_preceding a y k n) InTime Late))
    None
