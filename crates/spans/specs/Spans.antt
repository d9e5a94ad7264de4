-- Document 01, questions 8 and 9: when a call may arrive, which span it may have, and whether it is in time.
-- Assumes nothing.
use Rattle.std.specs.Prelude.{ℕ, ◌+◌, Bool, true, false, cond, ◌&&◌, leb, Option, Some, None}
use Rattle.calendar.specs.declared.thermal_years.Span.{Span}
use Rattle.calendar.specs.declared.deadlines.Timeliness.{Timeliness}
use Rattle.calendar.specs.declared.deadlines.Timeliness.TheVariants.{InTime, Late}
use Rattle.days.specs.Days.{between, day_number}
use Rattle.calendar.specs.ThermalYears.{span, is_thermal_year, thermal_first, thermal_last}
use Rattle.calendar.specs.Deadlines.{next_first}

-- "Does arrival lie from 1 September Y to 30 September Y+1"
abbrev pub arrives : ℕ → ℕ → Bool
arrives y a = is_thermal_year y && between (day_number y 9 1) (day_number (y + 1) 9 30) a

-- "and the span in the year with a day left?"
abbrev pub span_fits : ℕ → ℕ → ℕ → Bool
span_fits y first last = leb (thermal_first y) first && leb first last && leb last (thermal_last y)

-- the same, and that the year is within limits
abbrev pub span_in_year : ℕ → ℕ → ℕ → Bool
span_in_year y first last = is_thermal_year y && span_fits y first last

-- question 8 of an arrival and a span
abbrev pub span_ok : ℕ → ℕ → ℕ → ℕ → Bool
span_ok y a first last = arrives y a && span_fits y first last

-- a span where a test holds, and else none
abbrev pub span_where : Bool → ℕ → ℕ → Option Span
span_where t first last = cond t (Some (span first last)) None

-- "from the first of the month after arrival to the year's end"
abbrev pub annual_first : ℕ → ℕ
annual_first a = next_first a

abbrev pub annual_last : ℕ → ℕ
annual_last y = thermal_last y

-- the same, where that is a span of the year
unfoldable pub annual_answer : ℕ → ℕ → Option Span
annual_answer y a = span_where (span_in_year y (annual_first a) (annual_last y)) (annual_first a) (annual_last y)

-- question 9: "In time?", as the calendar answers it
abbrev pub is_timely : Option Timeliness → Bool
is_timely (Some InTime) = true
is_timely (Some Late) = false
is_timely None = false
