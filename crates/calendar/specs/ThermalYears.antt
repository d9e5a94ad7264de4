-- Document 01, "Gas-days and working days": thermal years and their months.
-- Assumes nothing.
use Rattle.std.specs.Prelude.{ℕ, ◌+◌, ◌-◌, ◌≡◌, Bool, true, cond, ◌&&◌, leb}
use Rattle.days.specs.Days.{between, month_length, month_start, day_number}
use Rattle.calendar.specs.declared.thermal_years.Span.{Span}

-- the span of the days from the first to the last
abbrev pub span : ℕ → ℕ → Span
span first last = record { first = first; last = last }

-- "Thermal year Y (2000 to 2098)"
abbrev pub is_thermal_year : ℕ → Bool
is_thermal_year y = between 2000 2098 y

-- "runs from 1 October Y to 30 September Y+1"
abbrev pub thermal_first : ℕ → ℕ
thermal_first y = day_number y 10 1

abbrev pub thermal_last : ℕ → ℕ
thermal_last y = day_number (y + 1) 9 30

-- a gas-day of thermal year Y
abbrev pub in_thermal_year : ℕ → ℕ → Bool
in_thermal_year y d = is_thermal_year y && between (thermal_first y) (thermal_last y) d

-- first and last are the first and the last day of thermal year Y
pub record YearSpan (y first last : ℕ) : Type 0 where
  pub year : is_thermal_year y ≡ true
  pub begins : first ≡ thermal_first y
  pub ends : last ≡ thermal_last y

-- a month of a thermal year
abbrev pub is_thermal_month : ℕ → ℕ → Bool
is_thermal_month y k = is_thermal_year y && between 1 12 k

-- "Month 1 of it is October, month 12 September": the calendar year and the calendar month of month k of thermal year Y
unfoldable pub calendar_year : ℕ → ℕ → ℕ
calendar_year y k = cond (leb k 3) y (y + 1)

unfoldable pub calendar_month : ℕ → ℕ
calendar_month k = cond (leb k 3) (k + 9) (k - 3)

-- the first and the last day of month k of thermal year Y
unfoldable pub thermal_month_first : ℕ → ℕ → ℕ
thermal_month_first y k = month_start (calendar_year y k) (calendar_month k)

unfoldable pub thermal_month_last : ℕ → ℕ → ℕ
thermal_month_last y k =
    day_number (calendar_year y k) (calendar_month k) (month_length (calendar_year y k) (calendar_month k))
