-- Document 01, "Gas-days and working days": the days of the calendar, its years and months, and the date of a day.
-- Every definition is total. What it says outside the calendar has no meaning, and `Answers` gives it to nobody.
-- Assumes nothing.
use Rattle.std.specs.Prelude.{ℕ, zero, suc, ◌+◌, ◌-◌, ◌*◌, ◌/◌, ◌%◌, Bool, cond, not, ◌&&◌, ◌||◌, leb, ltb, eqb}
use Rattle.days.specs.declared.dates.Date.{Date}

-- the test that x lies from lo to hi, both included
abbrev pub between : ℕ → ℕ → ℕ → Bool
between lo hi x = leb lo x && leb x hi

-- "The calendar ends with day 36,524, 31 December 2099."
abbrev pub last_day : ℕ
last_day = 36524

abbrev pub in_calendar : ℕ → Bool
in_calendar n = leb n last_day

-- "Day 0 is Saturday": 0 is Monday and 6 is Sunday
abbrev pub weekday : ℕ → ℕ
weekday n = (n + 5) % 7

-- the years and the months of the calendar
abbrev pub is_year : ℕ → Bool
is_year y = between 2000 2099 y

abbrev pub is_month : ℕ → ℕ → Bool
is_month y m = is_year y && between 1 12 m

-- "Every fourth year from 2000 is leap."
abbrev pub leap : ℕ → Bool
leap y = eqb (y % 4) 0

-- the days of month m of year y
unfoldable pub month_length : ℕ → ℕ → ℕ
month_length y m =
    cond (eqb m 2) (cond (leap y) 29 28)
    (cond (eqb m 4 || (eqb m 6 || (eqb m 9 || eqb m 11))) 30 31)

-- the number of 1 January of year y: 365 days for each year from 2000 on, and one more for each leap year among them.
-- That each year has its days, and that day 0 is 1 January 2000, is shown (`year_next`, `date_zero`).
abbrev pub year_start : ℕ → ℕ
year_start y = 365 * (y - 2000) + (y - 1997) / 4

-- the days of the first k months of year y
unfoldable pub days_before : ℕ → ℕ → ℕ
days_before y zero = 0
days_before y (suc k) = days_before y k + month_length y (suc k)

-- the number of the first day of month m of year y
unfoldable pub month_start : ℕ → ℕ → ℕ
month_start y m = year_start y + days_before y (m - 1)

-- the number of day d of month m of year y
abbrev pub day_number : ℕ → ℕ → ℕ → ℕ
day_number y m d = month_start y m + (d - 1)

-- the number of a date
abbrev pub day_of : Date → ℕ
day_of d = day_number d.year d.month d.day

abbrev pub date : ℕ → ℕ → ℕ → Date
date y m d = record { year = y; month = m; day = d }

-- the date r days after the first of month m of year y, where at most k months of the year follow month m
unfoldable pub date_from : ℕ → ℕ → ℕ → ℕ → Date
date_from y m r zero = date y m (r + 1)
date_from y m r (suc k) =
    cond (ltb r (month_length y m)) (date y m (r + 1)) (date_from y (m + 1) (r - month_length y m) k)

-- the year of day n: four years have 1,461 days, and the first of them is the leap year
unfoldable pub year_of : ℕ → ℕ
year_of n = 2000 + 4 * n / 1461

-- the date of day n. That the date of each next day is the day after it is shown (`date_next`).
unfoldable pub date_of : ℕ → Date
date_of n = date_from (year_of n) 1 (n - year_start (year_of n)) 11

-- a date that lies in the calendar and exists
abbrev pub is_date : Date → Bool
is_date d =
    is_year d.year
    && (between 1 12 d.month && between 1 (month_length d.year d.month) d.day)

-- the month after month m of year y: its year, and its month of the calendar
abbrev pub year_after : ℕ → ℕ → ℕ
year_after y m = cond (ltb m 12) y (y + 1)

abbrev pub month_after : ℕ → ℕ
month_after m = cond (ltb m 12) (m + 1) 1

-- the month before month m of year y
abbrev pub year_before : ℕ → ℕ → ℕ
year_before y m = cond (ltb 1 m) y (y - 1)

abbrev pub month_before : ℕ → ℕ
month_before m = cond (ltb 1 m) (m - 1) 12

-- a date "moved on by one gas-day"
unfoldable pub day_after : Date → Date
day_after d =
    cond (ltb d.day (month_length d.year d.month))
    (date d.year d.month (d.day + 1))
    (date (year_after d.year d.month) (month_after d.month) 1)

-- "31 December 2099, a date outside the calendar and one that doesn't exist are left"
abbrev pub moves_on : Date → Bool
moves_on d = is_date d && not (eqb d.year 2099 && (eqb d.month 12 && eqb d.day 31))
