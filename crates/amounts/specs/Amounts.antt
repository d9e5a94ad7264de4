-- Document 01, "The register": the free amounts.
-- Assumes nothing.
use Rattle.std.specs.Prelude.{ℕ, ◌+◌, ◌*◌, ◌-◌, ◌/◌, ◌%◌, cond, List, ltb, get_or, replicate}
use Rattle.calendar.specs.ThermalYears.{is_thermal_year, in_thermal_year, thermal_first, thermal_last}
use Rattle.parts.specs.declared.points.Point.{Point}
use Rattle.parts.specs.Limits.{row_length, table_length}
use Rattle.amounts.specs.Ranges.{replaced}
use Rattle.parts.specs.Registers.{State, point_at}

-- the days of a span
abbrev pub span_days : ℕ → ℕ → ℕ
span_days first last = last + 1 - first

-- the gas-days of thermal year Y
abbrev pub year_days : ℕ → ℕ
year_days y = span_days (thermal_first y) (thermal_last y)

-- the same, and 0 for a year that has no thermal year
unfoldable pub days_of_year : ℕ → ℕ
days_of_year y = cond (is_thermal_year y) (year_days y) 0

-- "366 for each point in turn, first the one for 1 October": the entry of the k-th day from 1 October, for point p
abbrev pub entry_at : ℕ → ℕ → ℕ
entry_at p k = row_length * p + k

-- the entry of gas-day d of thermal year Y, for point p. For a day outside the year it means nothing
abbrev pub entry_of : ℕ → ℕ → ℕ → ℕ
entry_of y p d = entry_at p (d - thermal_first y)

-- the same, and for a day outside the year the place after the table's end
unfoldable pub entry_in : ℕ → ℕ → ℕ → ℕ
entry_in y p d = cond (in_thermal_year y d) (entry_of y p d) table_length

-- what can be free at a point on the k-th day from 1 October of a year with so many days: the total, and nothing after the
-- year's end
abbrev pub capacity : ℕ → Point → ℕ → ℕ
capacity days p k = cond (ltb k days) p.total 0

-- "The grant is taken from each of those days": an amount taken from n numbers from place `at` on
abbrev pub less_by : List ℕ → ℕ → ℕ → ℕ → ℕ
less_by f at amount k = get_or f (at + k) 0 - amount

unfoldable pub taken : List ℕ → ℕ → ℕ → ℕ → List ℕ
taken f at n amount = replaced f at n (less_by f at amount)

-- "every gas-day of the year is free to the total": the amounts of one point
unfoldable pub freed_row : List ℕ → ℕ → ℕ → Point → List ℕ
freed_row f i days p = replaced f (row_length * i) row_length (capacity days p)

-- "totals free again": the amounts of all points
abbrev pub capacity_at : ℕ → List Point → ℕ → ℕ
capacity_at days ps k = capacity days (point_at ps (k / row_length)) (k % row_length)

unfoldable pub freed_table : List ℕ → ℕ → List Point → List ℕ
freed_table f days ps = replaced f 0 table_length (capacity_at days ps)

-- "a zeroed table"
abbrev pub zero_table : List ℕ
zero_table = replicate table_length 0

-- the free amount of point p on gas-day d of the year
abbrev pub free_on : State → ℕ → ℕ → ℕ
free_on s p d = get_or s.free (entry_of s.register.year p d) 0
