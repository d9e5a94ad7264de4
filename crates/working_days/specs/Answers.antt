-- What each public function of working days answers. Input outside the calendar is answered `None`.
-- Assumes nothing.
use Rattle.std.specs.Prelude.{ℕ, cond, ◌&&◌, Option, Some, None}
use Rattle.working_days.specs.declared.working_days.DayType.{DayType}
use Rattle.working_days.specs.declared.working_days.DayType.TheVariants.{Working, NonWorking}
use Rattle.days.specs.Days.{between, in_calendar, is_year, is_month}
use Rattle.working_days.specs.WorkingDays.{easter_sunday, working_day, working_count, nth_working_day}

-- Easter Sunday of a year
unfoldable pub easter_answer : ℕ → Option ℕ
easter_answer y = cond (is_year y) (Some (easter_sunday y)) None

-- whether a day is a working day
unfoldable pub type_answer : ℕ → Option DayType
type_answer n = cond (in_calendar n) (Some (cond (working_day n) Working NonWorking)) None

-- how many working days a month has
unfoldable pub count_answer : ℕ → ℕ → Option ℕ
count_answer y m = cond (is_month y m) (Some (working_count y m)) None

-- the 1st to the 18th working day of a month
unfoldable pub nth_answer : ℕ → ℕ → ℕ → Option ℕ
nth_answer y m n = cond (is_month y m && between 1 18 n) (Some (nth_working_day y m n)) None
