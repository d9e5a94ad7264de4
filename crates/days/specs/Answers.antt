-- What the functions of dates answer. Input outside the calendar is answered `None`, and so none of them answers it with a wrong date.
-- Assumes nothing.
use Rattle.std.specs.Prelude.{ℕ, cond, Option, Some, None}
use Rattle.days.specs.declared.dates.Date.{Date}
use Rattle.days.specs.Days.{in_calendar, is_date, date_of, day_of, day_after, moves_on}

-- the date of a day
unfoldable pub date_answer : ℕ → Option Date
date_answer n = cond (in_calendar n) (Some (date_of n)) None

-- the day of a date that exists
unfoldable pub day_answer : Date → Option ℕ
day_answer d = cond (is_date d) (Some (day_of d)) None

-- the date that follows a date, where the date is moved on
unfoldable pub next_date_answer : Date → Option Date
next_date_answer d = cond (moves_on d) (Some (day_after d)) None

-- what that answer means for a date lent by the host: the number, "with the answer 0 [..] are left, with the answer 2", and the
-- date that the record holds afterwards
abbrev pub move_number : Option Date → ℕ
move_number (Some e) = 0
move_number None = 2

abbrev pub moved_date : Date → Option Date → Date
moved_date d (Some e) = e
moved_date d None = d
