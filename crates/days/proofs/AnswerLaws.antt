-- Laws of the answers: what a moved date is.
-- Assumes nothing.
use Prim.Native.Nat.{◌≤◌}
use lib.Dec.{eqb}
use mathlib.Core.Bool.{Bool, true, false, cond, not, ◌&&◌}
use mathlib.Core.Path.{◌≡◌, refl}
use Rattle.std.specs.Prelude.{Some, None}
use Rattle.days.specs.declared.dates.Date.{Date}
use Rattle.days.specs.Days.{last_day, day_of, is_date, day_after, moves_on}
use Rattle.days.specs.Answers.{next_date_answer, move_number, moved_date}
use Rattle.days.proofs.Ranges.{and_left, year_of_test, date_of_test}
use Rattle.days.proofs.DateLaws.{in_calendar_lem}

-- "moved on by one gas-day [..] with the answer 0; 31 December 2099, a date outside the calendar and one that doesn't exist are left,
-- with the answer 2"
pub moved : (d : Date) → (move_number (next_date_answer d) ≡ cond (moves_on d) 0 2) × (moved_date d (next_date_answer d) ≡ cond (moves_on d) (day_after d) d)
unfolding next_date_answer
moved d = go (moves_on d)
  where
    go : (b : Bool) → (move_number (cond b (Some (day_after d)) None) ≡ cond b 0 2) × (moved_date d (cond b (Some (day_after d)) None) ≡ cond b (day_after d) d)
    go true = (refl, refl)
    go false = (refl, refl)

-- a date that is moved on has a year of the calendar, and one that exists a number of the calendar
pub year_moved_on : (d : Date) → moves_on d ≡ true → d.year ≤ 2099
year_moved_on d h =
    (year_of_test d (and_left (is_date d) (not (eqb d.year 2099 && (eqb d.month 12 && eqb d.day 31))) h)).to

pub day_of_date : (d : Date) → is_date d ≡ true → day_of d ≤ last_day
day_of_date d h = in_calendar_lem d (date_of_test d h) (year_of_test d h).to
