-- The first of the next month, as the calendar answers it.
-- Assumes nothing.
use mathlib.Core.Path.{◌≡◌}
use Prim.Native.Nat.{ℕ, ◌≤◌}
use borrow.Author.Tests.{le-leb}
use Rattle.std.specs.Prelude.{Some}
use Rattle.days.specs.Days.{last_day}
use Rattle.calendar.specs.Deadlines.{next_first}
use Rattle.calendar.specs.Answers.{day_in, next_first_answer}

-- where it lies in the calendar
pub next_there : (a : ℕ) → next_first a ≤ last_day → next_first_answer a ≡ Some (next_first a)
unfolding next_first_answer day_in
next_there a inside = rw (le-leb (next_first a) last_day inside)
