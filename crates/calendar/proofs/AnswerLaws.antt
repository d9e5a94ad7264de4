-- Laws of the answers: how the answer on an arrival is put together from its deadline.
-- Assumes nothing.
use Prim.Native.Nat.{ℕ, ◌≤◌, ◌<◌}
use mathlib.Core.Bool.{Bool, true, false, cond, ◌&&◌}
use mathlib.Core.Path.{◌≡◌, refl, sym, ap, ◌∙◌}
use borrow.Author.Tests.{le-leb, lt-leb}
use Rattle.std.specs.Prelude.{Option, Some, None, option_map}
use Rattle.days.specs.declared.dates.Month.{Month}
use Rattle.days.specs.Days.{last_day, between, is_month, date_of, year_before, month_before}
use Rattle.calendar.specs.ThermalYears.{is_thermal_month, calendar_year, calendar_month}
use Rattle.calendar.specs.Deadlines.{own_deadline, preceding_deadline}
use Rattle.working_days.specs.Answers.{nth_answer}
use Rattle.calendar.specs.Answers.{calendar_answer, preceding_day, timely, own_answer, preceding_answer}
use Rattle.days.proofs.Ranges.{month_of_test, is_month_lem}
use Rattle.calendar.proofs.DeadlineLaws.{own_month, preceding_month}
use Rattle.calendar.proofs.SpanLaws.{chosen, unchosen, month_named}

-- a deadline that a test lets stand, and an arrival compared with it
compared : {A B : Type 0} (f : A → B) (b : Bool) (d : A) → option_map f (cond b (Some d) None) ≡ cond b (Some (f d)) None
compared f true d = refl
compared f false d = refl

-- an arrival is compared with the n-th working day of its own month
pub own_answer_lem : (a n : ℕ) → a ≤ last_day → option_map (timely a) (nth_answer (date_of a).year (date_of a).month n) ≡ own_answer a n
unfolding nth_answer own_answer own_deadline
own_answer_lem a n h =
    rw (is_month_lem (date_of a).year (date_of a).month (own_month a h), le-leb a last_day h)
    (compared (timely a) (between 1 18 n) (own_deadline a n))

-- and so, whether there is one or not
pub own_by : (a n : ℕ) (o : Option ℕ) → a ≤ last_day → nth_answer (date_of a).year (date_of a).month n ≡ o → own_answer a n ≡ option_map (timely a) o
own_by a n o h e = sym (own_answer_lem a n h) ∙ ap (option_map (timely a)) e

pub own_outside : (a n : ℕ) → last_day < a → own_answer a n ≡ None
unfolding own_answer
own_outside a n h = rw (lt-leb a last_day h)

-- and with that of the month before month k
pub preceding_answer_lem : (a y k n : ℕ) → a ≤ last_day → option_map (timely a) (preceding_day y k n) ≡ preceding_answer a y k n
unfolding preceding_day preceding_answer
preceding_answer_lem a y k n h =
    rw (le-leb a last_day h) (compared (timely a) (is_thermal_month y k && between 1 18 n) (preceding_deadline y k n))

pub preceding_by : (a y k n : ℕ) (o : Option ℕ) → a ≤ last_day → preceding_day y k n ≡ o → preceding_answer a y k n ≡ option_map (timely a) o
preceding_by a y k n o h e = sym (preceding_answer_lem a y k n h) ∙ ap (option_map (timely a)) e

pub preceding_outside : (a y k n : ℕ) → last_day < a → preceding_answer a y k n ≡ None
unfolding preceding_answer
preceding_outside a y k n h = rw (lt-leb a last_day h)

pub ruleset own_answers = (own_by, own_outside)

pub ruleset preceding_answers = (preceding_by, preceding_outside)

-- the n-th working day of the month before month k, by that month
pub preceding_day_lem : (y k n x m : ℕ) → is_thermal_month y k ≡ true → year_before (calendar_year y k) (calendar_month k) ≡ x → month_before (calendar_month k) ≡ m → nth_answer x m n ≡ preceding_day y k n
unfolding nth_answer preceding_day preceding_deadline
preceding_day_lem y k n x m t p q =
    let w : is_month x m ≡ true = rw (p, q) at (is_month_lem _ _ (preceding_month y k (month_of_test 2098 y k t))) in
    rw (t, p, q, w)

-- and by the month of the calendar that month k is
pub preceding_answered : (y k n : ℕ) (m : Month) → calendar_answer y k ≡ Some m → preceding_day y k n ≡ nth_answer (year_before m.year m.month) (month_before m.month) n
unfolding calendar_answer
preceding_answered y k n m h =
    let r = chosen (is_thermal_month y k) (month_named y k) m h in
    let year : year_before (calendar_year y k) (calendar_month k) ≡ year_before m.year m.month = rw r.1 in
    let month : month_before (calendar_month k) ≡ month_before m.month = rw r.1 in
    sym (preceding_day_lem y k n _ _ r.0 year month)

pub preceding_unanswered : (y k n : ℕ) → calendar_answer y k ≡ None → preceding_day y k n ≡ None
unfolding calendar_answer preceding_day
preceding_unanswered y k n h = rw (unchosen (is_thermal_month y k) (month_named y k) h)

pub ruleset preceding_days = (preceding_answered, preceding_unanswered)
