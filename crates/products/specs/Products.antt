-- Document 01, "The changing calls": "A request is annual, or for a numbered month, or for a numbered gas-day."
-- Assumes nothing.
use Rattle.std.specs.Prelude.{ℕ, Bool, true, not, ◌&&◌, ltb, Option}
use Rattle.days.specs.Days.{between}
use Rattle.calendar.specs.declared.thermal_years.Span.{Span}
use Rattle.calendar.specs.ThermalYears.{thermal_month_first, thermal_month_last}
use Rattle.calendar.specs.Deadlines.{in_time_own, in_time_preceding}
use Rattle.calendar.specs.Answers.{own_answer, preceding_answer}
use Rattle.parts.specs.declared.points.Point.{Point}
use Rattle.parts.specs.Points.{is_direct}
use Rattle.spans.specs.Spans.{annual_first, annual_last, span_ok, span_where, is_timely}
use Rattle.products.specs.declared.products.Product.{Product}
use Rattle.products.specs.declared.products.Product.TheVariants.{Annual, Month, Day}

-- the kind of its ledger line: "1 annual, 2 month, 3 day"
abbrev pub kind_of : Product → ℕ
kind_of Annual = 1
kind_of (Month m) = 2
kind_of (Day d) = 3

-- "An annual one spans the first of the month after arrival to the year's end.": the first and the last day in thermal year Y of
-- what arrives on day a
abbrev pub first_of : ℕ → ℕ → Product → ℕ
first_of y a Annual = annual_first a
first_of y a (Month m) = thermal_month_first y m
first_of y a (Day d) = d

abbrev pub last_of : ℕ → ℕ → Product → ℕ
last_of y a Annual = annual_last y
last_of y a (Month m) = thermal_month_last y m
last_of y a (Day d) = d

-- question 2: "month 1 to 12"
abbrev pub month_ok : Product → Bool
month_ok Annual = true
month_ok (Month m) = between 1 12 m
month_ok (Day d) = true

-- question 7: "Is the kind offered? Direct points take annual requests only."
abbrev pub is_offered : Point → Product → Bool
is_offered p Annual = true
is_offered p (Month m) = not (is_direct p)
is_offered p (Day d) = not (is_direct p)

-- question 8: "Does arrival lie from 1 September Y to 30 September Y+1, and the span in the year with a day left?"
abbrev pub is_in_year : ℕ → ℕ → Product → Bool
is_in_year y a k = span_ok y a (first_of y a k) (last_of y a k)

-- "the 11th working day"
abbrev pub deadline : ℕ
deadline = 11

-- question 9: "Annual: by the 11th working day of the arrival month. Monthly: by the 11th working day of the preceding month. Daily:
-- before the gas-day."
abbrev pub is_in_time : ℕ → ℕ → Product → Bool
is_in_time y a Annual = in_time_own a deadline
is_in_time y a (Month m) = in_time_preceding a y m deadline
is_in_time y a (Day d) = ltb a d

-- ---- the same for any numbers, also for those that earlier questions do not let pass
-- the span of a product, where question 8 is answered yes and a month is one of the year's
unfoldable pub span_answer : ℕ → ℕ → Product → Option Span
span_answer y a k = span_where (month_ok k && is_in_year y a k) (first_of y a k) (last_of y a k)

-- question 9 as the calendar answers it, with no where it has no deadline. Of an arrival and a month that the questions before it let
-- pass it is `is_in_time` (`time_asked`)
abbrev pub time_answer : ℕ → ℕ → Product → Bool
time_answer y a Annual = is_timely (own_answer a deadline)
time_answer y a (Month m) = is_timely (preceding_answer a y m deadline)
time_answer y a (Day d) = ltb a d
