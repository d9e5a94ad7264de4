-- Document 01, "Questions put to a call": the questions put to a request, in their order, and what is granted.
-- Assumes nothing.
use Rattle.std.specs.Prelude.{ℕ, ◌+◌, Bool, ◌&&◌, List, [], ◌∷◌, ltb, get_or}
use Rattle.days.specs.Days.{between}
use Rattle.calendar.specs.declared.thermal_years.Span.{Span}
use Rattle.calendar.specs.ThermalYears.{span}
use Rattle.parts.specs.declared.points.Point.{Point}
use Rattle.parts.specs.declared.accounts.Account.{Account}
use Rattle.parts.specs.declared.registers.Register.{Register}
use Rattle.parts.specs.Limits.{point_count, user_count, most_amount}
use Rattle.parts.specs.Tests.{all_below}
use Rattle.amounts.specs.Ranges.{least_of}
use Rattle.parts.specs.Registers.{State, point_at, account_at}
use Rattle.amounts.specs.Amounts.{span_days, entry_of}
use Rattle.parts.specs.Points.{is_open}
use Rattle.parts.specs.Accounts.{is_on_file}
use Rattle.order.specs.Order.{in_order}
use Rattle.parts.specs.Answers.{Question, ◌asks◌}
use Rattle.conferral.specs.declared.bookings.Grant.{Grant}
use Rattle.conferral.specs.Bookings.{covers, lines_left, charge_of}
use Rattle.products.specs.declared.products.Request.{Request}
use Rattle.products.specs.Products.{kind_of, first_of, last_of, month_ok, is_offered, is_in_year, is_in_time}

-- question 2: "point 0 to 31, users 0 to 63, [..] amount [..] 1 to 9,999,999, month 1 to 12"
abbrev pub request_fields : Request → Bool
request_fields q =
    ltb q.point point_count && ltb q.user user_count && between 1 most_amount q.amount && month_ok q.product

-- the span: its first day, its last day, both of them, how many days, and the place of its first day in the table
abbrev pub span_first : Register → Request → ℕ
span_first r q = first_of r.year q.arrival q.product

abbrev pub span_last : Register → Request → ℕ
span_last r q = last_of r.year q.arrival q.product

abbrev pub span_of : Register → Request → Span
span_of r q = span (span_first r q) (span_last r q)

abbrev pub days_asked : Register → Request → ℕ
days_asked r q = span_days (span_first r q) (span_last r q)

abbrev pub span_place : Register → Request → ℕ
span_place r q = entry_of r.year q.point (span_first r q)

-- the point and the account that it names
abbrev pub point_of : Register → Request → Point
point_of r q = point_at r.points q.point

abbrev pub account_of : Register → Request → Account
account_of r q = account_at r.accounts q.user

-- the grant of an amount to the user on each day of the span
abbrev pub grant_from : Request → Span → ℕ → Grant
grant_from q days amount =
    record {
      user = q.user;
      point = q.point;
      kind = kind_of q.product;
      days = days;
      amount = amount;
    }

abbrev pub grant_of : Register → Request → ℕ → Grant
grant_of r q amount = grant_from q (span_of r q) amount

-- question 11: "commitment plus charge of the asked amount"
abbrev pub charge_asked : Register → Request → ℕ
charge_asked r q = charge_of r (grant_of r q q.amount)

-- question 12: "Is anything free on every day of a request's span?"
abbrev pub is_free : List ℕ → ℕ → ℕ → Bool
is_free f at k = ltb 0 (get_or f (at + k) 0)

abbrev pub free_throughout : Register → List ℕ → Request → Bool
free_throughout r f q = all_below (days_asked r q) (is_free f (span_place r q))

-- questions 11, 12 and 13
abbrev pub amount_questions : State → Request → List Question
amount_questions s q =
    11 asks covers (account_of s.register q) (charge_asked s.register q)
    ∷ 12 asks free_throughout s.register s.free q
    ∷ 13 asks lines_left s.register 1
    ∷ []

-- questions 8 and 9, then these
abbrev pub span_questions : State → Request → List Question
span_questions s q =
    8 asks is_in_year s.register.year q.arrival q.product
    ∷ 9 asks is_in_time s.register.year q.arrival q.product
    ∷ amount_questions s q

-- questions 1, 2, 3, 5 and 7, then these
abbrev pub request_questions : State → Request → List Question
request_questions s q =
    1 asks in_order s
    ∷ 2 asks request_fields q
    ∷ 3 asks is_open (point_of s.register q)
    ∷ 5 asks is_on_file (account_of s.register q)
    ∷ 7 asks is_offered (point_of s.register q) q.product
    ∷ span_questions s q

-- "Granted is the asked amount, or the smallest free amount of the span if that is less."
unfoldable pub amount_granted : Register → List ℕ → Request → ℕ
amount_granted r f q = least_of f (span_place r q) (days_asked r q) q.amount
