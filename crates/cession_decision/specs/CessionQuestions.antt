-- Document 01, "Questions put to a call": the questions put to a cession, in their order.
-- Assumes nothing.
use Rattle.std.specs.Prelude.{ℕ, Bool, not, ◌&&◌, List, [], ◌∷◌, leb, ltb, eqb}
use Rattle.days.specs.Days.{between}
use Rattle.calendar.specs.declared.thermal_years.Span.{Span}
use Rattle.calendar.specs.ThermalYears.{span}
use Rattle.calendar.specs.Deadlines.{in_time_own}
use Rattle.parts.specs.declared.points.Point.{Point}
use Rattle.parts.specs.declared.accounts.Account.{Account}
use Rattle.parts.specs.declared.registers.Register.{Register}
use Rattle.parts.specs.Limits.{point_count, user_count, most_amount}
use Rattle.parts.specs.Registers.{State, point_at, account_at}
use Rattle.amounts.specs.Amounts.{span_days}
use Rattle.parts.specs.Charges.{charge}
use Rattle.parts.specs.Points.{is_open}
use Rattle.parts.specs.Accounts.{is_on_file}
use Rattle.order.specs.Order.{in_order}
use Rattle.parts.specs.Answers.{Question, ◌asks◌}
use Rattle.spans.specs.Spans.{annual_first, annual_last, span_ok}
use Rattle.conferral.specs.Bookings.{covers, lines_left}
use Rattle.holdings.specs.declared.holdings.Holding.{Holding}
use Rattle.holdings.specs.Holdings.{holds_throughout}
use Rattle.cession_decision.specs.declared.deciding.Cession.{Cession}

-- question 2: "point 0 to 31, users 0 to 63, giver not the receiver, amount [..] 1 to 9,999,999"
abbrev pub cession_fields : Cession → Bool
cession_fields c =
    ltb c.point point_count
    && (ltb c.giver user_count && ltb c.receiver user_count)
    && not (eqb c.giver c.receiver)
    && between 1 most_amount c.amount

-- the point and the two accounts that it names
abbrev pub point_of : Register → Cession → Point
point_of r c = point_at r.points c.point

abbrev pub giver_of : Register → Cession → Account
giver_of r c = account_at r.accounts c.giver

abbrev pub receiver_of : Register → Cession → Account
receiver_of r c = account_at r.accounts c.receiver

-- question 5: "Are the users named on file?"
abbrev pub both_on_file : Register → Cession → Bool
both_on_file r c = is_on_file (giver_of r c) && is_on_file (receiver_of r c)

-- "from the first of the month after arrival to the year's end"
abbrev pub span_first : Cession → ℕ
span_first c = annual_first c.arrival

abbrev pub span_last : Register → ℕ
span_last r = annual_last r.year

abbrev pub span_of : Register → Cession → Span
span_of r c = span (span_first c) (span_last r)

-- question 8: "Does arrival lie from 1 September Y to 30 September Y+1, and the span in the year with a day left?"
abbrev pub is_in_year : Register → Cession → Bool
is_in_year r c = span_ok r.year c.arrival (span_first c) (span_last r)

-- question 9: "Cession: by the 16th working day of the arrival month."
abbrev pub deadline : ℕ
deadline = 16

abbrev pub is_in_time : Cession → Bool
is_in_time c = in_time_own c.arrival deadline

-- question 10: "Does the giver hold the amount on every day of the span?"
abbrev pub given_of : Register → Cession → Holding
given_of r c =
    record { user = c.giver; point = c.point; first = span_first c; last = span_last r; amount = c.amount }

abbrev pub is_held : Register → List ℕ → Cession → Bool
is_held r ls c = holds_throughout r.year r.lines ls (given_of r c)

-- "A charge is amount × days of the span × rate."
abbrev pub charge_of : Register → Cession → ℕ
charge_of r c = charge c.amount (span_days (span_first c) (span_last r)) (point_of r c).rate

-- "In a cession 1 is also given after question 10, if the giver's commitment is below the charge.", then questions 11 "(cession:
-- receiver)" and 13, "two for a cession"
abbrev pub charge_questions : Register → Cession → List Question
charge_questions r c =
    1 asks leb (charge_of r c) (giver_of r c).commitment
    ∷ 11 asks covers (receiver_of r c) (charge_of r c)
    ∷ 13 asks lines_left r 2
    ∷ []

-- question 10, then these
abbrev pub held_questions : State → Cession → List Question
held_questions s c = 10 asks is_held s.register s.ledger c ∷ charge_questions s.register c

-- questions 8 and 9, then these
abbrev pub span_questions : State → Cession → List Question
span_questions s c = 8 asks is_in_year s.register c ∷ 9 asks is_in_time c ∷ held_questions s c

-- questions 1, 2, 3 and 5, then these
abbrev pub cession_questions : State → Cession → List Question
cession_questions s c =
    1 asks in_order s
    ∷ 2 asks cession_fields c
    ∷ 3 asks is_open (point_of s.register c)
    ∷ 5 asks both_on_file s.register c
    ∷ span_questions s c
