-- Document 01, "Report and runner": the report.
-- Assumes nothing.
use Rattle.std.specs.Prelude.{ℕ, List, [], ◌∷◌, ltb}
use Rattle.calendar.specs.ThermalYears.{in_thermal_year}
use Rattle.parts.specs.Limits.{point_count}
use Rattle.parts.specs.Registers.{State, point_at}
use Rattle.amounts.specs.Amounts.{free_on}
use Rattle.parts.specs.Points.{is_open}
use Rattle.order.specs.Order.{in_order}
use Rattle.parts.specs.Answers.{Question, ◌asks◌, number_of, leaves}

-- questions 1, 2, 3 and 8: "A report asks only that its day lies in the year"
abbrev pub report_questions : State → ℕ → ℕ → List Question
report_questions s p d =
    1 asks in_order s
    ∷ 2 asks ltb p point_count
    ∷ 3 asks is_open (point_at s.register.points p)
    ∷ 8 asks in_thermal_year s.register.year d
    ∷ []

unfoldable pub report_number : State → ℕ → ℕ → ℕ
report_number s p d = number_of (report_questions s p d)

-- "The report gives the free amount of a point and gas-day.", and 0 where a question is answered no
unfoldable pub report_amount : State → ℕ → ℕ → ℕ
report_amount s p d = leaves (report_number s p d) (free_on s p d) 0
