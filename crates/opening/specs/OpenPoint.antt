-- Document 01, "The changing calls": open point.
-- Assumes nothing.
use Rattle.std.specs.Prelude.{ℕ, Bool, not, ◌&&◌, List, [], ◌∷◌, ltb}
use Rattle.parts.specs.Limits.{point_count}
use Rattle.parts.specs.Tests.{every}
use Rattle.parts.specs.Registers.{State, state, point_at, point, with_point}
use Rattle.amounts.specs.Amounts.{year_days, freed_row}
use Rattle.parts.specs.Points.{is_open, open_tests}
use Rattle.order.specs.Order.{in_order}
use Rattle.parts.specs.Answers.{Question, ◌asks◌, number_of, leaves}

-- question 2: "point 0 to 31, [..] total 1 to 9,999,999, [..] kinds, rate"
abbrev pub open_fields : ℕ → ℕ → ℕ → ℕ → Bool
open_fields p kind total rate = ltb p point_count && every (open_tests (point kind total rate))

-- questions 1, 2 and 4: "When opening: is it closed?"
abbrev pub open_questions : State → ℕ → ℕ → ℕ → ℕ → List Question
open_questions s p kind total rate =
    1 asks in_order s
    ∷ 2 asks open_fields p kind total rate
    ∷ 4 asks not (is_open (point_at s.register.points p))
    ∷ []

unfoldable pub open_number : State → ℕ → ℕ → ℕ → ℕ → ℕ
open_number s p kind total rate = number_of (open_questions s p kind total rate)

-- "every gas-day of the year is free to the total", and "it is open from then on, with that total and rate" (The reckoning)
unfoldable pub opened : State → ℕ → ℕ → ℕ → ℕ → State
opened s p kind total rate =
    state (with_point s.register p (point kind total rate))
    (freed_row s.free p (year_days s.register.year) (point kind total rate))
    s.ledger

unfoldable pub open_after : State → ℕ → ℕ → ℕ → ℕ → State
open_after s p kind total rate = leaves (open_number s p kind total rate) (opened s p kind total rate) s
