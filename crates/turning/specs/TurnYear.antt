-- Document 01, "The changing calls": turn the year.
-- Assumes nothing.
use Rattle.std.specs.Prelude.{ℕ, List, [], ◌∷◌, ltb}
use Rattle.calendar.specs.ThermalYears.{is_thermal_year}
use Rattle.parts.specs.declared.accounts.Account.{Account}
use Rattle.parts.specs.declared.registers.Register.{Register}
use Rattle.parts.specs.Limits.{user_count}
use Rattle.amounts.specs.Ranges.{replaced}
use Rattle.parts.specs.Registers.{State, state, account_at, with_commitment, with_year, with_accounts, with_lines}
use Rattle.ledger.specs.Ledger.{empty_ledger}
use Rattle.amounts.specs.Amounts.{year_days, freed_table}
use Rattle.order.specs.Order.{in_order}
use Rattle.parts.specs.Answers.{Question, ◌asks◌, number_of, leaves}

-- questions 1, 2 ("Y") and 15: "Is the new year later?"
abbrev pub turn_questions : State → ℕ → List Question
turn_questions s y =
    1 asks in_order s
    ∷ 2 asks is_thermal_year y
    ∷ 15 asks ltb s.register.year y
    ∷ []

unfoldable pub turn_number : State → ℕ → ℕ
turn_number s y = number_of (turn_questions s y)

-- "commitments 0; points, rates and guarantees remain"
abbrev pub settled_at : List Account → ℕ → Account
settled_at us i = with_commitment (account_at us i) 0

unfoldable pub settled_accounts : List Account → List Account
settled_accounts us = replaced us 0 user_count (settled_at us)

abbrev pub turned_register : Register → ℕ → Register
turned_register r y = with_year (with_lines (with_accounts r (settled_accounts r.accounts)) 0) y

-- "Turn the year to a later Y: totals free again, ledger empty"
unfoldable pub turned : State → ℕ → State
turned s y =
    state (turned_register s.register y) (freed_table s.free (year_days y) s.register.points) empty_ledger

unfoldable pub turn_after : State → ℕ → State
turn_after s y = leaves (turn_number s y) (turned s y) s
