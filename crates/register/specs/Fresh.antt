-- Document 01, "The changing calls": the fresh register.
-- Assumes nothing.
use Rattle.std.specs.Prelude.{ℕ, List, [], ◌∷◌, eqb, length}
use Rattle.calendar.specs.ThermalYears.{is_thermal_year}
use Rattle.parts.specs.Limits.{table_length, ledger_length}
use Rattle.parts.specs.Registers.{State, state, blank_register}
use Rattle.ledger.specs.Ledger.{empty_ledger}
use Rattle.amounts.specs.Amounts.{zero_table}
use Rattle.parts.specs.Answers.{Question, ◌asks◌, number_of, leaves}

-- "a year out of limits or a table of another length gives 2": so does a ledger of another length
abbrev pub fresh_questions : ℕ → List ℕ → List ℕ → List Question
fresh_questions y f ls =
    2 asks is_thermal_year y
    ∷ 2 asks eqb (length f) table_length
    ∷ 2 asks eqb (length ls) ledger_length
    ∷ []

unfoldable pub fresh_number : ℕ → List ℕ → List ℕ → ℕ
fresh_number y f ls = number_of (fresh_questions y f ls)

-- "A fresh register has a given year, no point open, no user on file, an empty ledger and a zeroed table"
abbrev pub fresh_state : ℕ → State
fresh_state y = state (blank_register y) zero_table empty_ledger

-- "and nothing is altered". The register that comes back is then of year 0, which no call takes.
unfoldable pub fresh_after : ℕ → List ℕ → List ℕ → State
fresh_after y f ls = leaves (fresh_number y f ls) (fresh_state y) (state (blank_register 0) f ls)
