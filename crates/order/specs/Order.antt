-- Document 01, "Questions put to a call", question 1: is the register in order?
-- Assumes nothing.
use Rattle.std.specs.Prelude.{ℕ, ◌+◌, ◌-◌, Bool, not, ◌&&◌, ◌||◌, List, [], ◌∷◌, leb, ltb, eqb, ℤ, pos, negsuc, get_or, length}
use Rattle.std.specs.Int.Signed.{le_z}
use Rattle.days.specs.Days.{between}
use Rattle.calendar.specs.ThermalYears.{is_thermal_year, thermal_first, thermal_last, thermal_month_first}
use Rattle.parts.specs.declared.points.Point.{Point}
use Rattle.parts.specs.declared.accounts.Account.{Account}
use Rattle.ledger.specs.declared.ledger.Line.{Line}
use Rattle.parts.specs.declared.registers.Register.{Register}
use Rattle.parts.specs.Limits.{point_count, user_count, line_count, row_length, table_length, ledger_length, most_amount}
use Rattle.parts.specs.Tests.{all_below, some_below, every}
use Rattle.parts.specs.Points.{is_open, point_ok}
use Rattle.parts.specs.Accounts.{is_on_file, account_ok}
use Rattle.parts.specs.Registers.{State, point_at, account_at}
use Rattle.ledger.specs.Ledger.{line_at}
use Rattle.amounts.specs.Amounts.{year_days, entry_at, capacity}

-- "each free amount at most its total, zeros where named": a closed point has the total 0, and after the end of a 365-day year
-- the capacity is 0
abbrev pub amount_fits : ℕ → List ℕ → ℕ → Point → ℕ → Bool
amount_fits days f i p k = leb (get_or f (entry_at i k) 0) (capacity days p k)

abbrev pub row_ok : ℕ → List ℕ → ℕ → Point → Bool
row_ok days f i p = all_below row_length (amount_fits days f i p)

-- "a month's first": the first day of a month of thermal year Y
abbrev pub opens_month : ℕ → ℕ → ℕ → Bool
opens_month y d k = eqb d (thermal_month_first y (k + 1))

unfoldable pub is_month_first : ℕ → ℕ → Bool
is_month_first y d = some_below 12 (opens_month y d)

-- "an amount other than 0 within ±9,999,999" (`negsuc n` is -(n + 1))
abbrev pub amount_ok : ℤ → Bool
amount_ok a = le_z (negsuc (most_amount - 1)) a && le_z a (negsuc 0) || le_z (pos 1) a && le_z a (pos most_amount)

-- "each line with a user on file, an open point, a kind, a first day in the year (a month's first for a month line) and an
-- amount": a is the user's account, p the point, the year runs from first to last, and `opens` says whether the first day is a
-- month's first
abbrev pub line_tests : Account → Point → ℕ → ℕ → Bool → Line → List Bool
line_tests a p first last opens l =
    is_on_file a
    ∷ is_open p
    ∷ between 1 3 l.kind
    ∷ between first last l.first
    ∷ (not (eqb l.kind 2) || opens)
    ∷ amount_ok l.amount
    ∷ []

abbrev pub names_ok : Line → Bool
names_ok l = ltb l.user user_count && ltb l.point point_count

unfoldable pub line_ok : ℕ → List Point → List Account → Line → Bool
line_ok y ps us l =
    names_ok l
    && every
    (line_tests (account_at us l.user) (point_at ps l.point) (thermal_first y) (thermal_last y) (is_month_first y l.first) l)

-- the same of every point, account, row of free amounts and used line
abbrev pub point_test : List Point → ℕ → Bool
point_test ps i = point_ok (point_at ps i)

unfoldable pub points_ok : List Point → Bool
points_ok ps = all_below point_count (point_test ps)

abbrev pub account_test : List Account → ℕ → Bool
account_test us i = account_ok (account_at us i)

unfoldable pub accounts_ok : List Account → Bool
accounts_ok us = all_below user_count (account_test us)

abbrev pub row_test : ℕ → List ℕ → List Point → ℕ → Bool
row_test days f ps i = row_ok days f i (point_at ps i)

unfoldable pub table_ok : ℕ → List ℕ → List Point → Bool
table_ok days f ps = all_below point_count (row_test days f ps)

abbrev pub line_test : Register → List ℕ → ℕ → Bool
line_test r ls i = line_ok r.year r.points r.accounts (line_at ls i)

unfoldable pub lines_ok : Register → List ℕ → Bool
lines_ok r ls = all_below r.lines (line_test r ls)

-- table length, ledger length and line count
abbrev pub lengths_ok : ℕ → List ℕ → List ℕ → Bool
lengths_ok lines f ls = eqb (length f) table_length && eqb (length ls) ledger_length && leb lines line_count

-- question 1: all of it
abbrev pub order_tests : State → List Bool
order_tests s =
    lengths_ok s.register.lines s.free s.ledger
    ∷ is_thermal_year s.register.year
    ∷ points_ok s.register.points
    ∷ accounts_ok s.register.accounts
    ∷ table_ok (year_days s.register.year) s.free s.register.points
    ∷ lines_ok s.register s.ledger
    ∷ []

unfoldable pub in_order : State → Bool
in_order s = every (order_tests s)
