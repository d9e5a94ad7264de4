-- Terms of the contracts of private functions: how the code goes about it. No contract that a caller reads rests on them.
-- Assumes nothing.
use Rattle.std.specs.Prelude.{ℕ, ◌-◌, ◌≤◌, ◌≡◌, Bool, false, not, ◌||◌, List, [], ◌∷◌, leb, eqb, get_or}
use Rattle.days.specs.Days.{between}
use Rattle.calendar.specs.ThermalYears.{thermal_first, thermal_last}
use Rattle.parts.specs.declared.points.Point.{Point}
use Rattle.parts.specs.declared.accounts.Account.{Account}
use Rattle.ledger.specs.declared.ledger.Line.{Line}
use Rattle.parts.specs.Tests.{some_below}
use Rattle.parts.specs.Points.{is_open}
use Rattle.parts.specs.Accounts.{is_on_file}
use Rattle.order.specs.Order.{opens_month, amount_ok}

-- the k-th number is at most m
abbrev pub at_most : List ℕ → ℕ → ℕ → Bool
at_most l m k = leb (get_or l k 0) m

-- marks of the firsts of the first n months of thermal year Y, by the days from 1 October
abbrev pub Marked : ℕ → ℕ → List Bool → Type 0
Marked y n marks =
    (d : ℕ) → thermal_first y ≤ d → d ≤ thermal_last y → get_or marks (d - thermal_first y) false ≡ some_below n (opens_month y d)

-- the tests of a line in two parts: what it says by itself, and what it names
abbrev pub field_tests : ℕ → ℕ → Line → List Bool
field_tests first last l = between 1 3 l.kind ∷ between first last l.first ∷ amount_ok l.amount ∷ []

abbrev pub named_tests : Account → Point → Bool → Line → List Bool
named_tests a p opens l = is_on_file a ∷ is_open p ∷ (not (eqb l.kind 2) || opens) ∷ []
