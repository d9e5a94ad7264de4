-- Document 01, "The changing calls": what a batch holds, and the questions put to each of its lines.
-- Assumes nothing.
use Rattle.std.specs.Prelude.{ℕ, Bool, not, ◌&&◌, List, [], ◌∷◌, ltb, eqb, get_or, length}
use Rattle.days.specs.Days.{between}
use Rattle.calendar.specs.ThermalYears.{span, thermal_first, thermal_last}
use Rattle.parts.specs.declared.accounts.Account.{Account}
use Rattle.parts.specs.declared.registers.Register.{Register}
use Rattle.parts.specs.Limits.{user_count, most_amount}
use Rattle.parts.specs.Tests.{some_below}
use Rattle.parts.specs.Registers.{account_at}
use Rattle.parts.specs.Accounts.{is_on_file}
use Rattle.parts.specs.Answers.{Question, ◌asks◌, number_of}
use Rattle.conferral.specs.declared.bookings.Grant.{Grant}
use Rattle.conferral.specs.Bookings.{covers, charge_of}
use Rattle.shares.specs.declared.batches.Batch.{Batch as LentBatch}

-- "for one point and the whole year, 1 to 64 lines of user and asked amount"
pub record Batch : Type 0 where
  pub point : ℕ
  pub users : List ℕ
  pub asked : List ℕ

abbrev pub batch : ℕ → List ℕ → List ℕ → Batch
batch p us amounts = record { point = p; users = us; asked = amounts }

-- the batch that is lent
abbrev pub batch_in : LentBatch → Batch
batch_in b = batch b.point b.users.now b.asked.now

-- how many lines there are, and the user and the asked amount of line i, from 0 on
abbrev pub lines_of : Batch → ℕ
lines_of b = length b.users

abbrev pub user_of : Batch → ℕ → ℕ
user_of b i = get_or b.users i 0

abbrev pub asked_of : Batch → ℕ → ℕ
asked_of b i = get_or b.asked i 0

-- "an annual grant from 1 October" of an amount to a user, which covers the whole year; and to the user of line i
abbrev pub grant_for : ℕ → ℕ → ℕ → ℕ → Grant
grant_for y u p amount =
    record { user = u; point = p; kind = 1; days = span (thermal_first y) (thermal_last y); amount = amount }

abbrev pub grant_of : Register → Batch → ℕ → ℕ → Grant
grant_of r b i amount = grant_for r.year (user_of b i) b.point amount

-- question 2 of a line: "users 0 to 63, [..] amount [..] 1 to 9,999,999"
abbrev pub line_fields : ℕ → ℕ → Bool
line_fields u a = ltb u user_count && between 1 most_amount a

-- question 14: "Batch line: does no earlier line name the user?"
abbrev pub names_same : List ℕ → ℕ → ℕ → Bool
names_same us i j = eqb (get_or us j 0) (get_or us i 0)

unfoldable pub named_before : List ℕ → ℕ → Bool
named_before us i = some_below i (names_same us i)

-- the account that line i names
abbrev pub account_of : Register → Batch → ℕ → Account
account_of r b i = account_at r.accounts (user_of b i)

-- question 11: "commitment plus charge of the asked amount"
abbrev pub charge_asked : Register → Batch → ℕ → ℕ
charge_asked r b i = charge_of r (grant_of r b i (asked_of b i))

-- "Each line then meets 2, 14, 5, 11 in that order"
abbrev pub line_questions : Register → Batch → ℕ → List Question
line_questions r b i =
    2 asks line_fields (user_of b i) (asked_of b i)
    ∷ 14 asks not (named_before b.users i)
    ∷ 5 asks is_on_file (account_of r b i)
    ∷ 11 asks covers (account_of r b i) (charge_asked r b i)
    ∷ []

unfoldable pub line_number : Register → Batch → ℕ → ℕ
line_number r b i = number_of (line_questions r b i)
