-- What a grant does by parts: to the account of its user, the number of lines and the ledger, with the point that it names. Of the
-- days it is asked only that they follow each other in the calendar and are no more than a year has; the free amounts are left to the
-- caller, who takes the amount that is booked.
-- Assumes nothing.
use Rattle.std.specs.Prelude.{ℕ, ◌+◌, Bool, cond, ◌&&◌, List, leb}
use Rattle.days.specs.Days.{last_day}
use Rattle.parts.specs.declared.points.Point.{Point}
use Rattle.parts.specs.declared.accounts.Account.{Account}
use Rattle.parts.specs.Limits.{line_count, row_length}
use Rattle.parts.specs.Tests.{every}
use Rattle.ledger.specs.Ledger.{with_line}
use Rattle.conferral.specs.declared.bookings.Grant.{Grant}
use Rattle.conferral.specs.Bookings.{covers, charge_at, committed, line_of, field_tests}

-- its days follow each other and are no more than a year has
abbrev pub days_ordered : Grant → Bool
days_ordered g = leb g.days.first g.days.last && (leb g.days.last last_day && leb (g.days.last + 1) (g.days.first + row_length))

-- a grant with such days and with its other fields within limits, whose charge the account covers and for which a line is left
unfoldable pub room_for : ℕ → Account → Point → Grant → Bool
room_for n a p g = (every (field_tests g) && days_ordered g) && (covers a (charge_at p g) && leb (n + 1) line_count)

-- the parts, and the amount that is booked
pub record Posting : Type 0 where
  pub account : Account
  pub lines : ℕ
  pub amount : ℕ
  pub ledger : List ℕ

abbrev pub posting : Account → ℕ → ℕ → List ℕ → Posting
posting a n amount ls = record { account = a; lines = n; amount = amount; ledger = ls }

-- "its charge joins the commitment, one line is written"; where there is no room, everything is left
unfoldable pub post_after : ℕ → Account → Point → Grant → List ℕ → Posting
post_after n a p g ls =
    cond (room_for n a p g) (posting (committed a (charge_at p g)) (n + 1) g.amount (with_line ls n (line_of g))) (posting a n 0 ls)
