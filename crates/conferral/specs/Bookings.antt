-- Document 01, "The changing calls": what a grant does to the register and to the two lists.
-- Assumes nothing.
use Rattle.std.specs.Prelude.{ℕ, ◌+◌, Bool, cond, ◌&&◌, List, [], ◌∷◌, leb, ltb, pos}
use Rattle.days.specs.Days.{between}
use Rattle.calendar.specs.declared.thermal_years.Span.{Span}
use Rattle.parts.specs.declared.points.Point.{Point}
use Rattle.parts.specs.declared.accounts.Account.{Account}
use Rattle.ledger.specs.declared.ledger.Line.{Line}
use Rattle.parts.specs.declared.registers.Register.{Register}
use Rattle.parts.specs.Limits.{point_count, user_count, line_count, most_amount}
use Rattle.parts.specs.Tests.{every}
use Rattle.parts.specs.Registers.{State, state, point_at, account_at, with_commitment, with_lines, with_account}
use Rattle.ledger.specs.Ledger.{with_line}
use Rattle.amounts.specs.Amounts.{span_days, entry_of, taken}
use Rattle.parts.specs.Charges.{charge, most_word}
use Rattle.conferral.specs.declared.bookings.Grant.{Grant}
use Rattle.spans.specs.Spans.{span_in_year}

-- question 11: "Does the guarantee cover commitment plus charge"
abbrev pub covers : Account → ℕ → Bool
covers a c = leb (a.commitment + c) a.guarantee

-- question 13: "Are there ledger lines left": n more
abbrev pub lines_left : Register → ℕ → Bool
lines_left r n = leb (r.lines + n) line_count

-- the days of a grant
abbrev pub days_of : Grant → ℕ
days_of g = span_days g.days.first g.days.last

-- an annual grant of an amount on each day of a span
abbrev pub annual_of : ℕ → ℕ → Span → ℕ → Grant
annual_of u p days amount =
    record { user = u; point = p; kind = 1; days = days; amount = amount }

-- "A charge is amount × days of the span × rate.": at the rate of the point
abbrev pub charge_at : Point → Grant → ℕ
charge_at p g = charge g.amount (days_of g) p.rate

abbrev pub charge_of : Register → Grant → ℕ
charge_of r g = charge_at (point_at r.points g.point) g

-- "its charge joins the commitment"
abbrev pub committed : Account → ℕ → Account
committed a c = with_commitment a (a.commitment + c)

abbrev pub with_charge : Register → ℕ → ℕ → Register
with_charge r u c = with_account r u (committed (account_at r.accounts u) c)

-- "A ledger line has user, point, kind (1 annual, 2 month, 3 day), first day and a signed amount"
abbrev pub line_of : Grant → Line
line_of g =
    record { user = g.user; point = g.point; kind = g.kind; first = g.days.first; amount = pos g.amount }

-- "The grant is taken from each of those days, its charge joins the commitment, one line is written."
unfoldable pub booked : State → Grant → State
booked s g =
    state (with_lines (with_charge s.register g.user (charge_of s.register g)) (s.register.lines + 1))
    (taken s.free (entry_of s.register.year g.point g.days.first) (days_of g) g.amount)
    (with_line s.ledger s.register.lines (line_of g))

-- the user, the point, the kind and the amount of a grant within limits
abbrev pub field_tests : Grant → List Bool
field_tests g =
    ltb g.user user_count
    ∷ ltb g.point point_count
    ∷ between 1 3 g.kind
    ∷ between 1 most_amount g.amount
    ∷ []

-- a grant whose fields are within limits, its span among them
unfoldable pub within_limits : ℕ → Grant → Bool
within_limits y g = span_in_year y g.days.first g.days.last && every (field_tests g)

-- the charge of such a grant; of any other the largest number that 64 bits hold, which no guarantee covers
unfoldable pub charge_within : Register → Grant → ℕ
charge_within r g = cond (within_limits r.year g) (charge_of r g) most_word

-- one whose charge the user's guarantee covers too
unfoldable pub is_covered : Register → Grant → Bool
is_covered r g = within_limits r.year g && covers (account_at r.accounts g.user) (charge_of r g)

-- where a line is left as well it is booked, and else everything is left. That the point is open, the user on file and the amount
-- free on each day is not asked here: the calls ask that, and `Bookable` (proofs) has what keeps a register in order
unfoldable pub has_room : Register → Grant → Bool
has_room r g = is_covered r g && lines_left r 1

unfoldable pub book_after : State → Grant → State
book_after s g = cond (has_room s.register g) (booked s g) s
