-- Document 01, "The changing calls": cession. The questions put to it are in `cession_decision`.
-- Assumes nothing.
use Rattle.std.specs.Prelude.{ℕ, ◌+◌, List, ℤ, pos, neg_ℤ}
use Rattle.ledger.specs.declared.ledger.Line.{Line}
use Rattle.parts.specs.declared.registers.Register.{Register}
use Rattle.parts.specs.Registers.{State, state, account_at, with_lines, with_account}
use Rattle.ledger.specs.Ledger.{with_line}
use Rattle.parts.specs.Charges.{discharged}
use Rattle.parts.specs.Answers.{number_of, leaves}
use Rattle.conferral.specs.Bookings.{with_charge}
use Rattle.cession_decision.specs.declared.deciding.Cession.{Cession}
use Rattle.cession_decision.specs.CessionQuestions.{span_first, charge_of, cession_questions}

unfoldable pub cession_number : State → Cession → ℕ
cession_number s c = number_of (cession_questions s c)

-- what is ceded is the amount named
unfoldable pub cession_amount : State → Cession → ℕ
cession_amount s c = leaves (cession_number s c) c.amount 0

-- "The charge moves between the commitments": out of the giver's, into the receiver's
abbrev pub with_discharge : Register → ℕ → ℕ → Register
with_discharge r u c = with_account r u (discharged (account_at r.accounts u) c)

abbrev pub charge_moved : Register → Cession → ℕ → Register
charge_moved r c n = with_charge (with_discharge r c.giver n) c.receiver n

-- "two annual lines, minus then plus"
abbrev pub annual_line : ℕ → ℕ → ℕ → ℤ → Line
annual_line user point first amount =
    record { user = user; point = point; kind = 1; first = first; amount = amount }

abbrev pub minus_line : Cession → Line
minus_line c = annual_line c.giver c.point (span_first c) (neg_ℤ (pos c.amount))

abbrev pub plus_line : Cession → Line
plus_line c = annual_line c.receiver c.point (span_first c) (pos c.amount)

abbrev pub with_two_lines : List ℕ → ℕ → Line → Line → List ℕ
with_two_lines ls n before after = with_line (with_line ls n before) (n + 1) after

-- "giver to receiver [..] The charge moves between the commitments; two annual lines, minus then plus. Free amounts don't move."
unfoldable pub ceded : State → Cession → State
ceded s c =
    state (with_lines (charge_moved s.register c (charge_of s.register c)) (s.register.lines + 2))
    s.free
    (with_two_lines s.ledger s.register.lines (minus_line c) (plus_line c))

unfoldable pub cession_after : State → Cession → State
cession_after s c = leaves (cession_number s c) (ceded s c) s
