-- Terms of the contracts of private functions: how the code goes about it. No contract that a caller reads rests on them.
-- Assumes nothing.
use Rattle.std.specs.Prelude.{ℕ, ◌≡◌, true, Option}
use Rattle.calendar.specs.declared.thermal_years.Span.{Span}
use Rattle.parts.specs.declared.registers.Register.{Register}
use Rattle.parts.specs.Registers.{State}
use Rattle.spans.specs.Spans.{annual_first, annual_last, span_ok, span_where}
use Rattle.holdings.specs.Holdings.{LinesIn}
use Rattle.cession_decision.specs.declared.deciding.Cession.{Cession}
use Rattle.cession_decision.specs.CessionQuestions.{span_of, is_in_year}

-- the span to the year's end where question 8 is answered yes
unfoldable pub span_answer : ℕ → ℕ → Option Span
span_answer y a = span_where (span_ok y a (annual_first a) (annual_last y)) (annual_first a) (annual_last y)

-- these are the days of the span, and question 8 is answered yes
pub record Spanned (r : Register) (c : Cession) (days : Span) : Type 0 where
  pub is : days ≡ span_of r c
  pub fits : is_in_year r c ≡ true

-- the used lines are those of a register in order, so far as what is held depends on it
abbrev pub Lined : State → Type 0
Lined s = LinesIn s.register.year s.register.lines s.ledger
