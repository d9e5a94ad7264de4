-- What the steps of the code come to, in the words of questions 8, 9 and 10 and of the charge: a law for each exit.
-- Assumes nothing.
use mathlib.Core.Path.{◌≡◌, refl, sym, ◌∙◌}
use mathlib.Core.Bool.{true, not}
use Prim.Native.Nat.{ℕ}
use Rattle.std.specs.Prelude.{Option, Some, None, is_some, Result}
use Rattle.days.proofs.Ranges.{and_left}
use Rattle.calendar.specs.declared.thermal_years.Span.{Span}
use Rattle.calendar.specs.Answers.{own_answer}
use Rattle.parts.specs.declared.answers.Refusal.{Refusal}
use Rattle.parts.specs.declared.registers.Register.{Register}
use Rattle.parts.specs.Registers.{State}
use Rattle.spans.specs.Spans.{arrives, span_fits, is_timely}
use Rattle.spans.proofs.SpanLaws.{timely_own}
use Rattle.holdings.specs.Holdings.{held_answer, is_throughout}
use Rattle.cession_decision.specs.declared.deciding.Cession.{Cession}
use Rattle.cession_decision.specs.declared.deciding.Handover.{Handover}
use Rattle.cession_decision.specs.CessionQuestions.{span_first, span_last, is_in_year, is_in_time, deadline, is_held, charge_of, charge_questions, held_questions, span_questions}
use Rattle.cession_decision.specs.Decisions.{handover_of, Decides}
use Rattle.cession_decision.specs.Steps.{span_answer, Spanned, Lined}
use Rattle.cession_decision.proofs.CessionLaws.{spanned, held_asks, decides_too}

-- ---- questions 8 and 9
module _ (r : Register) (c : Cession) where
  pub year_is : (days : Span) → span_answer r.year c.arrival ≡ Some days → is_in_year r c ≡ true
  year_is days e = (spanned r c days e).fits

  -- the code's test of the deadline is question 9
  pub time_is : (days : Span) → span_answer r.year c.arrival ≡ Some days → is_timely (own_answer c.arrival deadline) ≡ is_in_time c
  time_is days e =
      timely_own r.year c.arrival deadline (and_left (arrives r.year c.arrival) (span_fits r.year (span_first c) (span_last r)) (year_is days e)) refl

-- then the questions that follow settle it
pub settled_after : (s : State) (c : Cession) (days : Span) (d : Result Handover Refusal) → span_answer s.register.year c.arrival ≡ Some days
    → is_timely (own_answer c.arrival deadline) ≡ true → Decides (held_questions s c) s.register c d → Decides (span_questions s c) s.register c d
settled_after s c days d e t w =
    decides_too (held_questions s c) (span_questions s c) s.register c d
    (rw (year_is s.register c days e, sym (time_is s.register c days e) ∙ t))
    w

-- ---- question 10
short_if : (v : Option ℕ) → not (is_some v) ≡ is_throughout v
short_if None = refl
short_if (Some d) = refl

-- whether the code finds a short day settles question 10
module _ (s : State) (c : Cession) (days : Span) (w : Spanned s.register c days) (l : Lined s) where
  abbrev found : Option ℕ
  found = held_answer s.register.year s.register.lines s.ledger (record { user = c.giver; point = c.point; first = days.first; last = days.last; amount = c.amount })

  pub held_is : not (is_some found) ≡ is_held s.register s.ledger c
  held_is = short_if found ∙ held_asks s.register c days w s.ledger l

pub held_after : (s : State) (c : Cession) (d : Result Handover Refusal) → is_held s.register s.ledger c ≡ true
    → Decides (charge_questions s.register c) s.register c d → Decides (held_questions s c) s.register c d
held_after s c d h w = decides_too (charge_questions s.register c) (held_questions s c) s.register c d (rw h) w

-- what is handed over
pub handed : (r : Register) (c : Cession) (days : Span) → Spanned r c days → record { first = days.first; charge = charge_of r c } ≡ handover_of r c
handed r c days w = rw w.is
