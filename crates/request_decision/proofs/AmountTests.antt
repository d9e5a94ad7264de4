-- What the steps of `decide_span` and `decide_amount` come to, in the words of questions 8, 9, 11, 12 and 13: a law for each exit.
-- Assumes nothing.
use mathlib.Core.Path.{◌≡◌, refl, sym, ◌∙◌}
use mathlib.Core.Bool.{true, false}
use mathlib.Core.List.{List}
use Prim.Native.Nat.{ℕ, ◌+◌, ◌-◌, ◌<◌, ◌≤◌}
use native.Mathlib.Omega.{arith}
use Rattle.std.specs.Prelude.{Some, None, Result}
use borrow.Author.Tests.{lt-ltb, le-ltb, lt-leb, le-leb}
use Rattle.days.proofs.Ranges.{and_left}
use Rattle.calendar.specs.declared.thermal_years.Span.{Span}
use Rattle.parts.specs.declared.answers.Refusal.{Refusal}
use Rattle.parts.specs.declared.registers.Register.{Register}
use Rattle.parts.specs.Limits.{line_count, most_amount}
use Rattle.parts.specs.Registers.{State}
use Rattle.amounts.specs.Ranges.{least_of}
use Rattle.amounts.specs.Amounts.{entry_in}
use Rattle.spans.specs.Spans.{arrives, span_fits}
use Rattle.conferral.specs.declared.bookings.Grant.{Grant}
use Rattle.conferral.specs.Bookings.{covers, is_covered, lines_left}
use Rattle.products.specs.declared.products.Request.{Request}
use Rattle.products.specs.Products.{is_in_year, is_in_time, span_answer, time_answer}
use Rattle.products.proofs.ProductLaws.{time_asked}
use Rattle.request_decision.specs.Steps.{Spanned}
use Rattle.request_decision.specs.Decisions.{Decides}
use Rattle.request_decision.specs.RequestQuestions.{request_fields, span_first, span_last, account_of, grant_from, grant_of, charge_asked, free_throughout, amount_granted, amount_questions, span_questions}
use Rattle.request_decision.proofs.RequestLaws.{fields, spanned, no_span, span_in, asks_cover, granted_is, granted_free, decides_too}

-- ---- questions 8 and 9
module _ (r : Register) (q : Request) where
  -- where the calendar has a span, question 8 is answered yes, and else no
  pub year_is : (days : Span) → span_answer r.year q.arrival q.product ≡ Some days → is_in_year r.year q.arrival q.product ≡ true
  year_is days e = (spanned r q days e).fits

  pub year_is_not : request_fields q ≡ true → span_answer r.year q.arrival q.product ≡ None → is_in_year r.year q.arrival q.product ≡ false
  year_is_not h e = no_span r q (fields q h).month e

  -- and the code's test of the deadline is question 9
  pub time_is : (days : Span) → request_fields q ≡ true → span_answer r.year q.arrival q.product ≡ Some days
      → time_answer r.year q.arrival q.product ≡ is_in_time r.year q.arrival q.product
  time_is days h e =
      time_asked r.year q.arrival q.product
      (and_left (arrives r.year q.arrival) (span_fits r.year (span_first r q) (span_last r q)) (year_is days e))
      (fields q h).month

-- then the questions that follow settle it
pub settled_after : (s : State) (q : Request) (days : Span) (d : Result Grant Refusal) → request_fields q ≡ true
    → span_answer s.register.year q.arrival q.product ≡ Some days → time_answer s.register.year q.arrival q.product ≡ true
    → Decides (amount_questions s q) s q d → Decides (span_questions s q) s q d
settled_after s q days d h e t w =
    decides_too (amount_questions s q) (span_questions s q) s q d
    (rw (year_is s.register q days e, sym (time_is s.register q days h e) ∙ t))
    w

-- ---- questions 11, 12 and 13
pub amount_in : (q : Request) → request_fields q ≡ true → q.amount ≤ most_amount
amount_in q h = (fields q h).amount.to

pub in_turn : (r : Register) (q : Request) (days : Span) → Spanned r q days → days.first ≤ days.last
in_turn r q days w = (span_in r q days w).fit.ordered

-- the grant of an amount on the days of the span
pub grant_at : (r : Register) (q : Request) (days : Span) (amount : ℕ) → Spanned r q days → grant_from q days amount ≡ grant_of r q amount
grant_at r q days amount w = rw w.is

-- the code's test of the guarantee is question 11
pub asked_is : (r : Register) (q : Request) (days : Span) → request_fields q ≡ true → Spanned r q days
    → is_covered r (grant_from q days q.amount) ≡ covers (account_of r q) (charge_asked r q)
asked_is r q days h w = asks_cover r q (grant_from q days q.amount) (fields q h) w.fits (grant_at r q days q.amount w)

-- what the code finds is what is granted
pub amount_is : (r : Register) (f : List ℕ) (q : Request) (days : Span) → Spanned r q days
    → least_of f (entry_in r.year q.point days.first) (days.last + 1 - days.first) q.amount ≡ amount_granted r f q
amount_is r f q days w = granted_is r f q days (entry_in r.year q.point days.first) w refl

-- whether there is some is question 12
pub free_some : (r : Register) (f : List ℕ) (q : Request) → request_fields q ≡ true → 0 < amount_granted r f q → free_throughout r f q ≡ true
free_some r f q h a = sym (granted_free r f q (fields q h).amount.from) ∙ lt-ltb 0 (amount_granted r f q) a

pub free_none : (r : Register) (f : List ℕ) (q : Request) → request_fields q ≡ true → amount_granted r f q ≡ 0 → free_throughout r f q ≡ false
free_none r f q h a = sym (granted_free r f q (fields q h).amount.from) ∙ le-ltb 0 (amount_granted r f q) (omega (arith, a))

-- with no line left question 13 is answered no, and else yes
pub full_is : (r : Register) → line_count ≤ r.lines → lines_left r 1 ≡ false
full_is r l = lt-leb (r.lines + 1) line_count (omega arith)

pub line_is : (r : Register) → r.lines < line_count → lines_left r 1 ≡ true
line_is r l = le-leb (r.lines + 1) line_count (omega arith)

-- what its exits need, whatever the code calls them
pub ruleset amount_tests = (amount_in, in_turn, grant_at, asked_is, amount_is, free_some, free_none, full_is, line_is)
