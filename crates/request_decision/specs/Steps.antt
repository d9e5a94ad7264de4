-- Terms of the contracts of private functions: how the code goes about it. No contract that a caller reads rests on them.
-- Assumes nothing.
use Rattle.std.specs.Prelude.{◌≡◌, true}
use Rattle.calendar.specs.declared.thermal_years.Span.{Span}
use Rattle.parts.specs.declared.registers.Register.{Register}
use Rattle.products.specs.declared.products.Request.{Request}
use Rattle.products.specs.Products.{is_in_year}
use Rattle.request_decision.specs.RequestQuestions.{span_of}

-- these are the days of the span, and question 8 is answered yes
pub record Spanned (r : Register) (q : Request) (days : Span) : Type 0 where
  pub is : days ≡ span_of r q
  pub fits : is_in_year r.year q.arrival q.product ≡ true
