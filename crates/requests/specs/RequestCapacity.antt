-- Document 01, "The changing calls": request.
-- Assumes nothing.
use Rattle.std.specs.Prelude.{ℕ}
use Rattle.parts.specs.Registers.{State}
use Rattle.parts.specs.Answers.{number_of, leaves}
use Rattle.conferral.specs.Bookings.{booked}
use Rattle.products.specs.declared.products.Request.{Request}
use Rattle.request_decision.specs.RequestQuestions.{grant_of, request_questions, amount_granted}

-- the number of the first question that is answered no
unfoldable pub request_number : State → Request → ℕ
request_number s q = number_of (request_questions s q)

unfoldable pub request_amount : State → Request → ℕ
request_amount s q = leaves (request_number s q) (amount_granted s.register s.free q) 0

-- "The grant is taken from each of those days, its charge joins the commitment, one line is written."
unfoldable pub request_after : State → Request → State
request_after s q =
    leaves (request_number s q) (booked s (grant_of s.register q (amount_granted s.register s.free q))) s
