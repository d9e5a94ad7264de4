-- Document 01, "The changing calls": one call, its answer and what it leaves, and lists of calls from a fresh register.
-- Assumes nothing.
use Prim.Native.Nat.{ℕ}
use mathlib.Core.List.{List, [], ◌∷◌}
use Rattle.parts.specs.Registers.{State}
use Rattle.parts.specs.Answers.{Question, leaves}
use Rattle.register.specs.Fresh.{fresh_state}
use Rattle.opening.specs.OpenPoint.{open_questions, open_number, opened, open_after}
use Rattle.placing.specs.PlaceGuarantee.{place_questions, place_number, placed, place_after}
use Rattle.turning.specs.TurnYear.{turn_questions, turn_number, turned, turn_after}
use Rattle.conferral.specs.Bookings.{booked}
use Rattle.products.specs.declared.products.Request.{Request}
use Rattle.request_decision.specs.RequestQuestions.{grant_of, amount_granted, request_questions}
use Rattle.requests.specs.RequestCapacity.{request_number, request_amount, request_after}
use Rattle.shares.specs.Batches.{Batch, lines_of}
use Rattle.shares.specs.ShareLines.{shares_of, numbers_of}
use Rattle.batches.specs.ConferBatch.{batch_questions, batch_number, booked_lines, batch_after}
use Rattle.cession_decision.specs.declared.deciding.Cession.{Cession}
use Rattle.cession_decision.specs.CessionQuestions.{cession_questions}
use Rattle.cessions.specs.CedeCapacity.{cession_number, cession_amount, ceded, cession_after}

-- "open point, place guarantee, request, batch, cession, turn the year". A batch has its four lists beside it: of the two that are
-- written only how many places they have. "What a batch's two lent lists hold beforehand doesn't matter."
pub data Call : Type 0 where
  open_point : (point kind total rate : ℕ) → Call
  place_guarantee : (user guarantee : ℕ) → Call
  request_capacity : Request → Call
  confer_batch : Batch → (shares numbers : ℕ) → Call
  cede_capacity : Cession → Call
  turn_year : (year : ℕ) → Call

-- a call's number, the amount granted or ceded, and the shares and numbers that a batch gives its lines
pub record Answer : Type 0 where
  pub number : ℕ
  pub amount : ℕ
  pub shares : List ℕ
  pub numbers : List ℕ

-- of a call other than a batch; and of a batch, whose shares and numbers are told where it is accepted
abbrev pub told : ℕ → ℕ → Answer
told number amount = record { number = number; amount = amount; shares = []; numbers = [] }

abbrev pub told_batch : ℕ → List ℕ → List ℕ → Answer
told_batch number shares numbers =
    record { number = number; amount = 0; shares = leaves number shares []; numbers = leaves number numbers [] }

-- "Questions put to a call"
abbrev pub questions : State → Call → List Question
questions s (open_point p kind total rate) = open_questions s p kind total rate
questions s (place_guarantee u g) = place_questions s u g
questions s (request_capacity q) = request_questions s q
questions s (confer_batch b m n) = batch_questions s b m n
questions s (cede_capacity c) = cession_questions s c
questions s (turn_year y) = turn_questions s y

-- what the call is answered
abbrev pub answer : State → Call → Answer
answer s (open_point p kind total rate) = told (open_number s p kind total rate) 0
answer s (place_guarantee u g) = told (place_number s u g) 0
answer s (request_capacity q) = told (request_number s q) (request_amount s q)
answer s (confer_batch b m n) = told_batch (batch_number s b m n) (shares_of s b) (numbers_of s b)
answer s (cede_capacity c) = told (cession_number s c) (cession_amount s c)
answer s (turn_year y) = told (turn_number s y) 0

-- what "The changing calls" says that a call does where it is accepted
abbrev pub done : State → Call → State
done s (open_point p kind total rate) = opened s p kind total rate
done s (place_guarantee u g) = placed s u g
done s (request_capacity q) = booked s (grant_of s.register q (amount_granted s.register s.free q))
done s (confer_batch b m n) = booked_lines s b (lines_of b)
done s (cede_capacity c) = ceded s c
done s (turn_year y) = turned s y

-- what the call leaves, accepted or refused
abbrev pub after : State → Call → State
after s (open_point p kind total rate) = open_after s p kind total rate
after s (place_guarantee u g) = place_after s u g
after s (request_capacity q) = request_after s q
after s (confer_batch b m n) = batch_after s b m n
after s (cede_capacity c) = cession_after s c
after s (turn_year y) = turn_after s y

-- "Each call gets the register and table that the last one returned or left, and nothing else writes them meanwhile."
abbrev pub after_all : State → List Call → State
after_all s [] = s
after_all s (c ∷ cs) = after_all (after s c) cs

abbrev pub answers : State → List Call → List Answer
answers s [] = []
answers s (c ∷ cs) = answer s c ∷ answers (after s c) cs

-- "A list of calls may be empty or of any length and starts from a fresh register of any year within limits."
abbrev pub register_after : ℕ → List Call → State
register_after y cs = after_all (fresh_state y) cs
