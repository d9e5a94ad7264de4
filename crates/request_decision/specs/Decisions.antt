-- What is decided of a request, by the questions put to it.
-- Assumes nothing.
use Rattle.std.specs.Prelude.{◌≡◌, List, Result, Ok, Err}
use Rattle.parts.specs.declared.answers.Refusal.{Refusal}
use Rattle.parts.specs.Registers.{State}
use Rattle.parts.specs.Answers.{number_of_refusal, Question, number_of}
use Rattle.conferral.specs.declared.bookings.Grant.{Grant}
use Rattle.products.specs.declared.products.Request.{Request}
use Rattle.request_decision.specs.RequestQuestions.{grant_of, amount_granted}

-- what a decision says where these questions are left to ask: the number of the first "no", or what is granted.
-- A cession is decided alike (`cession_decision`). One definition of any answer would not replace the two: each would still have to say
-- what is granted or handed over
abbrev pub Decides : List Question → State → Request → Result Grant Refusal → Type 0
Decides qs s q (Ok g) = (number_of qs ≡ 0) × (g ≡ grant_of s.register q (amount_granted s.register s.free q))
Decides qs s q (Err why) = number_of_refusal why ≡ number_of qs
