-- What is decided of a cession.
-- Assumes nothing.
use Rattle.std.specs.Prelude.{◌≡◌, List, Result, Ok, Err}
use Rattle.parts.specs.declared.answers.Refusal.{Refusal}
use Rattle.parts.specs.declared.registers.Register.{Register}
use Rattle.parts.specs.Answers.{number_of_refusal, Question, number_of}
use Rattle.cession_decision.specs.declared.deciding.Cession.{Cession}
use Rattle.cession_decision.specs.declared.deciding.Handover.{Handover}
use Rattle.cession_decision.specs.CessionQuestions.{span_first, charge_of}

-- what an accepted cession needs: the first day of its lines and the charge that moves
abbrev pub handover_of : Register → Cession → Handover
handover_of r c = record { first = span_first c; charge = charge_of r c }

-- what a decision says where these questions are left to ask: the number of the first "no", or what is handed over.
-- A request is decided alike (`request_decision`). One definition of any answer would not replace the two: each would still have to say
-- what is granted or handed over
abbrev pub Decides : List Question → Register → Cession → Result Handover Refusal → Type 0
Decides qs r c (Ok h) = (number_of qs ≡ 0) × (h ≡ handover_of r c)
Decides qs r c (Err why) = number_of_refusal why ≡ number_of qs
