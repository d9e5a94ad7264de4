-- Document 01: what a call that takes the register gives back, in one form for all of them.
-- Assumes nothing.
use Rattle.std.specs.Prelude.{ℕ, ◌≡◌, Result}
use Rattle.parts.specs.declared.answers.Answered.{Answered}
use Rattle.parts.specs.declared.answers.Refusal.{Refusal}
use Rattle.parts.specs.Answers.{number_of_answer, amount_of_answer}
use Rattle.applied.specs.declared.applied.Applied.{Applied}

-- the number of the answer, the amount that an answer has, and the register that the call left
pub record Tells {A : Type 0} (amount_of : Result A Refusal → ℕ) (a : Answered A) (told : Applied) : Type 0 where
  pub number : told.number ≡ number_of_answer a.answer
  pub amount : told.amount ≡ amount_of a.answer
  pub register : told.register ≡ a.register

-- of a call that grants and cedes nothing the amount is 0
abbrev pub TellsNumber : Answered (Unit {0}) → Applied → Type 0
TellsNumber a told = Tells (λ _. 0) a told

abbrev pub TellsAmount : Answered ℕ → Applied → Type 0
TellsAmount a told = Tells amount_of_answer a told
