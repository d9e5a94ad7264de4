-- Document 01, "Questions put to a call": the numbers, and how questions settle a call.
-- Assumes nothing.
use Rattle.std.specs.Prelude.{ℕ, zero, suc, Bool, true, cond, ◌≡◌, List, [], ◌∷◌, Result, Ok, Err}
use Rattle.parts.specs.declared.answers.Refusal.{Refusal}
use Rattle.parts.specs.declared.answers.Refusal.TheVariants.{NotInOrder, OutOfLimits, PointClosed, PointOpen, NotOnFile, BelowCommitment, NotOffered, OutsideYear, Late, NotHeld, NotCovered, NothingFree, LedgerFull, UserRepeated, YearNotLater}

-- the number of each refusal, by the list of questions
abbrev pub number_of_refusal : Refusal → ℕ
number_of_refusal NotInOrder = 1
number_of_refusal OutOfLimits = 2
number_of_refusal PointClosed = 3
number_of_refusal PointOpen = 4
number_of_refusal NotOnFile = 5
number_of_refusal BelowCommitment = 6
number_of_refusal NotOffered = 7
number_of_refusal OutsideYear = 8
number_of_refusal Late = 9
number_of_refusal NotHeld = 10
number_of_refusal NotCovered = 11
number_of_refusal NothingFree = 12
number_of_refusal LedgerFull = 13
number_of_refusal UserRepeated = 14
number_of_refusal YearNotLater = 15

-- "0 accepted": the number of an answer, be it with an amount or without
abbrev pub number_of_answer : {A : Type 0} → Result A Refusal → ℕ
number_of_answer (Ok a) = 0
number_of_answer (Err why) = number_of_refusal why

-- the amount granted, ceded or reported, and of a run how many bytes were written: where the answer is no, "grant or reported figure 0"
abbrev pub amount_of_answer : Result ℕ Refusal → ℕ
amount_of_answer (Ok a) = a
amount_of_answer (Err why) = 0

-- a question put to a call: its number, and whether the answer is yes
pub data Question : Type 0 where
  ◌asks◌ : ℕ → Bool → Question

infix 90 ◌asks◌
-- "Put in this order; a "no" ends the call with its number"; a call that every question lets pass is answered 0
abbrev pub number_of : List Question → ℕ
number_of [] = 0
number_of (n asks b ∷ qs) = cond b (number_of qs) n

-- each question is answered yes
abbrev pub Passes : List Question → Type 0
Passes [] = Unit {0}
Passes (n asks b ∷ qs) = (b ≡ true) × Passes qs

-- by its number, a call leaves or gives what it says, or what there was: "A refused call alters nothing."
abbrev pub leaves : {A : Type 0} → ℕ → A → A → A
leaves zero new old = new
leaves (suc n) new old = old
