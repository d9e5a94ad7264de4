-- Laws of answers: a call answered 0 passed every question, and a refused one leaves what there was.
-- Assumes nothing.
use mathlib.Core.Path.{◌≡◌, refl, sym, ap, ◌∙◌}
use mathlib.Core.Bool.{Bool, true, false, ◌&&◌, false≢true}
use mathlib.Core.List.{List, [], ◌∷◌}
use Rattle.std.specs.Prelude.{Result, Ok, Err}
use Prim.Native.Nat.{ℕ, zero, suc, ◌<◌}
use native.Mathlib.Omega.{arith}
use lib.Dec.{ltb}
use borrow.Author.Tests.{ltb-true}
use Rattle.days.proofs.Ranges.{and_left, and_right}
use Rattle.parts.specs.declared.answers.Refusal.{Refusal}
use Rattle.parts.specs.declared.answers.Refusal.TheVariants.{NotInOrder, OutOfLimits, PointClosed, PointOpen, NotOnFile, BelowCommitment, NotOffered, OutsideYear, Late, NotHeld, NotCovered, NothingFree, LedgerFull, UserRepeated, YearNotLater}
use Rattle.parts.specs.Answers.{number_of_refusal, number_of_answer, Question, ◌asks◌, number_of, Passes, leaves}

-- no question has the number 0
abbrev pub numbered : List Question → Bool
numbered [] = true
numbered (n asks b ∷ qs) = ltb 0 n && numbered qs

-- answered 0 is what passes every question
pub passes : (qs : List Question) → numbered qs ≡ true → number_of qs ≡ 0 → Passes qs
passes [] m h = tt
passes (n asks true ∷ qs) m h = (refl, passes qs (and_right (ltb 0 n) (numbered qs) m) h)
passes (n asks false ∷ qs) m h = absurd (let p = ltb-true 0 n (and_left (ltb 0 n) (numbered qs) m) in omega (arith, p, h))

pub passed : (qs : List Question) → Passes qs → number_of qs ≡ 0
passed [] h = refl
passed (n asks true ∷ qs) h = passed qs h.1
passed (n asks false ∷ qs) h = absurd (false≢true h.0)

-- the number of a refusal is not 0
pub refusal_number : (why : Refusal) → 0 < number_of_refusal why
refusal_number NotInOrder = omega arith
refusal_number OutOfLimits = omega arith
refusal_number PointClosed = omega arith
refusal_number PointOpen = omega arith
refusal_number NotOnFile = omega arith
refusal_number BelowCommitment = omega arith
refusal_number NotOffered = omega arith
refusal_number OutsideYear = omega arith
refusal_number Late = omega arith
refusal_number NotHeld = omega arith
refusal_number NotCovered = omega arith
refusal_number NothingFree = omega arith
refusal_number LedgerFull = omega arith
refusal_number UserRepeated = omega arith
refusal_number YearNotLater = omega arith

-- n is the number of the answer v: 0 where v is accepted, and not 0 where it is refused
module _ {A : Type 0} (v : Result A Refusal) (n : ℕ) where
  pub zero_number : (a : A) → number_of_answer v ≡ n → v ≡ Ok a → n ≡ 0
  zero_number a e h = sym e ∙ ap number_of_answer h

  pub refused_number : (why : Refusal) → number_of_answer v ≡ n → v ≡ Err why → number_of_refusal why ≡ n
  refused_number why e h = sym (ap number_of_answer h) ∙ e

-- what a call leaves
pub leaves_new : {A : Type 0} (n : ℕ) (new old : A) → n ≡ 0 → leaves n new old ≡ new
leaves_new n new old h = ap (λ (m : ℕ). leaves m new old) h

pub leaves_old : {A : Type 0} (n : ℕ) (new old : A) → (n ≡ 0 → ⊥) → leaves n new old ≡ old
leaves_old zero new old h = absurd (h refl)
leaves_old (suc n) new old h = refl

-- what holds of both holds of what a call leaves
pub leaves_either : {A : Type 0} (P : A → Type 0) (n : ℕ) (new old : A) → (n ≡ 0 → P new) → P old → P (leaves n new old)
leaves_either P zero new old f p = f refl
leaves_either P (suc n) new old f p = p
