-- What a refusal tells: the question with its number was answered no, and each one before it yes. For 1, 10, 11 and 13 also in plain
-- words: nobody is told that he holds too little, or that no lines are left, while it is not so.
-- Assumes nothing.
use mathlib.Core.Path.{◌≡◌, refl}
use mathlib.Core.Bool.{true, false}
use mathlib.Core.Logic.{⊎_elim, ◌⊎◌, inl, inr}
use mathlib.Core.List.{List, [], ◌∷◌}
use Prim.Native.Nat.{ℕ, suc, ◌+◌, ◌≤◌, ◌<◌}
use native.Mathlib.Omega.{arith}
use borrow.Author.Tests.{leb-false, not-false}
use Rattle.parts.specs.Limits.{line_count}
use Rattle.parts.specs.Registers.{State}
use Rattle.amounts.specs.Amounts.{span_days}
use Rattle.order.specs.Order.{in_order}
use Rattle.parts.specs.Answers.{Question, ◌asks◌, number_of}
use Rattle.parts.proofs.TestLaws.{fails_at}
use Rattle.parts.proofs.QuestionLaws.{number_at, lone, RefusedAt, refused_at}
use Rattle.holdings.specs.Holdings.{too_little, holds_on, holds_throughout}
use Rattle.cession_decision.specs.declared.deciding.Cession.{Cession}
use Rattle.cession_decision.specs.CessionQuestions.{giver_of, receiver_of, span_first, span_last, given_of, charge_of, cession_questions}
use Rattle.cessions.specs.CedeCapacity.{cession_number}

-- the questions after the first
abbrev after_first : List Question → List Question
after_first [] = []
after_first (q ∷ qs) = qs

-- where only the first and one of these have a number: the first was answered no, or that one was
first_or : (qs : List Question) (k : ℕ) → lone (after_first qs) k ≡ true → 0 < number_at qs (suc k) → number_of qs ≡ number_at qs (suc k)
    → RefusedAt qs 0 ⊎ RefusedAt qs (suc k)
first_or [] k l p h = absurd (omega (arith, p))
first_or (n asks true ∷ qs) k l p h = inr (refl, refused_at qs k l p h)
first_or (n asks false ∷ qs) k l p h = inl refl

module _ (s : State) (c : Cession) where
  -- the k-th of the ten questions, from 0 on; 1 is the number of two of them (`not_in_order`)
  pub refused_by : (k : ℕ) → lone (cession_questions s c) k ≡ true → 0 < number_at (cession_questions s c) k → cession_number s c ≡ number_at (cession_questions s c) k → RefusedAt (cession_questions s c) k
  unfolding cession_number
  refused_by k l p h = refused_at (cession_questions s c) k l p h

  -- 1: the register is not in order; or it is, 2, 3, 5, 8, 9 and 10 are answered yes too, and "the giver's commitment is below the charge"
  pub not_in_order : cession_number s c ≡ 1
      → (in_order s ≡ false) ⊎ (RefusedAt (cession_questions s c) 7 × ((giver_of s.register c).commitment < charge_of s.register c))
  unfolding cession_number
  not_in_order h =
      ⊎_elim inl (λ (r : RefusedAt (cession_questions s c) 7). inr (r, leb-false _ _ r.1.1.1.1.1.1.1))
      (first_or (cession_questions s c) 6 refl (omega arith) h)

  -- 10: on some gas-day of the span the giver holds too little
  pub not_held : cession_number s c ≡ 10
      → (d : ℕ) × ((span_first c ≤ d) × ((d ≤ span_last s.register) × (too_little s.register.year s.register.lines s.ledger (given_of s.register c) d ≡ true)))
  unfolding holds_throughout
  not_held h =
      let t = (refused_by 6 refl (omega arith) h).1.1.1.1.1.1 in
      let r = fails_at (holds_on s.register.year s.register.lines s.ledger (given_of s.register c)) (span_days (span_first c) (span_last s.register)) t in
      (span_first c + r.0, (omega arith, (omega (arith, r.1.0), not-false _ r.1.1)))

  -- 11: the charge would take the receiver's commitment past his guarantee
  pub not_covered : cession_number s c ≡ 11
      → (receiver_of s.register c).guarantee < (receiver_of s.register c).commitment + charge_of s.register c
  not_covered h = leb-false _ _ (refused_by 8 refl (omega arith) h).1.1.1.1.1.1.1.1

  -- 13: of the 2,048 lines not two are left
  pub ledger_full : cession_number s c ≡ 13 → line_count < s.register.lines + 2
  ledger_full h = leb-false _ _ (refused_by 9 refl (omega arith) h).1.1.1.1.1.1.1.1.1
