-- What a refusal tells of a line: the question with its number was answered no, and each one before it yes. For 11, 12
-- and 14 also in plain words: nobody is told that nothing is free while it is not so.
-- Assumes nothing.
use mathlib.Core.Path.{◌≡◌, refl}
use mathlib.Core.Bool.{Bool, true, false, cond, true≢false}
use mathlib.Core.List.{◌∷◌}
use Prim.Native.Nat.{ℕ, ◌+◌, ◌<◌}
use native.Mathlib.Omega.{arith}
use lib.Dec.{eqb}
use borrow.Author.Tests.{leb-false, eqb-true, eqb-false, not-false}
use Rattle.parts.specs.declared.registers.Register.{Register}
use Rattle.parts.specs.Registers.{State}
use Rattle.parts.specs.Answers.{◌asks◌}
use Rattle.parts.proofs.TestLaws.{some_at}
use Rattle.parts.proofs.QuestionLaws.{number_at, lone, RefusedAt, refused_at}
use Rattle.shares.specs.Batches.{Batch, user_of, names_same, named_before, account_of, charge_asked, line_questions, line_number}
use Rattle.shares.specs.Shares.{number_if, share_of, number_of_line}

-- ---- the questions put to a line
module _ (r : Register) (b : Batch) (i : ℕ) where
  -- the k-th of its four questions, from 0 on
  pub line_refused_by : (k : ℕ) → lone (line_questions r b i) k ≡ true → 0 < number_at (line_questions r b i) k → line_number r b i ≡ number_at (line_questions r b i) k → RefusedAt (line_questions r b i) k
  unfolding line_number
  line_refused_by k l p h = refused_at (line_questions r b i) k l p h

  -- 14: an earlier line names the user
  pub line_repeated : line_number r b i ≡ 14 → (j : ℕ) × ((j < i) × (user_of b j ≡ user_of b i))
  unfolding named_before
  line_repeated h =
      let t = some_at (names_same b.users i) i (not-false (named_before b.users i) (line_refused_by 1 refl (omega arith) h).1) in
      (t.0, (t.1.0, eqb-true _ _ t.1.1))

  -- 11: the charge of the asked amount would take the commitment past the guarantee
  pub line_not_covered : line_number r b i ≡ 11 → (account_of r b i).guarantee < (account_of r b i).commitment + charge_asked r b i
  line_not_covered h = leb-false _ _ (line_refused_by 3 refl (omega arith) h).1.1.1

-- ---- the number of a line, by its share
-- 0 is given for a share above 0, and 12 for one of 0; the questions give no 12
number_none : (number share : ℕ) → (number ≡ 12 → ⊥) → number_if number share ≡ 12 → (number ≡ 0) × (share ≡ 0)
number_none number share never h = go (eqb number 0) refl (eqb share 0) refl h
  where
    go : (x : Bool) → eqb number 0 ≡ x → (y : Bool) → eqb share 0 ≡ y → cond x (cond y 12 0) number ≡ 12 → (number ≡ 0) × (share ≡ 0)
    go true e true f h = (eqb-true number 0 e, eqb-true share 0 f)
    go true e false f h = absurd (omega (arith, h))
    go false e y f h = absurd (never h)

number_some : (number share : ℕ) → number_if number share ≡ 0 → (number ≡ 0) × (0 < share)
number_some number share h = go (eqb number 0) refl (eqb share 0) refl h
  where
    go : (x : Bool) → eqb number 0 ≡ x → (y : Bool) → eqb share 0 ≡ y → cond x (cond y 12 0) number ≡ 0 → (number ≡ 0) × (0 < share)
    go true e true f h = absurd (omega (arith, h))
    go true e false f h = (eqb-true number 0 e, omega (arith, eqb-false share 0 f))
    go false e y f h = absurd (eqb-false number 0 e h)

module _ (s : State) (b : Batch) (i : ℕ) where
  -- none of its four questions has the number 12: put before them and answered yes, 12 would be refused alone
  not_twelve : line_number s.register b i ≡ 12 → ⊥
  unfolding line_number
  not_twelve h = true≢false (refused_at (12 asks true ∷ line_questions s.register b i) 0 refl (omega arith) h)

  pub line_nothing_free : number_of_line s b i ≡ 12 → (line_number s.register b i ≡ 0) × (share_of s b i ≡ 0)
  unfolding number_of_line
  line_nothing_free h = number_none (line_number s.register b i) (share_of s b i) not_twelve h

  pub line_answered : number_of_line s b i ≡ 0 → (line_number s.register b i ≡ 0) × (0 < share_of s b i)
  unfolding number_of_line
  line_answered h = number_some (line_number s.register b i) (share_of s b i) h
