-- What a refusal tells of a batch as a whole: the question with its number was answered no, and each one before it yes.
-- For 13 also in plain words: nobody is told that no lines are left while it is not so.
-- Assumes nothing.
use mathlib.Core.Path.{◌≡◌, refl}
use mathlib.Core.Bool.{true}
use Prim.Native.Nat.{ℕ, ◌+◌, ◌<◌}
use native.Mathlib.Omega.{arith}
use borrow.Author.Tests.{leb-false}
use Rattle.parts.specs.Limits.{line_count}
use Rattle.parts.specs.Registers.{State}
use Rattle.parts.proofs.QuestionLaws.{number_at, lone, RefusedAt, refused_at}
use Rattle.shares.specs.Batches.{Batch, lines_of}
use Rattle.batches.specs.ConferBatch.{batch_questions, batch_number}

module _ (s : State) (b : Batch) (m n : ℕ) where
  -- the k-th of the four questions, from 0 on
  pub refused_by : (k : ℕ) → lone (batch_questions s b m n) k ≡ true → 0 < number_at (batch_questions s b m n) k → batch_number s b m n ≡ number_at (batch_questions s b m n) k → RefusedAt (batch_questions s b m n) k
  unfolding batch_number
  refused_by k l p h = refused_at (batch_questions s b m n) k l p h

  -- 13: of the 2,048 lines not as many are left as the batch has
  pub ledger_full : batch_number s b m n ≡ 13 → line_count < s.register.lines + lines_of b
  ledger_full h = leb-false _ _ (refused_by 3 refl (omega arith) h).1.1.1
