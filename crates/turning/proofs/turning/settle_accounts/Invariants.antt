use Prim.Native.Nat.{ℕ, ◌≤◌, ◌<◌}
use mathlib.Core.Path.{◌≡◌}
use lib.ListN.{length}
use Rattle.parts.specs.Limits.{user_count}
use Rattle.parts.specs.Registers.{account_at}
use Rattle.turning.specs.TurnYear.{settled_at}
use Rattle.turning.proofs.turning.settle_accounts.Given as goal

abbrev pub invariant-loop-a : goal.invariant-loop-a
invariant-loop-a l =
    record {
      size : length l.accounts ≡ user_count;
      settled : (k : ℕ) → k < l.a-index → account_at l.accounts k ≡ settled_at l.fn.accounts k;
      left : (k : ℕ) → l.a-index ≤ k → account_at l.accounts k ≡ account_at l.fn.accounts k;
    }
