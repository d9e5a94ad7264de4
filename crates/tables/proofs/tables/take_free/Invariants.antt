use Prim.Native.Nat.{ℕ, ◌+◌, ◌≤◌, ◌<◌}
use mathlib.Core.Path.{◌≡◌}
use lib.ListN.{length, get_or}
use Rattle.amounts.specs.Amounts.{less_by}
use Rattle.tables.proofs.tables.take_free.Given as goal

abbrev pub invariant-loop-x : goal.invariant-loop-x
invariant-loop-x l = record {
  taken : (k : ℕ) → k < l.x-index → get_or l.x-items k 0 ≡ less_by l.fn.free l.at l.amount k;
  left : (k : ℕ) → l.x-index ≤ k → k < length l.x-items → get_or l.x-items k 0 ≡ get_or l.fn.free (l.at + k) 0;
}
