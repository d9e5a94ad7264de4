-- `book_shares` meets its contract. The loop's invariant: with the sum taken from the days of the year, the first shares are booked.
-- Assumes nothing.
use mathlib.Core.Path.{◌≡◌}
use Prim.Native.Nat.{◌*◌, ◌≤◌}
use lib.ListN.{length}
use Rattle.parts.specs.Limits.{most_amount}
use Rattle.parts.specs.Registers.{state}
use Rattle.amounts.specs.Amounts.{year_days, entry_at, taken}
use Rattle.batches.specs.Steps.{book_some}
use Rattle.batches.proofs.conferring.book_shares.Given as goal

abbrev pub invariant-loop-user : goal.invariant-loop-user
invariant-loop-user l = (l.sum ≤ length l.yielded * most_amount)
    × (state l.r (taken l.free (entry_at l.b.point 0) (year_days l.initial.r.year) l.sum) l.ledger ≡ book_some (state l.initial.r l.free l.initial.ledger) l.initial.r.year l.b.point l.b.users.now l.shares (length l.yielded))
