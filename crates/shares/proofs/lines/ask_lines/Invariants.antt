-- `ask_lines` meets its contract. The loop's invariant: the first i numbers are those of the questions, and the users of the first i
-- lines are marked.
-- Assumes nothing.
use mathlib.Core.Path.{◌≡◌}
use lib.ListN.{length}
use Rattle.amounts.specs.Ranges.{replaced}
use Rattle.shares.specs.Batches.{batch_in, line_number}
use Rattle.shares.specs.Steps.{Marked}
use Rattle.shares.proofs.lines.ask_lines.Given as goal

abbrev pub invariant-loop-i : goal.invariant-loop-i
invariant-loop-i l = (length l.named ≡ 256) × Marked l.b.users.now l.i l.named × (l.numbers ≡ replaced l.initial.numbers 0 l.i (line_number l.r (batch_in l.b)))
