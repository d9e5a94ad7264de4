use mathlib.Core.Path.{◌≡◌}
use lib.ListN.{length}
use Rattle.parts.specs.Limits.{row_length}
use Rattle.order.specs.Steps.{Marked}
use Rattle.order.proofs.order.month_marks.Given as goal

abbrev pub invariant-loop-n : goal.invariant-loop-n
invariant-loop-n l = (length l.marks ≡ row_length) × Marked l.year l.n l.marks
