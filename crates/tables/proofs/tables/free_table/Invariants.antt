use mathlib.Core.Path.{◌≡◌}
use Prim.Native.Nat.{◌*◌}
use Rattle.parts.specs.Limits.{row_length}
use Rattle.amounts.specs.Ranges.{replaced}
use Rattle.amounts.specs.Amounts.{capacity_at}
use Rattle.tables.proofs.tables.free_table.Given as goal

abbrev pub invariant-loop-i : goal.invariant-loop-i
invariant-loop-i l = l.free ≡ replaced l.initial.free 0 (row_length * l.i) (capacity_at l.days l.points)
