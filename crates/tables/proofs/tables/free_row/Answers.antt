use mathlib.Core.Path.{◌≡◌}
use Prim.Native.Nat.{◌*◌}
use native.Mathlib.Omega.{arith}
use Rattle.parts.specs.Limits.{row_length}
use Rattle.amounts.proofs.AmountLaws.{row_of_runs}
use Rattle.tables.proofs.tables.free_row.Goals as goal

pub returns : goal.returns
returns c =
    let e : c.row_of-at.result ≡ row_length * c.args.i = omega (arith, c.row_of-at.ensures) in
    row_of_runs _ _ _ _ _ _ _ c.min-n.ensures (rw e at c.fill.ensures) (rw e at c.fill-2.ensures)
