use Prim.Native.Nat.{◌*◌}
use mathlib.Core.Path.{◌≡◌, ap, ap₂, ◌∙◌}
use mathlib.Core.Bool.{◌&&◌}
use lib.Dec.{leb}
use Rattle.parts.specs.Limits.{row_length}
use Rattle.parts.specs.Registers.{point_at}
use Rattle.parts.proofs.TestLaws.{all_step}
use Rattle.order.proofs.OrderLaws.{row_is}
use native.Mathlib.Omega.{arith}
use Rattle.order.proofs.order.table_in_order.Goals as goal

pub loop-i-preserved : goal.loop-i-preserved
loop-i-preserved c =
    let e : c.row_of-at.result ≡ row_length * c.loop-i.i = omega (arith, c.row_of-at.ensures) in
    rw e
    (all_step _ _ _ _ c.loop-i.invariant
    (ap₂ ◌&&◌ (rw e at c.all_within-row.ensures) (ap (leb _) c.capacity_on.ensures)
    ∙ row_is c.args.days c.args.free.now c.loop-i.i (point_at c.args.points.now c.loop-i.i) c.requires.1 (omega (arith, c.requires.0))))
