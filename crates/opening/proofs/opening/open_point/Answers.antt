use native.Mathlib.Omega.{arith}
use Rattle.parts.specs.Registers.{state}
use Rattle.opening.proofs.OpenLaws.{accepted}
use Rattle.opening.proofs.opening.open_point.Goals as goal

pub overflow_cast-p : goal.overflow_cast-p
overflow_cast-p c = omega (arith, (accepted (state c.args.r c.args.free.now c.args.ledger.now) _ _ _ _ _ _ c.open_answer.ensures c.in_default.is).point_open.total.to)

pub with_free_point-requires : goal.with_free_point-requires
with_free_point-requires c =
    let told = accepted (state c.args.r c.args.free.now c.args.ledger.now) _ _ _ _ _ _ c.open_answer.ensures c.in_default.is in
    (told.point_from, told.order.year)
