use native.Mathlib.Omega.{arith}
use Rattle.days.proofs.DateLaws.{december_left}
use Rattle.days.proofs.dates.date_at.Goals as goal

pub overflow_cast-result-2 : goal.overflow_cast-result-2
overflow_cast-result-2 c =
    omega (arith, december_left _ _ _ _ c.loop-month.invariant.2 (omega arith) c.loop-month.invariant.1)
