use Prim.Native.Nat.{ℕ, ◌+◌, ◌-◌}
use mathlib.Core.Bool.{Bool, true, false}
use mathlib.Core.Path.{◌≡◌, refl, sym}
use native.Mathlib.Omega.{arith}
use Rattle.working_days.specs.WorkingDays.{working}
use Rattle.working_days.proofs.WorkingDayLaws.{Sought, sought_first, sought_pass, sought_next}
use Rattle.working_days.proofs.working_days.nth_of_month.Goals as goal

pub loop-month-init : goal.loop-month-init
loop-month-init c = (omega arith, sought_first _ _ _ c.requires.some c.requires.few)

-- an iteration, by what it did with `left` on a working day and on another
step : (y m e r d k k' : ℕ) (b : Bool) → Sought y m e r d k → b ≡ working y m d → (b ≡ true → (k ≡ 1 → ⊥) × (k' ≡ k - 1)) → (b ≡ false → k' ≡ k) → Sought y m e r (d + 1) k'
step y m e r d k k' true s w t f = rw (t refl).1 (sought_next y m e r d k s (sym w) (t refl).0)
step y m e r d k k' false s w t f = rw (f refl) (sought_pass y m e r d k s (sym w))

pub loop-month-preserved : goal.loop-month-preserved
loop-month-preserved c =
    (omega arith, step _ _ _ _ _ _ _ _ c.loop-month.invariant.1 (rw c.date.ensures at c.is_working.ensures) (grind arith) (grind arith))
