-- What every call keeps: a register with arrays of their lengths that is in order.
-- Assumes nothing.
use Rattle.std.specs.Prelude.{◌≡◌, true, length}
use Rattle.parts.specs.declared.registers.Register.{Register}
use Rattle.parts.specs.Limits.{point_count, user_count}
use Rattle.parts.specs.Registers.{State}
use Rattle.order.specs.Order.{in_order}

-- 32 points and 64 accounts: a register of the code has them by its type
pub record Sized (r : Register) : Type 0 where
  pub points : length r.points ≡ point_count
  pub accounts : length r.accounts ≡ user_count

pub record Sound (s : State) : Type 0 where
  pub sized : Sized s.register
  pub order : in_order s ≡ true
