-- A fresh register is in order; the register of a refused one is not.
-- Assumes nothing.
use mathlib.Core.Path.{◌≡◌, refl, sym, ap}
use mathlib.Core.Bool.{true, false}
use Prim.Native.Nat.{ℕ, ◌<◌}
use mathlib.Core.List.{List}
use native.Mathlib.Nat.{not-suc-le-zero}
use native.Mathlib.Omega.{arith}
use lib.ListN.{get_or, length-replicate, get_or-replicate}
use Rattle.calendar.specs.ThermalYears.{is_thermal_year}
use Rattle.parts.specs.Limits.{point_count, user_count, table_length, ledger_length}
use Rattle.parts.specs.Registers.{state, closed_point, absent_user, blank_register}
use Rattle.amounts.specs.Amounts.{entry_at, zero_table}
use Rattle.parts.specs.Points.{point_ok}
use Rattle.parts.specs.Accounts.{account_ok}
use Rattle.order.specs.Order.{in_order}
use Rattle.register.specs.Fresh.{fresh_state}
use Rattle.register.specs.Sound.{Sized, Sound}
use Rattle.order.proofs.OrderFacts.{InOrder, in_order_lem}
use Rattle.order.proofs.OrderLaws.{no_year_order}

pub blank_sized : (y : ℕ) → Sized (blank_register y)
unfolding blank_register
blank_sized y = record { points = length-replicate point_count closed_point; accounts = length-replicate user_count absent_user }

-- "A fresh register has a given year, no point open, no user on file, an empty ledger and a zeroed table": it is in order
pub fresh_sound : (y : ℕ) → is_thermal_year y ≡ true → Sound (fresh_state y)
unfolding blank_register
fresh_sound y h = record { sized = blank_sized y; order = in_order_lem (fresh_state y) facts }
  where
    zero_at : (k : ℕ) → k < table_length → get_or zero_table k 0 ≡ 0
    zero_at k b = get_or-replicate table_length k 0 0 b

    facts : InOrder (fresh_state y)
    facts =
        record {
          table_length_lem = length-replicate {A = ℕ} table_length 0;
          ledger_length_lem = length-replicate {A = ℕ} ledger_length 0;
          few = omega arith;
          year = h;
          points = λ i b. ap point_ok (get_or-replicate point_count i closed_point closed_point b);
          accounts = λ i b. ap account_ok (get_or-replicate user_count i absent_user absent_user b);
          free = λ i k hi hk. omega (arith, zero_at (entry_at i k) (omega arith));
          lines = λ i b. absurd (not-suc-le-zero b);
        }

-- no call takes the register of a refused one
pub refused_not_in_order : (f ls : List ℕ) → in_order (state (blank_register 0) f ls) ≡ false
unfolding blank_register
refused_not_in_order f ls = sym (no_year_order (state (blank_register 0) f ls) refl)
