-- The gas-days of a thermal year.
-- Assumes nothing.
use mathlib.Core.Path.{◌≡◌, sym, ap₂, ◌∙◌}
use mathlib.Core.Bool.{Bool, true, false}
use Prim.Native.Nat.{ℕ, ◌+◌, ◌≤◌}
use native.Mathlib.Omega.{arith}
use Rattle.days.specs.Days.{leap, between}
use Rattle.calendar.specs.ThermalYears.{is_thermal_year, in_thermal_year, thermal_first, thermal_last, YearSpan}
use Rattle.days.proofs.Ranges.{and_left, and_right, Within, within, is_between, cond_le}
use Rattle.std.proofs.lemmas.Bool.{and_from as both}
use Rattle.calendar.proofs.ThermalYearLaws.{thermal_next, thermal_days, thermal_order, thermal_last_lem}
use Rattle.amounts.specs.Amounts.{year_days}

-- a thermal year within limits
pub thermal_year : (y : ℕ) → is_thermal_year y ≡ true → Within 2000 2098 y
thermal_year y h = within 2000 2098 y h

-- it has 365 or 366 gas-days, and lies in the calendar
pub record YearFacts (y : ℕ) : Type 0 where
  pub least : 365 ≤ year_days y
  pub most : year_days y ≤ 366
  pub ordered : thermal_first y + 364 ≤ thermal_last y
  pub last : thermal_last y ≤ 36524

pub year_facts : (y : ℕ) → is_thermal_year y ≡ true → YearFacts y
year_facts y h =
    let w = thermal_year y h in
    let o = thermal_order y w.from in
    let m = cond_le (leap (y + 1)) 366 365 366 (omega arith) (omega arith) in
    record {
      least = omega (arith, o);
      most = omega (arith, thermal_next y, thermal_days y w.from, m);
      ordered = o;
      last = thermal_last_lem y w;
    }

-- a test of a day against the span of a year
pub in_year : (y first last d : ℕ) (b : Bool) → YearSpan y first last → between first last d ≡ b → in_thermal_year y d ≡ b
in_year y first last d b s h =
    rw s.year (sym (ap₂ (λ (f l : ℕ). between f l d) s.begins s.ends) ∙ h)

-- a day of a thermal year lies from its first to its last, and back
pub day_within : (y d : ℕ) → in_thermal_year y d ≡ true → Within (thermal_first y) (thermal_last y) d
day_within y d h =
    within (thermal_first y) (thermal_last y) d (and_right (is_thermal_year y) (between (thermal_first y) (thermal_last y) d) h)

pub day_year : (y d : ℕ) → in_thermal_year y d ≡ true → is_thermal_year y ≡ true
day_year y d h = and_left (is_thermal_year y) (between (thermal_first y) (thermal_last y) d) h

pub day_in_lem : (y d : ℕ) → is_thermal_year y ≡ true → thermal_first y ≤ d → d ≤ thermal_last y → in_thermal_year y d ≡ true
day_in_lem y d h from to = both _ _ h (is_between (thermal_first y) (thermal_last y) d from to)

pub in_no_year : (y d : ℕ) → is_thermal_year y ≡ false → in_thermal_year y d ≡ false
in_no_year y d h = rw h
