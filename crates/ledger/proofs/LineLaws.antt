-- The last day of a ledger line.
-- Assumes nothing.
use mathlib.Core.Path.{◌≡◌, ap, ◌∙◌}
use Prim.Native.Nat.{ℕ, ◌-◌}
use native.Mathlib.Omega.{arith}
use borrow.Author.Tests.{eq-eqb, ne_eqb}
use Rattle.calendar.specs.Deadlines.{next_first}
use Rattle.calendar.specs.ThermalYears.{thermal_last, calendar_year, calendar_month, thermal_month_first, thermal_month_last}
use Rattle.days.proofs.Ranges.{Month, ThermalMonth}
use Rattle.days.proofs.DateLaws.{month_least, month_after_lem}
use Rattle.calendar.proofs.ThermalYearLaws.{calendar_month_lem, month_days}
use Rattle.calendar.proofs.DeadlineLaws.{next_of}
use Rattle.ledger.specs.declared.ledger.Line.{Line}
use Rattle.ledger.specs.Ledger.{line_last}

-- "annual lines end with the year"
pub annual_last_lem : (y : ℕ) (l : Line) → l.kind ≡ 1 → line_last y l ≡ thermal_last y
unfolding line_last
annual_last_lem y l e = rw (eq-eqb l.kind 1 e)

-- "month lines with the month"
month_end : (y k : ℕ) → ThermalMonth y k → next_first (thermal_month_first y k) - 1 ≡ thermal_month_last y k
unfolding thermal_month_first
month_end y k w =
    let m : Month (calendar_year y k) (calendar_month k) = calendar_month_lem y k w in
    let n = next_of (calendar_year y k) (calendar_month k) (thermal_month_first y k) m.year.from m.month (omega arith) (omega (arith, month_least (calendar_year y k) (calendar_month k))) in
    omega (arith, n, month_after_lem (calendar_year y k) (calendar_month k) m.year.from m.month.from m.month.to, month_days y k)

pub month_last : (y k : ℕ) (l : Line) → ThermalMonth y k → l.kind ≡ 2 → l.first ≡ thermal_month_first y k → line_last y l ≡ thermal_month_last y k
unfolding line_last
month_last y k l w e h =
    rw (ne_eqb l.kind 1 (λ q. omega arith), eq-eqb l.kind 2 e)
    (ap (λ (d : ℕ). next_first d - 1) h ∙ month_end y k w)

-- "day lines on that day"
pub day_last : (y : ℕ) (l : Line) → l.kind ≡ 3 → line_last y l ≡ l.first
unfolding line_last
day_last y l e = rw (ne_eqb l.kind 1 (λ q. omega arith), ne_eqb l.kind 2 (λ q. omega arith))
