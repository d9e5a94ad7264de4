-- The days of a ledger line in order.
-- Assumes nothing.
use mathlib.Core.Path.{◌≡◌, refl, subst}
use mathlib.Core.Bool.{Bool, true, false, not, ◌||◌}
use mathlib.Core.List.{List}
use Prim.Native.Nat.{ℕ, ◌+◌, ◌≤◌}
use native.Mathlib.Omega.{arith}
use lib.Dec.{eqb}
use borrow.Author.Tests.{eqb-true, eqb-false}
use Rattle.calendar.specs.ThermalYears.{is_thermal_year, thermal_last, calendar_year, calendar_month, thermal_month_first, thermal_month_last}
use Rattle.days.proofs.Ranges.{Within, ThermalMonth}
use Rattle.days.proofs.DateLaws.{month_least}
use Rattle.calendar.proofs.ThermalYearLaws.{month_days, thermal_month_to}
use Rattle.parts.specs.declared.points.Point.{Point}
use Rattle.parts.specs.declared.accounts.Account.{Account}
use Rattle.ledger.specs.declared.ledger.Line.{Line}
use Rattle.ledger.specs.Ledger.{line_last}
use Rattle.order.specs.Order.{opens_month, is_month_first}
use Rattle.parts.proofs.TestLaws.{some_at}
use Rattle.amounts.proofs.CalendarLaws.{thermal_year}
use Rattle.ledger.proofs.LineLaws.{annual_last_lem, month_last, day_last}
use Rattle.order.proofs.OrderFacts.{LineFacts}

-- a line in order ends in the year and not before it begins
pub line_span : (y : ℕ) (ps : List Point) (us : List Account) (l : Line) → is_thermal_year y ≡ true → LineFacts y ps us l → Within l.first (thermal_last y) (line_last y l)
unfolding is_month_first
line_span y ps us l h f = go (eqb l.kind 1) refl (eqb l.kind 2) refl
  where
    at : (n : ℕ) → line_last y l ≡ n → l.first ≤ n → n ≤ thermal_last y → Within l.first (thermal_last y) (line_last y l)
    at n e p q = record { from = omega (arith, e, p); to = omega (arith, e, q) }

    by_month : l.kind ≡ 2 → is_month_first y l.first ≡ true → Within l.first (thermal_last y) (line_last y l)
    by_month e m =
        let r = some_at (opens_month y l.first) 12 m in
        let k = r.0 + 1 in
        let w : ThermalMonth y (r.0 + 1) = record { year = thermal_year y h; month = record { from = omega arith; to = omega (arith, r.1.0) } } in
        let s : l.first ≡ thermal_month_first y (r.0 + 1) = eqb-true l.first (thermal_month_first y (r.0 + 1)) r.1.1 in
        at (thermal_month_last y k) (month_last y k l w e s)
        (omega (arith, s, month_days y k, month_least (calendar_year y k) (calendar_month k)))
        (thermal_month_to y k w)

    go : (a : Bool) → eqb l.kind 1 ≡ a → (b : Bool) → eqb l.kind 2 ≡ b → Within l.first (thermal_last y) (line_last y l)
    go true p b q = at (thermal_last y) (annual_last_lem y l (eqb-true l.kind 1 p)) f.first.to (omega arith)
    go false p true q =
        by_month (eqb-true l.kind 2 q) (subst (λ (b : Bool). (not b || is_month_first y l.first) ≡ true) q f.month)
    go false p false q =
        let n = eqb-false l.kind 1 p in
        let m = eqb-false l.kind 2 q in
        at l.first (day_last y l (omega (arith, f.kind.from, f.kind.to, n, m))) (omega arith) f.first.to
