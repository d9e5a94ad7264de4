-- Laws of thermal years and their months.
-- Assumes nothing.
use Prim.Native.Nat.{ℕ, ◌+◌, ◌-◌, ◌≤◌, ◌<◌}
use mathlib.Core.Bool.{Bool, true, false, cond}
use mathlib.Core.Path.{◌≡◌, refl, ap}
use native.Mathlib.Omega.{arith}
use lib.Dec.{leb}
use borrow.Author.Tests.{leb-true, leb-false, le-leb, lt-leb}
use Rattle.days.specs.Days.{last_day, leap, month_length, days_before, year_start, month_start}
use Rattle.calendar.specs.ThermalYears.{is_thermal_year, is_thermal_month, thermal_first, thermal_last, calendar_year, calendar_month, thermal_month_first, thermal_month_last}
use Rattle.days.proofs.Ranges.{Within, Month, ThermalMonth, le_cond, within, month_of_test}
use Rattle.days.proofs.DateLaws.{month_least, month_next, month_mono, month_after_lem, january, year_end, year_next}

september : (y : ℕ) → month_length y 9 ≡ 30
unfolding month_length
september y = refl

-- a thermal year ends the day before the next begins
pub thermal_next : (y : ℕ) → thermal_last y + 1 ≡ thermal_first (y + 1)
thermal_next y = omega (arith, month_next (y + 1) 9 (omega arith), september (y + 1))

october : (y : ℕ) → month_start y 10 ≡ year_start y + cond (leap y) 274 273
unfolding month_start days_before month_length
october y = ap (λ (n : ℕ). year_start y + n) (go (leap y))
  where
    go : (b : Bool) → 0 + 31 + cond b 29 28 + 31 + 30 + 31 + 30 + 31 + 31 + 30 ≡ cond b 274 273
    go true = refl
    go false = refl

-- it has 366 days where its second calendar year is leap, else 365
pub thermal_days : (y : ℕ) → 2000 ≤ y → thermal_first (y + 1) ≡ thermal_first y + cond (leap (y + 1)) 366 365
thermal_days y h = go (leap y) (leap (y + 1)) (october y) (october (y + 1)) (year_next y h)
  where
    go : (a b : Bool) → month_start y 10 ≡ year_start y + cond a 274 273 → month_start (y + 1) 10 ≡ year_start (y + 1) + cond b 274 273 → year_start (y + 1) ≡ year_start y + cond a 366 365 → thermal_first (y + 1) ≡ thermal_first y + cond b 366 365
    go true true p q r = omega (arith, p, q, r)
    go true false p q r = omega (arith, p, q, r)
    go false true p q r = omega (arith, p, q, r)
    go false false p q r = omega (arith, p, q, r)

-- its first day lies 364 days or more before its last, and its last in the calendar
pub thermal_order : (y : ℕ) → 2000 ≤ y → thermal_first y + 364 ≤ thermal_last y
thermal_order y h =
    omega (arith, thermal_next y, thermal_days y h, le_cond (leap (y + 1)) 366 365 365 (omega arith) (omega arith))

pub thermal_last_lem : (y : ℕ) → Within 2000 2098 y → thermal_last y ≤ last_day
thermal_last_lem y w =
    omega (arith, w.from, w.to, thermal_next y, month_mono (y + 1) 10 13 (omega arith) (omega arith), year_end (y + 1) (omega (arith, w.from)))

-- the ends of a year that is asked about lie in the calendar, and a month of a thermal year in a year within limits
pub record YearEnds (y : ℕ) : Type 0 where
  pub year : y ≤ 2098
  pub first : thermal_first y ≤ last_day
  pub last : thermal_last y ≤ last_day

pub year_ends : (y : ℕ) → is_thermal_year y ≡ true → YearEnds y
year_ends y h =
    let w = within 2000 2098 y h in
    let l = thermal_last_lem y w in
    record { year = w.to; first = omega (arith, l, thermal_order y w.from); last = l }

pub month_year : (y k : ℕ) → is_thermal_month y k ≡ true → y ≤ 2098
month_year y k h = (month_of_test 2098 y k h).year.to

-- its months 1 to 3 are October to December, and 4 to 12 January to September of the next year
pub autumn : (y k : ℕ) → k ≤ 3 → (calendar_year y k ≡ y) × (calendar_month k ≡ k + 9)
unfolding calendar_year calendar_month
autumn y k h = (rw (le-leb k 3 h), rw (le-leb k 3 h))

pub from_january : (y k : ℕ) → 3 < k → (calendar_year y k ≡ y + 1) × (calendar_month k ≡ k - 3)
unfolding calendar_year calendar_month
from_january y k h = (rw (lt-leb k 3 h), rw (lt-leb k 3 h))

-- either way: what holds of both holds of month k
by_half : (P : ℕ → ℕ → Type 0) (y k : ℕ) → (k ≤ 3 → P y (k + 9)) → (3 < k → P (y + 1) (k - 3)) → P (calendar_year y k) (calendar_month k)
by_half P y k a b = go (leb k 3) refl
  where
    go : (t : Bool) → leb k 3 ≡ t → P (calendar_year y k) (calendar_month k)
    go true e =
        let h : k ≤ 3 = leb-true k 3 e in
        rw ((autumn y k h).0, (autumn y k h).1) (a h)
    go false e =
        let h : 3 < k = leb-false k 3 e in
        rw ((from_january y k h).0, (from_january y k h).1) (b h)

-- a month of a thermal year is a month of the calendar
pub calendar_month_lem : (y k : ℕ) → ThermalMonth y k → Month (calendar_year y k) (calendar_month k)
calendar_month_lem y k w =
    by_half Month y k
    (λ h. record { year = record { from = w.year.from; to = omega (arith, w.year.to) }; month = record { from = omega arith; to = omega arith } })
    (λ h. record { year = record { from = omega (arith, w.year.from); to = omega (arith, w.year.to) }; month = record { from = omega arith; to = omega (arith, w.month.to) } })

-- the first month starts with the year, the last ends with it, and each next month starts the day after
pub first_month : (y : ℕ) → thermal_month_first y 1 ≡ thermal_first y
unfolding thermal_month_first calendar_year calendar_month
first_month y = omega arith

pub last_month : (y : ℕ) → thermal_month_last y 12 ≡ thermal_last y
unfolding thermal_month_last calendar_year calendar_month
last_month y = rw september (omega arith)

pub month_days : (y k : ℕ) → thermal_month_last y k + 1 ≡ thermal_month_first y k + month_length (calendar_year y k) (calendar_month k)
unfolding thermal_month_first thermal_month_last
month_days y k = omega (arith, month_least (calendar_year y k) (calendar_month k))

turn : (y : ℕ) → 2000 ≤ y → month_start (calendar_year y 4) (calendar_month 4) ≡ thermal_month_first y 3 + month_length (calendar_year y 3) (calendar_month 3)
unfolding thermal_month_first calendar_year calendar_month
turn y h = month_after_lem y 12 h (omega arith) (omega arith)

pub next_month : (y k : ℕ) → 2000 ≤ y → 1 ≤ k → k < 12 → thermal_month_first y (k + 1) ≡ thermal_month_last y k + 1
unfolding thermal_month_first
next_month y k h a b = go (leb k 2) refl (leb k 3) refl
  where
    go : (s : Bool) → leb k 2 ≡ s → (t : Bool) → leb k 3 ≡ t → month_start (calendar_year y (k + 1)) (calendar_month (k + 1)) ≡ thermal_month_last y k + 1
    go true p t q =
        let i : k ≤ 2 = leb-true k 2 p in
        let j : k + 1 ≤ 3 = omega arith in
        let u : k ≤ 3 = omega arith in
        let e : k + 1 + 9 ≡ k + 9 + 1 = omega arith in
        rw (month_days y k, (autumn y k u).0, (autumn y k u).1, (autumn y (k + 1) j).0, (autumn y (k + 1) j).1, e) (month_next y (k + 9) (omega arith))
    go false p true q =
        let u : k ≡ 3 = omega (arith, leb-false k 2 p, leb-true k 3 q) in
        rw (month_days y k, u) (turn y h)
    go false p false q =
        let i : 3 < k = leb-false k 3 q in
        let j : 3 < k + 1 = omega arith in
        let e : k + 1 - 3 ≡ k - 3 + 1 = omega arith in
        rw (month_days y k, (from_january y k i).0, (from_january y k i).1, (from_january y (k + 1) j).0, (from_january y (k + 1) j).1, e) (month_next (y + 1) (k - 3) (omega arith))

-- a month of a thermal year lies in it
pub thermal_month_from : (y k : ℕ) → ThermalMonth y k → thermal_first y ≤ thermal_month_first y k
unfolding thermal_month_first
thermal_month_from y k w =
    by_half (λ (x m : ℕ). thermal_first y ≤ month_start x m) y k
    (λ h. omega (arith, month_mono y 10 (k + 9) (omega arith) (omega (arith, w.month.from))))
    (λ h. omega (arith, month_mono y 10 13 (omega arith) (omega arith), year_end y w.year.from, january (y + 1), month_mono (y + 1) 1 (k - 3) (omega arith) (omega arith)))

pub thermal_month_to : (y k : ℕ) → ThermalMonth y k → thermal_month_last y k ≤ thermal_last y
unfolding thermal_month_first
thermal_month_to y k w =
    let e : month_start (calendar_year y k) (calendar_month k) + month_length (calendar_year y k) (calendar_month k) ≤ thermal_last y + 1 =
    by_half (λ (x m : ℕ). month_start x m + month_length x m ≤ thermal_last y + 1) y k
    (λ h. omega (arith, thermal_next y, month_next y (k + 9) (omega arith), month_mono y (k + 9 + 1) 13 (omega arith) (omega arith), year_end y w.year.from, january (y + 1), month_mono (y + 1) 1 10 (omega arith) (omega arith)))
    (λ h. omega (arith, thermal_next y, month_next (y + 1) (k - 3) (omega arith), month_mono (y + 1) (k - 3 + 1) 10 (omega arith) (omega (arith, w.month.to)))) in
    omega (arith, e, month_days y k)
