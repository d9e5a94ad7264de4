-- Laws of the first of the next month, and of the working days that are deadlines.
-- Assumes nothing.
use Prim.Native.Nat.{ℕ, ◌+◌, ◌-◌, ◌≤◌, ◌<◌, min}
use mathlib.Core.Bool.{Bool, true, false, cond}
use mathlib.Core.Path.{◌≡◌, refl, sym, ap, ◌∙◌}
use native.Mathlib.Omega.{arith}
use lib.Dec.{ltb, leb}
use borrow.Author.Tests.{ltb-true, ltb-false, lt-ltb, le-ltb, leb-true, leb-false}
use Rattle.days.specs.Days.{last_day, month_length, days_before, month_start, day_number, date, date_from, year_of, date_of, year_after, month_after, year_before, month_before}
use Rattle.calendar.specs.ThermalYears.{thermal_first, thermal_last, calendar_year, calendar_month, thermal_month_first}
use Rattle.calendar.specs.Deadlines.{next_first, own_deadline, preceding_deadline}
use Rattle.days.proofs.Ranges.{Within, Month, ThermalMonth, Valid, cond_le, le_cond}
use Rattle.days.proofs.DateLaws.{date_from_lem, day_date, date_valid, date_year_last, month_least, month_most, month_next, month_mono, month_after_lem, month_of_lem, january, year_end}
use Rattle.working_days.proofs.WorkingDayLaws.{NthWorkingDay, nth_working_day_lem}
use Rattle.calendar.proofs.ThermalYearLaws.{thermal_next, from_january, calendar_month_lem}

-- the month of a day of the calendar
pub own_month : (a : ℕ) → a ≤ last_day → Month (date_of a).year (date_of a).month
own_month a h =
    let v = date_valid a in
    record { year = record { from = v.year_from; to = date_year_last a h }; month = v.month }

-- a day lies in its month
pub month_from : (a : ℕ) → month_start (date_of a).year (date_of a).month ≤ a
month_from a = omega (arith, day_date a)

-- by the month after that of the day, which no day of 16 bits has so late that its year would be too large
pub next_named : (a y m : ℕ) → a ≤ 65535 → y ≡ min (year_after (date_of a).year (date_of a).month) 65535 → m ≡ month_after (date_of a).month → month_start y m ≡ next_first a
unfolding next_first year_of
next_named a y m h e f =
    let small : (date_of a).year ≤ 2180 = omega (arith, (date_from_lem a).year_is) in
    let least : year_after (date_of a).year (date_of a).month ≤ 65535 = cond_le (ltb (date_of a).month 12) _ _ 65535 (omega arith) (omega arith) in
    let p : min (year_after (date_of a).year (date_of a).month) 65535 ≡ year_after (date_of a).year (date_of a).month = omega arith in
    rw (e, p, f)

-- the first of the next month comes after the days of the month
pub next_is : (a : ℕ) → next_first a ≡ month_start (date_of a).year (date_of a).month + month_length (date_of a).year (date_of a).month
unfolding next_first
next_is a =
    let v = date_valid a in
    month_after_lem (date_of a).year (date_of a).month v.year_from v.month.from v.month.to

-- so it is counted from the day by the days that are left of the month
pub next_counted : (a left : ℕ) → left ≡ month_length (date_of a).year (date_of a).month - (date_of a).day → a + left + 1 ≡ next_first a
next_counted a left e = let v = date_valid a in omega (arith, e, next_is a, day_date a, v.day.from, v.day.to)

-- an arrival is before the first of its next month, by 31 days at most
pub before_next : (a : ℕ) → a < next_first a
before_next a = let v = date_valid a in omega (arith, next_is a, day_date a, v.day.from, v.day.to)

pub next_near : (a : ℕ) → next_first a ≤ a + 31
next_near a = omega (arith, next_is a, month_from a, month_most (date_of a).year (date_of a).month)

-- of a day in month m, it is the first of month m + 1, which for December is January
pub next_of : (y m a : ℕ) → 2000 ≤ y → Within 1 12 m → month_start y m ≤ a → a < month_start y m + month_length y m → next_first a ≡ month_start (year_after y m) (month_after m)
unfolding next_first
next_of y m a h w p q = rw (month_of_lem y m a h w p q)

-- that first is the least first of a month that comes after the day
pub next_least : (a y m : ℕ) → 2000 ≤ y → Within 1 12 m → a < month_start y m → next_first a ≤ month_start y m
next_least a y m y₀ w h = rw next_is (go (ltb (date_of a).year y) refl (ltb y (date_of a).year) refl)
  where
    v : Valid (date_of a)
    v = date_valid a

    later : (b : Bool) → ltb (date_of a).month m ≡ b → (date_of a).year ≡ y → month_start (date_of a).year (date_of a).month + month_length (date_of a).year (date_of a).month ≤ month_start y m
    later true r e = rw e (omega (arith, month_next y (date_of a).month v.month.from, month_mono y ((date_of a).month + 1) m (omega arith) (omega (arith, ltb-true (date_of a).month m r))))
    later false r e = absurd (omega (arith, h, rw e at (month_from a), month_mono y m (date_of a).month w.from (ltb-false (date_of a).month m r)))

    go : (s : Bool) → ltb (date_of a).year y ≡ s → (t : Bool) → ltb y (date_of a).year ≡ t → month_start (date_of a).year (date_of a).month + month_length (date_of a).year (date_of a).month ≤ month_start y m
    go true p t q =
        let x = (date_of a).year in
        let k = (date_of a).month in
        omega (arith, ltb-true x y p, month_next x k v.month.from, month_mono x (k + 1) 13 (omega arith) (omega (arith, v.month.to)), year_end x v.year_from, january y, month_mono y 1 m (omega arith) w.from)
    go false p true q =
        let x = (date_of a).year in
        absurd (omega (arith, h, month_from a, ltb-true y x q, month_mono y m 13 w.from (omega (arith, w.to)), year_end y y₀, january x, month_mono x 1 (date_of a).month (omega arith) v.month.from))
    go false p false q =
        later (ltb (date_of a).month m) refl (omega (arith, ltb-false (date_of a).year y p, ltb-false y (date_of a).year q))

-- the month after a month is a month
after_year : (y m : ℕ) → 2000 ≤ y → 2000 ≤ year_after y m
after_year y m h = le_cond (ltb m 12) y (y + 1) 2000 h (omega arith)

after_month : (m : ℕ) → Within 1 12 (month_after m)
after_month m = go (ltb m 12) refl
  where
    go : (t : Bool) → ltb m 12 ≡ t → Within 1 12 (cond t (m + 1) 1)
    go true e = record { from = omega arith; to = omega (arith, ltb-true m 12 e) }
    go false e = record { from = omega arith; to = omega arith }

-- it is the first of a month
pub next_first_of : (a : ℕ) → date_of (next_first a) ≡ date (year_after (date_of a).year (date_of a).month) (month_after (date_of a).month) 1
unfolding next_first
next_first_of a =
    let y = year_after (date_of a).year (date_of a).month in
    let m = month_after (date_of a).month in
    let e : month_start y m - month_start y m + 1 ≡ 1 = omega arith in
    month_of_lem y m (month_start y m) (after_year (date_of a).year (date_of a).month (date_valid a).year_from) (after_month (date_of a).month) (omega arith) (omega (arith, month_least y m))
    ∙ ap (λ (x : ℕ). date y m x) e

-- later days have later firsts
pub next_mono : (a b : ℕ) → a ≤ b → next_first a ≤ next_first b
unfolding next_first
next_mono a b h =
    next_least a (year_after (date_of b).year (date_of b).month) (month_after (date_of b).month)
    (after_year (date_of b).year (date_of b).month (date_valid b).year_from)
    (after_month (date_of b).month)
    (omega (arith, before_next b))

-- from a month on, it is the first of the month after that month or a later one
next_from : (y m a : ℕ) → 2000 ≤ y → Within 1 12 m → month_start y m ≤ a → month_start (year_after y m) (month_after m) ≤ next_first a
next_from y m a h w l =
    omega (arith, next_of y m (month_start y m) h w (omega arith) (omega (arith, month_least y m)), next_mono (month_start y m) a l)

-- for an arrival from 1 September Y on it lies in thermal year Y or after it, and in it exactly for an arrival before 1 September Y+1
pub next_not_before : (y a : ℕ) → 2000 ≤ y → day_number y 9 1 ≤ a → thermal_first y ≤ next_first a
next_not_before y a h l = omega (arith, next_from y 9 a h (record { from = omega arith; to = omega arith }) (omega arith))

pub next_within : (y a : ℕ) → 2000 ≤ y → a < day_number (y + 1) 9 1 → next_first a ≤ thermal_last y
next_within y a h l =
    omega (arith, next_least a (y + 1) 9 (omega arith) (record { from = omega arith; to = omega arith }) (omega arith))

pub next_beyond : (y a : ℕ) → 2000 ≤ y → day_number (y + 1) 9 1 ≤ a → thermal_last y < next_first a
next_beyond y a h l =
    omega (arith, thermal_next y, next_from (y + 1) 9 a (omega arith) (record { from = omega arith; to = omega arith }) (omega arith))

-- it lies in the calendar exactly for the days up to 30 November 2099, day 36,493
last_month_first : month_start 2099 12 ≡ 36494
unfolding month_start days_before month_length
last_month_first = refl

pub next_in : (a : ℕ) → a ≤ 36493 → next_first a ≤ last_day
next_in a h =
    omega (arith, last_month_first, next_least a 2099 12 (omega arith) (record { from = omega arith; to = omega arith }) (omega (arith, last_month_first)))

past_the_end : next_first 36494 ≡ 36525
unfolding next_first date_of date_from year_of month_start days_before month_length
past_the_end = refl

pub next_out : (a : ℕ) → 36493 < a → last_day < next_first a
next_out a h = omega (arith, past_the_end, next_mono 36494 a h)

-- the n-th working day of a day's own month lies in that month, so before the next first, and is a working day
pub own_deadline_lem : (a n : ℕ) → a ≤ last_day → Within 1 18 n → NthWorkingDay (date_of a).year (date_of a).month (own_deadline a n)
unfolding own_deadline
own_deadline_lem a n h w = nth_working_day_lem (date_of a).year (date_of a).month n (own_month a h) w

pub own_before_next : (a n : ℕ) → a ≤ last_day → Within 1 18 n → own_deadline a n < next_first a
own_before_next a n h w = omega (arith, next_is a, (own_deadline_lem a n h w).to)

-- the month before month k of a thermal year: up to month 4, January, it lies in the year in which the thermal year begins
pub preceding_early : (y k : ℕ) → 1 ≤ k → k ≤ 4 → (year_before (calendar_year y k) (calendar_month k) ≡ y) × (month_before (calendar_month k) ≡ k + 8)
unfolding calendar_year calendar_month
preceding_early y k a b = go (leb k 3) refl
  where
    go : (t : Bool) → leb k 3 ≡ t → (year_before (cond t y (y + 1)) (cond t (k + 9) (k - 3)) ≡ y) × (month_before (cond t (k + 9) (k - 3)) ≡ k + 8)
    go true e = let p : ltb 1 (k + 9) ≡ true = lt-ltb 1 (k + 9) (omega arith) in (rw p, rw p (omega arith))
    go false e =
        let q : k ≡ 4 = omega (arith, leb-false k 3 e) in
        let p : ltb 1 (k - 3) ≡ false = le-ltb 1 (k - 3) (omega arith) in
        (rw p (omega arith), rw p (omega arith))

pub preceding_late : (y k : ℕ) → 4 < k → (year_before (calendar_year y k) (calendar_month k) ≡ y + 1) × (month_before (calendar_month k) ≡ k - 4)
preceding_late y k h =
    let c : 3 < k = omega arith in
    let p : ltb 1 (k - 3) ≡ true = lt-ltb 1 (k - 3) (omega arith) in
    rw ((from_january y k c).0, (from_january y k c).1, p) (refl, omega arith)

-- it is a month of the calendar
pub preceding_month : (y k : ℕ) → ThermalMonth y k → Month (year_before (calendar_year y k) (calendar_month k)) (month_before (calendar_month k))
preceding_month y k w = go (leb k 4) refl
  where
    go : (t : Bool) → leb k 4 ≡ t → Month (year_before (calendar_year y k) (calendar_month k)) (month_before (calendar_month k))
    go true e =
        let h : k ≤ 4 = leb-true k 4 e in
        let f = preceding_early y k w.month.from h in
        rw (f.0, f.1) (record { year = record { from = w.year.from; to = omega (arith, w.year.to) }; month = record { from = omega arith; to = omega arith } })
    go false e =
        let h : 4 < k = leb-false k 4 e in
        let f = preceding_late y k h in
        rw (f.0, f.1) (record { year = record { from = omega (arith, w.year.from); to = omega (arith, w.year.to) }; month = record { from = omega arith; to = omega (arith, w.month.to) } })

-- after its days the month starts
before_next_month : (y m : ℕ) → 1 ≤ m → 2000 ≤ year_before y m → month_start (year_before y m) (month_before m) + month_length (year_before y m) (month_before m) ≡ month_start y m
before_next_month y m h l = go (ltb 1 m) refl l
  where
    go : (t : Bool) → ltb 1 m ≡ t → 2000 ≤ cond t y (y - 1) → month_start (cond t y (y - 1)) (cond t (m - 1) 12) + month_length (cond t y (y - 1)) (cond t (m - 1) 12) ≡ month_start y m
    go true e l =
        let q : 1 < m = ltb-true 1 m e in
        let p : m - 1 + 1 ≡ m = omega arith in
        sym (month_next y (m - 1) (omega arith)) ∙ ap (λ (x : ℕ). month_start y x) p
    go false e l =
        let q : m ≡ 1 = omega (arith, ltb-false 1 m e) in
        let p : y - 1 + 1 ≡ y = omega arith in
        rw q (sym (month_after_lem (y - 1) 12 l (omega arith) (omega arith)) ∙ ap (λ (x : ℕ). month_start x 1) p)

-- the n-th working day of the month before month k lies in that month, so before month k, and is a working day
pub preceding_deadline_lem : (y k n : ℕ) → ThermalMonth y k → Within 1 18 n → NthWorkingDay (year_before (calendar_year y k) (calendar_month k)) (month_before (calendar_month k)) (preceding_deadline y k n)
unfolding preceding_deadline
preceding_deadline_lem y k n w h =
    nth_working_day_lem (year_before (calendar_year y k) (calendar_month k)) (month_before (calendar_month k)) n (preceding_month y k w) h

pub preceding_before : (y k n : ℕ) → ThermalMonth y k → Within 1 18 n → preceding_deadline y k n < thermal_month_first y k
unfolding thermal_month_first
preceding_before y k n w h =
    let c = calendar_month_lem y k w in
    omega (arith, (preceding_deadline_lem y k n w h).to, before_next_month (calendar_year y k) (calendar_month k) c.month.from (preceding_month y k w).year.from)
