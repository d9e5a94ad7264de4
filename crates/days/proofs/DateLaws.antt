-- Laws of days, months and dates.
-- Assumes nothing.
use Prim.Native.Nat.{ℕ, zero, suc, ◌+◌, ◌-◌, ◌%◌, ◌≤◌, ◌<◌}
use mathlib.Core.Bool.{Bool, true, false, cond}
use mathlib.Core.Path.{◌≡◌, refl, ap}
use native.Mathlib.Omega.{arith}
use lib.Dec.{ltb, lit≤}
use borrow.Author.Tests.{ltb-true, ltb-false, eqb-true, eqb-false, lt-ltb, le-ltb}
use Rattle.days.specs.declared.dates.Date.{Date}
use Rattle.days.specs.Days.{last_day, weekday, leap, month_length, year_start, days_before, month_start, day_number, day_of, date, date_from, year_of, date_of, year_after, month_after, day_after}
use Rattle.days.proofs.Ranges.{Within, Month, Valid, cond_le, le_cond}

-- a month has 28 to 31 days
pub month_most : (y m : ℕ) → month_length y m ≤ 31
unfolding month_length
month_most y m = search (cond_le, lit≤, tt) depth 12

pub month_least : (y m : ℕ) → 28 ≤ month_length y m
unfolding month_length
month_least y m = search (le_cond, lit≤, tt) depth 12

-- the days of the first k months and those of the month after them are the days of the first k + 1
pub days_with : (y k sum days : ℕ) → sum ≡ days_before y k → days ≡ month_length y (k + 1) → sum + days ≡ days_before y (k + 1)
unfolding days_before
days_with y k sum days e f =
    let q : k + 1 ≡ suc k = omega arith in
    rw (e, f, q) refl

-- in a year, the next month starts after the month's days
pub month_next : (y m : ℕ) → 1 ≤ m → month_start y (m + 1) ≡ month_start y m + month_length y m
unfolding month_start days_before
month_next y m h = go m h
  where
    go : (k : ℕ) → 1 ≤ k → year_start y + days_before y (k + 1 - 1) ≡ year_start y + days_before y (k - 1) + month_length y k
    go zero h = omega arith
    go (suc k) h =
        let e : suc k + 1 - 1 ≡ suc k = omega arith in
        let f : suc k - 1 ≡ k = omega arith in
        rw (e, f) (omega arith)

-- the days of a year
year_days_lem : (y : ℕ) → days_before y 12 ≡ cond (leap y) 366 365
unfolding days_before month_length
year_days_lem y = go (leap y)
  where
    go : (b : Bool) → 0 + 31 + cond b 29 28 + 31 + 30 + 31 + 30 + 31 + 31 + 30 + 31 + 30 + 31 ≡ cond b 366 365
    go true = refl
    go false = refl

-- a year has 366 days where it is leap, else 365
pub year_next : (y : ℕ) → 2000 ≤ y → year_start (y + 1) ≡ year_start y + cond (leap y) 366 365
year_next y h = go (leap y) refl
  where
    go : (b : Bool) → leap y ≡ b → year_start (y + 1) ≡ year_start y + cond b 366 365
    go true e = omega (arith, eqb-true (y % 4) 0 e)
    go false e = omega (arith, eqb-false (y % 4) 0 e)

pub january : (y : ℕ) → month_start y 1 ≡ year_start y
unfolding month_start days_before
january y = omega arith

-- December is followed by the next year
pub year_end : (y : ℕ) → 2000 ≤ y → month_start y 13 ≡ year_start (y + 1)
unfolding month_start
year_end y h = omega (arith, year_next y h, year_days_lem y)

pub december : (y : ℕ) → month_length y 12 ≡ 31
unfolding month_length
december y = refl

-- the month after a month starts after its days, in December too
pub month_after_lem : (y m : ℕ) → 2000 ≤ y → 1 ≤ m → m ≤ 12 → month_start (year_after y m) (month_after m) ≡ month_start y m + month_length y m
month_after_lem y m h a b = go (ltb m 12) refl
  where
    go : (t : Bool) → ltb m 12 ≡ t → month_start (cond t y (y + 1)) (cond t (m + 1) 1) ≡ month_start y m + month_length y m
    go true e = month_next y m a
    go false e =
        let p : m ≡ 12 = omega (arith, ltb-false m 12 e) in
        rw p (omega (arith, january (y + 1), year_end y h, month_next y 12 (omega arith)))

-- a later month of a year starts later
months_up : (y m j : ℕ) → 1 ≤ m → month_start y m ≤ month_start y (m + j)
months_up y m zero h = let e : m ≡ m + zero = omega arith in rw (← e) (omega arith)
months_up y m (suc j) h =
    let e : m + suc j ≡ m + j + 1 = omega arith in
    rw e (omega (arith, months_up y m j h, month_next y (m + j) (omega arith)))

pub month_mono : (y m m' : ℕ) → 1 ≤ m → m ≤ m' → month_start y m ≤ month_start y m'
month_mono y m m' h l = let e : m' ≡ m + (m' - m) = omega arith in rw e (months_up y m (m' - m) h)

-- the year that is found holds the day, and no other does
pub year_from : (n : ℕ) → year_start (year_of n) ≤ n
unfolding year_of
year_from n = omega arith

pub year_until : (n : ℕ) → n < year_start (year_of n + 1)
unfolding year_of
year_until n = omega arith

year_only : (y n : ℕ) → 2000 ≤ y → year_start y ≤ n → n < year_start (y + 1) → year_of n ≡ y
unfolding year_of
year_only y n h a b = omega arith

pub year_of_least : (n : ℕ) → 2000 ≤ year_of n
unfolding year_of
year_of_least n = omega arith

-- a turn of the walk through the months
pub date_here : (y m r : ℕ) → m < 12 → r < month_length y m → date_from y m r (12 - m) ≡ date y m (r + 1)
unfolding date_from
date_here y m r h l =
    let e : 12 - m ≡ suc (12 - (m + 1)) = omega arith in
    rw (e, lt-ltb r (month_length y m) l)

pub date_on : (y m r : ℕ) → m < 12 → month_length y m ≤ r → date_from y m r (12 - m) ≡ date_from y (m + 1) (r - month_length y m) (12 - (m + 1))
unfolding date_from
date_on y m r h l =
    let e : 12 - m ≡ suc (12 - (m + 1)) = omega arith in
    rw (e, le-ltb r (month_length y m) l)

-- the turns of the walk, for a loop
pub ruleset date_turns = (date_here, date_on, january, year_from, month_next)

-- what is left of the year after its eleventh month is less than December
pub december_left : (n y m r : ℕ) → y ≡ year_of n → m ≡ 12 → month_start y m + r ≡ n → r < 31
december_left n y m r hy hm h =
    let e : month_start (year_of n) 12 + r ≡ n = cc in
    omega (arith, e, year_until n, year_end (year_of n) (year_of_least n), month_next (year_of n) 12 (omega arith), december (year_of n))

-- the date found from the first of month m on has the right number
from_day : (k y m r : ℕ) → 1 ≤ m → day_of (date_from y m r k) ≡ month_start y m + r
unfolding date_from
from_day zero y m r h = omega arith
from_day (suc k) y m r h =
    go (ltb r (month_length y m)) refl (from_day k y (m + 1) (r - month_length y m) (omega arith))
  where
    go : (b : Bool) → ltb r (month_length y m) ≡ b → day_of (date_from y (m + 1) (r - month_length y m) k) ≡ month_start y (m + 1) + (r - month_length y m) → day_of (cond b (date y m (r + 1)) (date_from y (m + 1) (r - month_length y m) k)) ≡ month_start y m + r
    go true e i = omega arith
    go false e i = omega (arith, i, month_next y m h, ltb-false r (month_length y m) e)

-- day to date to day: the number of the date of day n is n
pub day_date : (n : ℕ) → day_of (date_of n) ≡ n
unfolding date_of
day_date n =
    omega (arith, from_day 11 (year_of n) 1 (n - year_start (year_of n)) (omega arith), january (year_of n), year_from n)

-- where the walk from the first of month m on ends: in year y, in a month from m to e, on a day of it
pub record From (y m e : ℕ) (d : Date) : Type 0 where
  pub year_is : d.year ≡ y
  pub month : Within m e d.month
  pub day : Within 1 (month_length y d.month) d.day

from_in : (k y m r e : ℕ) → 1 ≤ m → m + k ≡ e → month_start y m + r < month_start y e + month_length y e → From y m e (date_from y m r k)
unfolding date_from
from_in zero y m r e h s l =
    let q : m ≡ e = omega arith in
    record {
      year_is = refl;
      month = record { from = omega arith; to = omega arith };
      day = record { from = omega arith; to = omega (arith, ap (λ (x : ℕ). month_start y x) q, ap (λ (x : ℕ). month_length y x) q) };
    }
from_in (suc k) y m r e h s l =
    go (ltb r (month_length y m)) refl
    (λ g. from_in k y (m + 1) (r - month_length y m) e (omega arith) (omega arith) (omega (arith, g, month_next y m h)))
  where
    go : (b : Bool) → ltb r (month_length y m) ≡ b → (month_length y m ≤ r → From y (m + 1) e (date_from y (m + 1) (r - month_length y m) k)) → From y m e (cond b (date y m (r + 1)) (date_from y (m + 1) (r - month_length y m) k))
    go true t i =
        record {
          year_is = refl;
          month = record { from = omega arith; to = omega arith };
          day = record { from = omega arith; to = omega (arith, ltb-true r (month_length y m) t) };
        }
    go false t i =
        let f = i (ltb-false r (month_length y m) t) in
        record { year_is = f.year_is; month = record { from = omega arith; to = f.month.to }; day = f.day }

pub date_from_lem : (n : ℕ) → From (year_of n) 1 12 (date_of n)
unfolding date_of
date_from_lem n =
    from_in 11 (year_of n) 1 (n - year_start (year_of n)) 12 (omega arith) (omega arith)
    (omega (arith, january (year_of n), year_from n, year_until n, year_end (year_of n) (year_of_least n), month_next (year_of n) 12 (omega arith)))

-- the date of a day exists
pub date_valid : (n : ℕ) → Valid (date_of n)
date_valid n =
    let f = date_from_lem n in
    record { year_from = omega (arith, f.year_is, year_of_least n); month = f.month; day = rw f.year_is f.day }

-- a day of the calendar has a year of the calendar
pub date_year_last : (n : ℕ) → n ≤ last_day → (date_of n).year ≤ 2099
unfolding year_of
date_year_last n h = omega (arith, (date_from_lem n).year_is)

find : (k y m r m' d : ℕ) → 1 ≤ m → m ≤ m' → m' ≤ m + k → 1 ≤ d → d ≤ month_length y m' → month_start y m + r ≡ day_number y m' d → date_from y m r k ≡ date y m' d
unfolding date_from
find zero y m r m' d h l l' d₁ d₂ s =
    let p : m ≡ m' = omega arith in
    let q : r + 1 ≡ d = omega (arith, ap (λ (x : ℕ). month_start y x) p) in
    λ i. record { year = y; month = p i; day = q i }
find (suc k) y m r m' d h l l' d₁ d₂ s =
    go (ltb r (month_length y m)) refl
    (λ p g. find k y (m + 1) (r - month_length y m) m' d (omega arith) p (omega arith) d₁ d₂ (omega (arith, g, s, month_next y m h)))
  where
    go : (b : Bool) → ltb r (month_length y m) ≡ b → (m + 1 ≤ m' → month_length y m ≤ r → date_from y (m + 1) (r - month_length y m) k ≡ date y m' d) → cond b (date y m (r + 1)) (date_from y (m + 1) (r - month_length y m) k) ≡ date y m' d
    go true t i = same (ltb m m') refl
      where
        same : (b : Bool) → ltb m m' ≡ b → date y m (r + 1) ≡ date y m' d
        same true u = absurd (omega (arith, s, ltb-true r (month_length y m) t, month_next y m h, month_mono y (m + 1) m' (omega arith) (omega (arith, ltb-true m m' u))))
        same false u =
            let p : m ≡ m' = omega (arith, ltb-false m m' u) in
            let q : r + 1 ≡ d = omega (arith, s, ap (λ (x : ℕ). month_start y x) p) in
            λ i. record { year = y; month = p i; day = q i }
    go false t i = other (ltb m m') refl
      where
        other : (b : Bool) → ltb m m' ≡ b → date_from y (m + 1) (r - month_length y m) k ≡ date y m' d
        other true u = i (omega (arith, ltb-true m m' u)) (ltb-false r (month_length y m) t)
        other false u =
            let p : m ≡ m' = omega (arith, ltb-false m m' u) in
            absurd (omega (arith, s, ltb-false r (month_length y m) t, ap (λ (x : ℕ). month_start y x) p, ap (λ (x : ℕ). month_length y x) p))

-- date to day to date: the date of a date's number is the date
pub date_day : (d : Date) → Valid d → date_of (day_of d) ≡ d
unfolding date_of
date_day d v =
    let y = d.year in
    let m = d.month in
    let n = day_of d in
    let a : year_start y ≤ n = omega (arith, january y, month_mono y 1 m (omega arith) v.month.from) in
    let b : n < year_start (y + 1) = omega (arith, v.day.from, v.day.to, year_end y v.year_from, month_next y m v.month.from, month_mono y (m + 1) 13 (omega arith) (omega (arith, v.month.to))) in
    rw (year_only y n v.year_from a b)
    (find 11 y 1 (n - year_start y) m d.day (omega arith) v.month.from (omega (arith, v.month.to)) v.day.from v.day.to (omega (arith, january y)))

-- a month of the calendar ends in it
pub month_in : (y m : ℕ) → Month y m → month_start y m + month_length y m ≤ last_day + 1
month_in y m w =
    omega (arith, w.year.to, month_next y m w.month.from, month_mono y (m + 1) 13 (omega arith) (omega (arith, w.month.to)), year_end y w.year.from)

-- a date of a year of the calendar has a number of the calendar
pub in_calendar_lem : (d : Date) → Valid d → d.year ≤ 2099 → day_of d ≤ last_day
in_calendar_lem d v h =
    omega (arith, v.day.from, v.day.to, month_in d.year d.month (record { year = record { from = v.year_from; to = h }; month = v.month }))

-- the month of a day is the one whose days hold it
pub month_of_lem : (y m a : ℕ) → 2000 ≤ y → Within 1 12 m → month_start y m ≤ a → a < month_start y m + month_length y m → date_of a ≡ date y m (a - month_start y m + 1)
month_of_lem y m a h w p q =
    let d : Date = date y m (a - month_start y m + 1) in
    let e : day_of d ≡ a = omega arith in
    rw e at (date_day d (record { year_from = h; month = w; day = record { from = omega arith; to = omega arith } }))

-- the day after a date exists, and has the next number
after_valid : (d : Date) → Valid d → Valid (day_after d)
unfolding day_after
after_valid d v = go (ltb d.day (month_length d.year d.month)) refl (ltb d.month 12) refl
  where
    go : (a : Bool) → ltb d.day (month_length d.year d.month) ≡ a → (b : Bool) → ltb d.month 12 ≡ b → Valid (cond a (date d.year d.month (d.day + 1)) (date (cond b d.year (d.year + 1)) (cond b (d.month + 1) 1) 1))
    go true p b q = record { year_from = v.year_from; month = v.month; day = record { from = omega arith; to = omega (arith, ltb-true d.day (month_length d.year d.month) p) } }
    go false p true q = record { year_from = v.year_from; month = record { from = omega arith; to = omega (arith, ltb-true d.month 12 q) }; day = record { from = omega arith; to = omega (arith, month_least d.year (d.month + 1)) } }
    go false p false q = record { year_from = omega (arith, v.year_from); month = record { from = omega arith; to = omega arith }; day = record { from = omega arith; to = omega (arith, month_least (d.year + 1) 1) } }

after_day : (d : Date) → Valid d → day_of (day_after d) ≡ day_of d + 1
unfolding day_after
after_day d v = go (ltb d.day (month_length d.year d.month)) refl
  where
    go : (a : Bool) → ltb d.day (month_length d.year d.month) ≡ a → day_of (cond a (date d.year d.month (d.day + 1)) (date (year_after d.year d.month) (month_after d.month) 1)) ≡ day_of d + 1
    go true p = omega (arith, v.day.from)
    go false p =
        omega (arith, v.day.from, v.day.to, ltb-false d.day (month_length d.year d.month) p, month_after_lem d.year d.month v.year_from v.month.from v.month.to)

-- "Day 0 is Saturday"
pub weekday_zero : weekday 0 ≡ 5
weekday_zero = refl

-- "1 January 2000", and the date of each next day is the day after: these two settle every date
pub date_zero : date_of 0 ≡ date 2000 1 1
unfolding date_of date_from year_of month_length
date_zero = refl

pub date_next : (n : ℕ) → date_of (n + 1) ≡ day_after (date_of n)
date_next n =
    let v = date_valid n in
    let e : day_of (day_after (date_of n)) ≡ n + 1 = omega (arith, after_day (date_of n) v, day_date n) in
    rw e at (date_day (day_after (date_of n)) (after_valid (date_of n) v))

-- "the calendar ends with day 36,524, 31 December 2099"
pub date_last : date_of last_day ≡ date 2099 12 31
unfolding date_of date_from year_of month_length
date_last = refl
