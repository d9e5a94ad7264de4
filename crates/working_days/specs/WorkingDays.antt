-- Document 01, "Gas-days and working days": Easter, holidays, and the working days of a month.
-- Assumes nothing.
use Rattle.std.specs.Prelude.{ℕ, zero, suc, ◌+◌, ◌-◌, ◌*◌, ◌%◌, Bool, true, false, cond, not, ◌||◌, ◌&&◌, List, [], ◌∷◌, ltb, eqb, length, get_or}
use Rattle.days.specs.Days.{month_length, day_number, weekday, date_of}

-- "Easter in year y (Gauss's rule for 1900 to 2099): a, b, c are the remainders of y by 19, 4, 7"
unfoldable pub gauss_a : ℕ → ℕ
gauss_a y = y % 19

unfoldable pub gauss_b : ℕ → ℕ
gauss_b y = y % 4

unfoldable pub gauss_c : ℕ → ℕ
gauss_c y = y % 7

-- "d = (19a + 24) mod 30"
unfoldable pub gauss_d : ℕ → ℕ
gauss_d y = (19 * gauss_a y + 24) % 30

-- "e = (2b + 4c + 6d + 5) mod 7"
unfoldable pub gauss_e : ℕ → ℕ
gauss_e y = (2 * gauss_b y + 4 * gauss_c y + 6 * gauss_d y + 5) % 7

-- "a week earlier where d = 29 and e = 6, or d = 28, e = 6 and a > 10"
abbrev pub week_earlier : ℕ → ℕ → ℕ → Bool
week_earlier a d e = (eqb d 29 && eqb e 6) || (eqb d 28 && (eqb e 6 && ltb 10 a))

-- "Easter is d + e days after 22 March, but a week earlier where" the above holds: how many days after 22 March
unfoldable pub easter_offset : ℕ → ℕ
easter_offset y =
    cond (week_earlier (gauss_a y) (gauss_d y) (gauss_e y)) (gauss_d y + gauss_e y - 7) (gauss_d y + gauss_e y)

-- the number of Easter Sunday of year y
abbrev pub easter_sunday : ℕ → ℕ
easter_sunday y = day_number y 3 22 + easter_offset y

-- "1 and 6 January, [..] 25 April, 1 May, 2 June, 15 August, 1 November, 8, 25 and 26 December"
unfoldable pub fixed_holiday : ℕ → ℕ → Bool
fixed_holiday m d =
    cond (eqb m 1) (eqb d 1 || eqb d 6)
    (cond (eqb m 4) (eqb d 25)
    (cond (eqb m 5) (eqb d 1)
    (cond (eqb m 6) (eqb d 2)
    (cond (eqb m 8) (eqb d 15)
    (cond (eqb m 11) (eqb d 1)
    (cond (eqb m 12) ((eqb d 8 || eqb d 25) || eqb d 26)
    false))))))

-- "Easter Monday"
abbrev pub easter_monday : ℕ → ℕ
easter_monday y = easter_sunday y + 1

-- "Holidays": day d of month m of year y is one
abbrev pub holiday : ℕ → ℕ → ℕ → Bool
holiday y m d = fixed_holiday m d || eqb (day_number y m d) (easter_monday y)

-- "A working day is Monday to Friday and no holiday."
abbrev pub working : ℕ → ℕ → ℕ → Bool
working y m d = ltb (weekday (day_number y m d)) 5 && not (holiday y m d)

-- day n is a working day
abbrev pub working_day : ℕ → Bool
working_day n = working (date_of n).year (date_of n).month (date_of n).day

-- a list with d put in front where a test holds
abbrev pub keep_if : Bool → ℕ → List ℕ → List ℕ
keep_if true d l = d ∷ l
keep_if false d l = l

-- of the k days of the month from day d on, the working days, each by its day of the month
unfoldable pub working_from : ℕ → ℕ → ℕ → ℕ → List ℕ
working_from y m d zero = []
working_from y m d (suc k) = keep_if (working y m d) d (working_from y m (d + 1) k)

-- the working days of a month
unfoldable pub working_days : ℕ → ℕ → List ℕ
working_days y m = working_from y m 1 (month_length y m)

-- how many working days a month has
abbrev pub working_count : ℕ → ℕ → ℕ
working_count y m = length (working_days y m)

-- the n-th working day of a month by its day of the month, and 0 where the month has fewer
unfoldable pub nth_of_month : ℕ → ℕ → ℕ → ℕ
nth_of_month y m n = get_or (working_days y m) (n - 1) 0

-- the number of the n-th working day of month m of year y
abbrev pub nth_working_day : ℕ → ℕ → ℕ → ℕ
nth_working_day y m n = day_number y m (nth_of_month y m n)
