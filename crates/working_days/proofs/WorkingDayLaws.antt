-- Laws of Easter and of working days. Every month of the calendar has at least 18 working days: one test that antt computes over
-- its 1,200 months.
-- Assumes nothing.
use Prim.Native.Nat.{ℕ, zero, suc, ◌+◌, ◌-◌, ◌*◌, ◌/◌, ◌%◌, ◌≤◌, ◌<◌}
use mathlib.Core.Bool.{Bool, true, false, cond, ◌&&◌, ◌||◌}
use mathlib.Core.Path.{◌≡◌, refl, sym, ap, ◌∙◌}
use mathlib.Core.List.{List, ◌∷◌}
use native.Mathlib.Omega.{arith}
use lib.Dec.{leb, ltb, eqb, T, leb→le, eqb→eq}
use lib.ListN.{length, get_or}
use Rattle.std.specs.List.{filter, sum_by, range_with_len}
use Rattle.std.proofs.lemmas.List.FromFn.{length-range_with_len}
use Rattle.std.proofs.lemmas.List.Sums.{length-filter, count_by-le-length}
use borrow.Author.Tests.{ltb-true, ltb-false, eqb-true}
use Rattle.days.specs.Days.{last_day, between, is_year, is_month, month_length, days_before, month_start, weekday, date, date_of}
use Rattle.working_days.specs.WorkingDays.{gauss_a, gauss_b, gauss_c, gauss_d, gauss_e, week_earlier, easter_offset, easter_sunday, fixed_holiday, working, working_day, keep_if, working_from, working_days, working_count, nth_of_month, nth_working_day}
use Rattle.working_days.proofs.Every.{every, at}
use Rattle.days.proofs.Ranges.{Within, Month, cond_le, within, month_of_test, and_left, and_right}
use Rattle.days.proofs.DateLaws.{month_least, month_most, month_next, month_mono, month_in, month_of_lem, year_end}

-- in an exception of the rule d is 28 or 29, so that a week can be taken away
pub week_fits : (a d e : ℕ) → week_earlier a d e ≡ true → 7 ≤ d
week_fits a d e t = go (eqb d 29) (eqb d 28) refl refl t
  where
    go : (p q : Bool) → eqb d 29 ≡ p → eqb d 28 ≡ q → ((p && eqb e 6) || (q && (eqb e 6 && ltb 10 a))) ≡ true → 7 ≤ d
    go true q h k t = omega (arith, eqb-true d 29 h)
    go false true h k t = omega (arith, eqb-true d 28 k)
    go false false h k t = let z : ◌≡◌ {A = ℕ} 0 1 = cc in omega arith

-- Easter is at most 35 days after 22 March
pub easter_near : (y : ℕ) → easter_offset y ≤ 35
unfolding easter_offset gauss_a gauss_b gauss_c gauss_d gauss_e
easter_near y = cond_le (week_earlier (gauss_a y) (gauss_d y) (gauss_e y)) _ _ 35 (omega arith) (omega arith)

-- Easter and the day after it lie in the calendar
pub easter_last : (y : ℕ) → Within 2000 2099 y → easter_sunday y + 1 ≤ last_day
easter_last y w =
    omega (arith, w.from, w.to, easter_near y, month_next y 3 (omega arith), month_next y 4 (omega arith), month_next y 5 (omega arith), month_least y 3, month_least y 4, month_least y 5, month_mono y 6 13 (omega arith) (omega arith), year_end y w.from)

pub easter_fits : (y : ℕ) → is_year y ≡ true → easter_sunday y ≤ last_day
easter_fits y h = omega (arith, easter_last y (within 2000 2099 y h))

-- Easter is a Sunday: one test over the calendar's 100 years
sunday : ℕ → Bool
sunday i = eqb (weekday (easter_sunday (2000 + i))) 6

all_sundays : T (every sunday 100)
unfolding sunday month_length days_before month_start gauss_a gauss_b gauss_c gauss_d gauss_e easter_offset
all_sundays = tt

pub easter_sunday_lem : (y : ℕ) → Within 2000 2099 y → weekday (easter_sunday y) ≡ 6
unfolding sunday
easter_sunday_lem y w =
    let p : 2000 + (y - 2000) ≡ y = omega (arith, w.from) in
    rw p at (eqb→eq (weekday (easter_sunday (2000 + (y - 2000)))) 6 (at sunday 100 all_sundays (y - 2000) (omega (arith, w.to))))

-- month i of the calendar, counted from January 2000, has at least 18 working days
enough : ℕ → Bool
enough i = leb 18 (working_count (2000 + i / 12) (1 + i % 12))

all_enough : T (every enough 1200)
unfolding enough month_length days_before month_start gauss_a gauss_b gauss_c gauss_d gauss_e easter_offset fixed_holiday working_from working_days
all_enough = tt

-- "Every month has at least 18 working days; this is shown, not tested for at run time."
pub eighteen : (y m : ℕ) → Month y m → 18 ≤ working_count y m
unfolding enough
eighteen y m w =
    let i : ℕ = 12 * (y - 2000) + (m - 1) in
    let p : 2000 + i / 12 ≡ y = omega (arith, w.year.from, w.month.from, w.month.to) in
    let q : 1 + i % 12 ≡ m = omega (arith, w.month.from, w.month.to) in
    rw (p, q) at (leb→le 18 (working_count (2000 + i / 12) (1 + i % 12)) (at enough 1200 all_enough i (omega (arith, w.year.to, w.month.to))))

-- of the working days among k days from day d on, each is one of these days
record Among (y m d k r : ℕ) : Type 0 where
  pub from : d ≤ r
  pub to : r < d + k
  pub works : working y m r ≡ true

among : (k y m d n : ℕ) → n < length (working_from y m d k) → Among y m d k (get_or (working_from y m d k) n 0)
unfolding working_from
among zero y m d n h = absurd (omega arith)
among (suc k) y m d n h = go (working y m d) refl n h (λ n h. among k y m (d + 1) n h)
  where
    go : (b : Bool) → working y m d ≡ b → (n : ℕ) → n < length (keep_if b d (working_from y m (d + 1) k)) → ((n : ℕ) → n < length (working_from y m (d + 1) k) → Among y m (d + 1) k (get_or (working_from y m (d + 1) k) n 0)) → Among y m d (suc k) (get_or (keep_if b d (working_from y m (d + 1) k)) n 0)
    go false e n h i = let f = i n h in record { from = omega arith; to = omega arith; works = f.works }
    go true e zero h i = record { from = omega arith; to = omega arith; works = e }
    go true e (suc n) h i = let f = i n (omega arith) in record { from = omega arith; to = omega arith; works = f.works }

-- day r of a month is one of its days, and a working day
pub record WorkingDayOf (y m r : ℕ) : Type 0 where
  pub day : Within 1 (month_length y m) r
  pub works : working y m r ≡ true

-- the n-th working day of a month that has so many lies in the month and is a working day
pub nth_in : (y m n : ℕ) → 1 ≤ n → n ≤ working_count y m → WorkingDayOf y m (nth_of_month y m n)
unfolding nth_of_month working_days
nth_in y m n a b =
    let f = among (month_length y m) y m 1 (n - 1) (omega arith) in
    record { day = record { from = f.from; to = omega arith }; works = f.works }

-- the same of its number, for a month of the calendar and n up to 18
pub record NthWorkingDay (y m a : ℕ) : Type 0 where
  pub from : month_start y m ≤ a
  pub to : a < month_start y m + month_length y m
  pub works : working_day a ≡ true

pub nth_working_day_lem : (y m n : ℕ) → Month y m → Within 1 18 n → NthWorkingDay y m (nth_working_day y m n)
nth_working_day_lem y m n w h =
    let f = nth_in y m n h.from (omega (arith, h.to, eighteen y m w)) in
    let r = nth_of_month y m n in
    let p : month_start y m ≤ nth_working_day y m n = omega arith in
    let q : nth_working_day y m n < month_start y m + month_length y m = omega (arith, f.day.from, f.day.to) in
    let s : nth_working_day y m n - month_start y m + 1 ≡ r = omega (arith, f.day.from) in
    let e : date_of (nth_working_day y m n) ≡ date y m r =
    month_of_lem y m (nth_working_day y m n) w.year.from w.month p q ∙ ap (λ (x : ℕ). date y m x) s in
    record { from = p; to = q; works = rw e f.works }

-- the n-th working day of a month of the calendar is a day of the calendar
pub nth_last : (y m n : ℕ) → Month y m → Within 1 18 n → nth_working_day y m n ≤ last_day
nth_last y m n w h = omega (arith, (nth_working_day_lem y m n w h).to, month_in y m w)

-- a month and an n within limits, as they are asked about: the month has so many working days, and the n-th lies in the calendar
pub record Asked (y m n : ℕ) : Type 0 where
  pub some : 1 ≤ n
  pub few : n ≤ working_count y m
  pub fits : nth_working_day y m n ≤ last_day

pub asked : (y m n : ℕ) → (is_month y m && between 1 18 n) ≡ true → Asked y m n
asked y m n h =
    let month = month_of_test 2099 y m (and_left (is_month y m) (between 1 18 n) h) in
    let nth = within 1 18 n (and_right (is_month y m) (between 1 18 n) h) in
    record { some = nth.from; few = omega (arith, nth.to, eighteen y m month); fits = nth_last y m n month nth }

-- a turn of the walk through the days before day e: day d is passed over, or is the first of the working days
step : (y m d e : ℕ) → d < e → working_from y m d (e - d) ≡ keep_if (working y m d) d (working_from y m (d + 1) (e - (d + 1)))
unfolding working_from
step y m d e h = let p : e - d ≡ suc (e - (d + 1)) = omega arith in rw p

pub passed_over : (y m d e : ℕ) → d < e → working y m d ≡ false → working_from y m d (e - d) ≡ working_from y m (d + 1) (e - (d + 1))
passed_over y m d e h w = step y m d e h ∙ rw w

pub first_of : (y m d e : ℕ) → d < e → working y m d ≡ true → working_from y m d (e - d) ≡ d ∷ working_from y m (d + 1) (e - (d + 1))
first_of y m d e h w = step y m d e h ∙ rw w

-- past the last day none is left
pub none_left : (y m d e : ℕ) → e ≤ d → length (working_from y m d (e - d)) ≡ 0
unfolding working_from
none_left y m d e h = let p : e - d ≡ 0 = omega arith in rw p

-- where a working day is left, a day is left
day_left : (y m d e n : ℕ) → 1 ≤ n → n ≤ length (working_from y m d (e - d)) → d < e
day_left y m d e n a b = go (ltb d e) refl
  where
    go : (t : Bool) → ltb d e ≡ t → d < e
    go true u = ltb-true d e u
    go false u = absurd (omega (arith, a, b, none_left y m d e (ltb-false d e u)))

-- day r is the k-th working day from day d on, before day e
pub record Sought (y m e r d k : ℕ) : Type 0 where
  pub some : 1 ≤ k
  pub left : k ≤ length (working_from y m d (e - d))
  pub is : get_or (working_from y m d (e - d)) (k - 1) 0 ≡ r

pub sought_first : (y m n : ℕ) → 1 ≤ n → n ≤ working_count y m → Sought y m (month_length y m + 1) (nth_of_month y m n) 1 n
unfolding nth_of_month working_days
sought_first y m n h k =
    let e : month_length y m + 1 - 1 ≡ month_length y m = omega arith in
    record { some = h; left = rw e k; is = rw e refl }

pub sought_left : (y m e r d k : ℕ) → Sought y m e r d k → d < e
sought_left y m e r d k s = day_left y m d e k s.some s.left

-- by then no more days have passed than a month has
pub sought_day : (y m r d k : ℕ) → Sought y m (month_length y m + 1) r d k → d ≤ 31
sought_day y m r d k s = omega (arith, sought_left y m (month_length y m + 1) r d k s, month_most y m)

pub sought_here : (y m e r d k : ℕ) → Sought y m e r d k → working y m d ≡ true → k ≡ 1 → d ≡ r
sought_here y m e r d k s w p = rw (p, first_of y m d e (sought_left y m e r d k s) w) at s.is

pub sought_pass : (y m e r d k : ℕ) → Sought y m e r d k → working y m d ≡ false → Sought y m e r (d + 1) k
sought_pass y m e r d k s w =
    let p = passed_over y m d e (sought_left y m e r d k s) w in
    record { some = s.some; left = rw p at s.left; is = rw p at s.is }

pub sought_next : (y m e r d k : ℕ) → Sought y m e r d k → working y m d ≡ true → (k ≡ 1 → ⊥) → Sought y m e r (d + 1) (k - 1)
sought_next y m e r d k s w n =
    let p = first_of y m d e (sought_left y m e r d k s) w in
    let q : k - 1 ≡ suc (k - 1 - 1) = omega (arith, s.some) in
    record { some = omega (arith, s.some); left = omega (arith, rw p at s.left); is = rw (p, q) at s.is }

-- the working days among k days from day d on are what a filter keeps of these
kept : (b : Bool) (d : ℕ) (l : List ℕ) → cond b (d ∷ l) l ≡ keep_if b d l
kept true d l = refl
kept false d l = refl

working_kept : (y m d k : ℕ) → filter (working y m) (range_with_len d k) ≡ working_from y m d k
unfolding working_from
working_kept y m d zero = refl
working_kept y m d (suc k) = rw (working_kept y m (d + 1) k) (kept (working y m d) d (working_from y m (d + 1) k))

-- of a whole month, and as a sum to which each working day adds 1
pub month_kept : (y m : ℕ) → length (filter (working y m) (range_with_len 1 (month_length y m))) ≡ working_count y m
unfolding working_days
month_kept y m = ap length (working_kept y m 1 (month_length y m))

pub month_sum : (y m : ℕ) → sum_by (λ d. cond (working y m d) 1 0) (range_with_len 1 (month_length y m)) ≡ working_count y m
month_sum y m = sym (length-filter (working y m) (range_with_len 1 (month_length y m))) ∙ month_kept y m

-- a month has no more working days than days
pub month_few : (y m : ℕ) → working_count y m ≤ 31
month_few y m =
    let days = range_with_len 1 (month_length y m) in
    omega (arith, month_sum y m, count_by-le-length (working y m) days, length-range_with_len 1 (month_length y m), month_most y m)

-- of the walk: where it begins, what is found, and that a byte counts the days that it passes
pub ruleset sought_turns = (sought_day, sought_left, sought_here)
