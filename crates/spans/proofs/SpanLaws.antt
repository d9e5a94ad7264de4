-- Laws of arrivals and of spans.
-- Assumes nothing.
use mathlib.Core.Path.{◌≡◌, refl, sym, ◌∙◌}
use mathlib.Core.Bool.{Bool, true, false, cond, ◌&&◌, and-true, and-false}
use Prim.Native.Nat.{ℕ, ◌+◌, ◌-◌, ◌≤◌, ◌<◌}
use native.Mathlib.Omega.{arith}
use lib.Dec.{leb}
use borrow.Author.Tests.{leb-true, leb-false, le-leb, lt-leb}
use Rattle.std.specs.Prelude.{Some, None, option_and_then}
use Rattle.calendar.specs.declared.thermal_years.Span.{Span}
use Rattle.calendar.specs.declared.deadlines.Timeliness.TheVariants.{InTime, Late}
use Rattle.days.specs.Days.{last_day, between, month_length, day_number}
use Rattle.calendar.specs.ThermalYears.{span, is_thermal_year, thermal_first, thermal_last, is_thermal_month}
use Rattle.calendar.specs.Deadlines.{next_first, in_time_own, in_time_preceding}
use Rattle.calendar.specs.Answers.{year_answer, day_in, next_first_answer, own_answer, preceding_answer}
use Rattle.days.proofs.Ranges.{and_left, and_right, within}
use Rattle.std.proofs.lemmas.Bool.{and_from as both}
use Rattle.days.proofs.DateLaws.{month_next}
use Rattle.calendar.proofs.SpanLaws.{year_span, no_year}
use Rattle.calendar.proofs.DeadlineLaws.{next_of, next_beyond}
use Rattle.amounts.proofs.CalendarLaws.{year_facts}
use Rattle.spans.specs.Spans.{arrives, span_fits, span_in_year, span_ok, span_where, annual_first, annual_last, annual_answer, is_timely}

-- 1 September lies 30 days before the year
pub september : (y : ℕ) → thermal_first y ≡ day_number y 9 1 + 30
unfolding month_length
september y = let n : month_length y 9 ≡ 30 = refl in omega (arith, month_next y 9 (omega arith), n)

last_itself : (y : ℕ) → leb (thermal_last y) (thermal_last y) ≡ true
last_itself y = le-leb _ _ (omega arith)

-- what the year's span, as the calendar answers it, says of an arrival, of a span and of the span to the year's end: the last begins
-- with the first of the next month, where the calendar has that and it is one of the year's days
module _ (y : ℕ) (s : Span) (w : year_answer y ≡ Some s) where
  pub after_september : 30 ≤ s.first
  after_september = omega (arith, (year_span y s w).begins, september y)

  pub arrives_in : (a : ℕ) → arrives y a ≡ (leb (s.first - 30) a && leb a s.last)
  arrives_in a =
      let x = year_span y s w in
      let e : s.first - 30 ≡ day_number y 9 1 = omega (arith, x.begins, september y) in
      rw (x.year, e, x.ends)

  pub fits_in : (first last : ℕ) → span_in_year y first last ≡ (leb s.first first && leb first last && leb last s.last)
  fits_in first last = let x = year_span y s w in rw (x.year, x.begins, x.ends)

-- the span to the year's end, from the first of the next month as the calendar answers it
pub annual_from : (y a : ℕ) → is_thermal_year y ≡ true
    → option_and_then (λ f. span_where (between (thermal_first y) (thermal_last y) f) f (thermal_last y)) (next_first_answer a) ≡ annual_answer y a
unfolding next_first_answer day_in annual_answer
annual_from y a h = go (leb (next_first a) last_day) refl
  where
    go : (t : Bool) → leb (next_first a) last_day ≡ t
        → option_and_then (λ f. span_where (between (thermal_first y) (thermal_last y) f) f (thermal_last y)) (cond t (Some (next_first a)) None)
        ≡ span_where (span_in_year y (next_first a) (thermal_last y)) (next_first a) (thermal_last y)
    go true e = rw (h, last_itself y, and-true)
    go false e =
        let past : leb (next_first a) (thermal_last y) ≡ false = lt-leb (next_first a) (thermal_last y) (omega (arith, leb-false (next_first a) last_day e, (year_facts y h).last)) in
        rw (h, past, and-false)

-- and so from the year's span as the calendar answers it
module _ (y : ℕ) (s : Span) (w : year_answer y ≡ Some s) (a : ℕ) where
  pub annual_within : (f : ℕ) → next_first_answer a ≡ Some f → between s.first s.last f ≡ true → annual_answer y a ≡ Some (span f s.last)
  annual_within f n h =
      let x = year_span y s w in
      let d : between (thermal_first y) (thermal_last y) f ≡ true = rw (← x.begins, ← x.ends) h in
      sym (annual_from y a x.year) ∙ rw (n, d, x.ends)

  pub annual_past : (f : ℕ) → next_first_answer a ≡ Some f → between s.first s.last f ≡ false → annual_answer y a ≡ None
  annual_past f n h =
      let x = year_span y s w in
      let d : between (thermal_first y) (thermal_last y) f ≡ false = rw (← x.begins, ← x.ends) h in
      sym (annual_from y a x.year) ∙ rw (n, d)

  pub annual_beyond : next_first_answer a ≡ None → annual_answer y a ≡ None
  annual_beyond n = sym (annual_from y a (year_span y s w).year) ∙ rw n

module _ (y : ℕ) (w : year_answer y ≡ None) where
  pub arrives_never : (a : ℕ) → arrives y a ≡ false
  arrives_never a = rw (no_year y w)

  pub fits_never : (first last : ℕ) → span_in_year y first last ≡ false
  fits_never first last = rw (no_year y w)

  pub annual_never : (a : ℕ) → annual_answer y a ≡ None
  unfolding annual_answer
  annual_never a = rw (no_year y w)

-- how the functions come to their answers
pub ruleset arrives_by = (after_september, arrives_in, arrives_never)

pub ruleset annual_by = (annual_within, annual_past, annual_beyond, annual_never)

pub ruleset fits_by = (fits_in, fits_never)

-- a span of the year, with a day left
pub record FitFacts (y first last : ℕ) : Type 0 where
  pub begins : thermal_first y ≤ first
  pub ordered : first ≤ last
  pub ends : last ≤ thermal_last y

module _ (y first last : ℕ) where
  pub fit_facts : span_fits y first last ≡ true → FitFacts y first last
  fit_facts h =
      let i = and_left (leb (thermal_first y) first && leb first last) (leb last (thermal_last y)) h in
      record {
        begins = leb-true _ _ (and_left (leb (thermal_first y) first) (leb first last) i);
        ordered = leb-true _ _ (and_right (leb (thermal_first y) first) (leb first last) i);
        ends = leb-true _ _ (and_right (leb (thermal_first y) first && leb first last) (leb last (thermal_last y)) h);
      }

  pub span_fits_lem : FitFacts y first last → span_fits y first last ≡ true
  span_fits_lem w = both _ _ (both _ _ (le-leb _ _ w.begins) (le-leb _ _ w.ordered)) (le-leb _ _ w.ends)

-- an arrival lies in the calendar, and its year is a thermal year
pub arrival_year : (y a : ℕ) → arrives y a ≡ true → is_thermal_year y ≡ true
arrival_year y a h = and_left (is_thermal_year y) (between (day_number y 9 1) (thermal_last y) a) h

arrival_in : (y a : ℕ) → arrives y a ≡ true → leb a last_day ≡ true
arrival_in y a h =
    let w = within (day_number y 9 1) (thermal_last y) a (and_right (is_thermal_year y) (between (day_number y 9 1) (thermal_last y) a) h) in
    le-leb a last_day (omega (arith, w.to, (year_facts y (arrival_year y a h)).last))

-- what question 8 tells
pub record SpanFacts (y a first last : ℕ) : Type 0 where
  pub year : is_thermal_year y ≡ true
  pub arrived : arrives y a ≡ true
  pub fit : FitFacts y first last

pub span_facts : (y a first last : ℕ) → span_ok y a first last ≡ true → SpanFacts y a first last
span_facts y a first last h =
    let p = and_left (arrives y a) (span_fits y first last) h in
    record {
      year = arrival_year y a p;
      arrived = p;
      fit = fit_facts y first last (and_right (arrives y a) (span_fits y first last) h);
    }

-- from an arrival in September Y the span begins with the year, and "A September Y+1 arrival leaves none"
pub september_first : (y a : ℕ) → 2000 ≤ y → day_number y 9 1 ≤ a → a < thermal_first y → annual_first a ≡ thermal_first y
september_first y a h from to =
    let e = next_of y 9 a h (record { from = omega arith; to = omega arith }) (omega (arith, from)) (omega (arith, to, month_next y 9 (omega arith))) in
    omega (arith, e)

pub september_none : (y a : ℕ) → 2000 ≤ y → day_number (y + 1) 9 1 ≤ a → span_ok y a (annual_first a) (annual_last y) ≡ false
september_none y a h from =
    let past : leb (next_first a) (thermal_last y) ≡ false = lt-leb (next_first a) (thermal_last y) (next_beyond y a h from) in
    rw (past, and-false, and-false)

-- whether an arrival is in time, as the calendar answers it
timely_if : (t : Bool) → is_timely (Some (cond t InTime Late)) ≡ t
timely_if true = refl
timely_if false = refl

-- by the n-th working day of the arrival's own month
pub timely_own : (y a n : ℕ) → arrives y a ≡ true → between 1 18 n ≡ true → is_timely (own_answer a n) ≡ in_time_own a n
unfolding own_answer
timely_own y a n h b = rw (arrival_in y a h, b) (timely_if (in_time_own a n))

-- and of the month before month m of the year
pub timely_preceding : (y a m n : ℕ) → arrives y a ≡ true → is_thermal_month y m ≡ true → between 1 18 n ≡ true → is_timely (preceding_answer a y m n) ≡ in_time_preceding a y m n
unfolding preceding_answer
timely_preceding y a m n h k b = rw (arrival_in y a h, k, b) (timely_if (in_time_preceding a y m n))
