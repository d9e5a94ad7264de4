-- Laws of products: their spans and their deadlines, as the calendar answers them.
-- Assumes nothing.
use mathlib.Core.Path.{◌≡◌, refl}
use mathlib.Core.Bool.{Bool, true, false, cond, and-true, and-false}
use Prim.Native.Nat.{ℕ}
use native.Mathlib.Omega.{arith}
use borrow.Author.Tests.{le-leb}
use Rattle.std.specs.Prelude.{Some, None}
use Rattle.std.specs.Bool.{then_some}
use Rattle.calendar.specs.declared.thermal_years.Span.{Span}
use Rattle.days.specs.Days.{between}
use Rattle.calendar.specs.ThermalYears.{span, thermal_first, thermal_last, is_thermal_year, in_thermal_year, is_thermal_month, calendar_year, calendar_month}
use Rattle.calendar.specs.Answers.{month_answer}
use Rattle.days.proofs.Ranges.{month_of_test}
use Rattle.std.proofs.lemmas.Bool.{and_from as both}
use Rattle.days.proofs.DateLaws.{month_least}
use Rattle.calendar.proofs.ThermalYearLaws.{month_days, thermal_month_from, thermal_month_to}
use Rattle.spans.specs.Spans.{arrives, span_fits, annual_answer}
use Rattle.spans.proofs.SpanLaws.{span_fits_lem, arrival_year, timely_own, timely_preceding}
use Rattle.products.specs.declared.products.Product.{Product}
use Rattle.products.specs.declared.products.Product.TheVariants.{Annual, Month, Day}
use Rattle.products.specs.Products.{first_of, last_of, month_ok, deadline, is_in_time, span_answer, time_answer}

month_in : (y a m : ℕ) → arrives y a ≡ true → between 1 12 m ≡ true → is_thermal_month y m ≡ true
month_in y a m h b = both (is_thermal_year y) (between 1 12 m) (arrival_year y a h) b

-- ---- question 9
-- what the calendar answers is the question, where the arrival and the month passed the questions before it
pub time_asked : (y a : ℕ) (k : Product) → arrives y a ≡ true → month_ok k ≡ true → time_answer y a k ≡ is_in_time y a k
time_asked y a Annual h o = timely_own y a deadline h refl
time_asked y a (Month m) h o = timely_preceding y a m deadline h (month_in y a m h o) refl
time_asked y a (Day d) h o = refl

-- ---- question 8
then_some_lem : (t : Bool) (s : Span) → cond t (Some s) None ≡ then_some t s
then_some_lem true s = refl
then_some_lem false s = refl

pub no_arrival : (y a : ℕ) (k : Product) → arrives y a ≡ false → span_answer y a k ≡ None
unfolding span_answer
no_arrival y a k h = rw (h, and-false)

module _ (y a : ℕ) (h : arrives y a ≡ true) where
  pub annual_span : span_answer y a Annual ≡ annual_answer y a
  unfolding span_answer annual_answer
  annual_span = rw (h, arrival_year y a h)

  pub month_span : (m : ℕ) → span_answer y a (Month m) ≡ month_answer y m
  unfolding span_answer month_answer
  month_span m = go (between 1 12 m) refl
    where
      go : (t : Bool) → between 1 12 m ≡ t → span_answer y a (Month m) ≡ month_answer y m
      go true b =
          let t = month_in y a m h b in
          let w = month_of_test 2098 y m t in
          let from = thermal_month_from y m w in
          let to = thermal_month_to y m w in
          let some = month_least (calendar_year y m) (calendar_month m) in
          let f : span_fits y (first_of y a (Month m)) (last_of y a (Month m)) ≡ true =
          span_fits_lem y (first_of y a (Month m)) (last_of y a (Month m))
          (record { begins = omega (arith, from); ordered = omega (arith, month_days y m, some, to); ends = omega (arith, to) }) in
          rw (h, t, b, f)
      go false b = rw (arrival_year y a h, b)

  pub day_span_lem : (d : ℕ) → span_answer y a (Day d) ≡ then_some (in_thermal_year y d) (span d d)
  unfolding span_answer
  day_span_lem d = rw (h, arrival_year y a h, le-leb d d (omega arith), and-true) (then_some_lem (between (thermal_first y) (thermal_last y) d) (span d d))

-- how `span_of` comes to its answer
pub ruleset spans_by = (no_arrival, annual_span, month_span, day_span_lem)
