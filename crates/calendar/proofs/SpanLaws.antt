-- What the answers say of the span of a thermal year, and of its months.
-- Assumes nothing.
use mathlib.Core.Path.{◌≡◌, refl, sym, ap}
use mathlib.Core.Bool.{Bool, true, false, cond, true≢false}
use Prim.Native.Nat.{ℕ, ◌≤◌}
use native.Mathlib.Omega.{arith}
use Rattle.std.specs.Prelude.{Some, None, is_some, unwrap_or}
use Rattle.days.specs.declared.dates.Month.{Month}
use Rattle.days.specs.Days.{last_day, between, is_month, month_length, month_start, day_number}
use Rattle.calendar.specs.declared.thermal_years.Span.{Span}
use Rattle.calendar.specs.ThermalYears.{span, is_thermal_year, in_thermal_year, thermal_first, thermal_last, YearSpan, is_thermal_month, calendar_year, calendar_month, thermal_month_first, thermal_month_last}
use Rattle.calendar.specs.Answers.{year_answer, month_answer, calendar_answer, span_of_month}
use Rattle.days.proofs.Ranges.{month_of_test, is_month_lem}
use Rattle.days.proofs.DateLaws.{month_least, month_in}
use Rattle.calendar.proofs.ThermalYearLaws.{calendar_month_lem}

-- what is there where a test holds
module _ {A : Type 0} (t : Bool) (x : A) where
  pub chosen : (a : A) → cond t (Some x) None ≡ Some a → (t ≡ true) × (a ≡ x)
  chosen a h = go t h
    where
      go : (u : Bool) → cond u (Some x) None ≡ Some a → (u ≡ true) × (a ≡ x)
      go true e = (refl, sym (ap (λ o. unwrap_or o x) e))
      go false e = absurd (true≢false (sym (ap is_some e)))

  pub unchosen : cond t (Some x) None ≡ None → t ≡ false
  unchosen h = go t h
    where
      go : (u : Bool) → cond u (Some x) None ≡ None → u ≡ false
      go true e = absurd (true≢false (ap is_some e))
      go false e = refl

-- the span of a thermal year, as it is answered
pub year_span : (y : ℕ) (s : Span) → year_answer y ≡ Some s → YearSpan y s.first s.last
unfolding year_answer
year_span y s h =
    let r = chosen (is_thermal_year y) (span (thermal_first y) (thermal_last y)) s h in
    record { year = r.0; begins = ap (λ (x : Span). x.first) r.1; ends = ap (λ (x : Span). x.last) r.1 }

pub no_year : (y : ℕ) → year_answer y ≡ None → is_thermal_year y ≡ false
unfolding year_answer
no_year y h = unchosen (is_thermal_year y) (span (thermal_first y) (thermal_last y)) h

-- the first day of a month, as it is answered
pub month_begins : (y k : ℕ) (s : Span) → month_answer y k ≡ Some s → s.first ≡ thermal_month_first y k
unfolding month_answer
month_begins y k s h =
    ap (λ (x : Span). x.first) (chosen (is_thermal_month y k) (span (thermal_month_first y k) (thermal_month_last y k)) s h).1

pub no_month : (y k : ℕ) → month_answer y k ≡ None → is_thermal_month y k ≡ false
unfolding month_answer
no_month y k h = unchosen (is_thermal_month y k) (span (thermal_month_first y k) (thermal_month_last y k)) h

-- whether a day lies in a thermal year, by the span that is answered
pub day_tested : (y d : ℕ) (s : Span) → year_answer y ≡ Some s → between s.first s.last d ≡ in_thermal_year y d
day_tested y d s h = let w = year_span y s h in rw (w.year, w.begins, w.ends)

-- the ends of a month that is asked about lie in the calendar
pub record MonthEnds (y m : ℕ) : Type 0 where
  pub first : month_start y m ≤ last_day
  pub last : day_number y m (month_length y m) ≤ last_day

pub month_ends : (y m : ℕ) → is_month y m ≡ true → MonthEnds y m
month_ends y m h =
    let e = month_in y m (month_of_test 2099 y m h) in
    record { first = omega (arith, e, month_least y m); last = omega (arith, e, month_least y m) }

abbrev pub month_named : ℕ → ℕ → Month
month_named y k = record { year = calendar_year y k; month = calendar_month k }

-- the span of a month of a thermal year is that of the month of the calendar that it is
pub month_answered : (y k : ℕ) (m : Month) → calendar_answer y k ≡ Some m → month_answer y k ≡ span_of_month m.year m.month
unfolding calendar_answer span_of_month month_answer thermal_month_first thermal_month_last
month_answered y k m h =
    let r = chosen (is_thermal_month y k) (month_named y k) m h in
    rw (r.0, r.1, is_month_lem (calendar_year y k) (calendar_month k) (calendar_month_lem y k (month_of_test 2098 y k r.0)))

pub month_unanswered : (y k : ℕ) → calendar_answer y k ≡ None → month_answer y k ≡ None
unfolding calendar_answer month_answer
month_unanswered y k h = rw (unchosen (is_thermal_month y k) (month_named y k) h)

pub ruleset month_answers = (month_answered, month_unanswered)
