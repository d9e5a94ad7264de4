-- Cases p8, p9 and p10 of document 01.
-- Assumes nothing.
use mathlib.Core.Path.{◌≡◌, refl, sym, ap, ap₂, ◌∙◌}
use mathlib.Core.Bool.{Bool, true, false}
use mathlib.Core.Logic.{⊎_elim}
use Prim.Native.Nat.{ℕ, ◌+◌, ◌≤◌, ◌<◌}
use native.Mathlib.Omega.{arith}
use lib.Dec.{leb, ltb}
use lib.ListN.{get_or}
use borrow.Author.Tests.{le-leb}
use Rattle.days.specs.Days.{month_length, days_before, month_start, date_from, year_of, date_of}
use Rattle.working_days.specs.WorkingDays.{gauss_a, gauss_b, gauss_c, gauss_d, gauss_e, easter_offset, fixed_holiday, working_from, working_days, nth_of_month}
use Rattle.calendar.specs.ThermalYears.{in_thermal_year}
use Rattle.calendar.specs.Deadlines.{next_first, own_deadline}
use Rattle.parts.specs.Limits.{line_count}
use Rattle.parts.specs.Registers.{State}
use Rattle.amounts.specs.Amounts.{span_days, entry_of, free_on}
use Rattle.parts.specs.Charges.{charge}
use Rattle.parts.specs.Points.{is_open}
use Rattle.parts.specs.Accounts.{is_on_file}
use Rattle.amounts.proofs.RangeLaws.{least_is}
use Rattle.amounts.proofs.CalendarLaws.{day_in_lem}
use Rattle.order.specs.Order.{in_order}
use Rattle.spans.specs.Spans.{arrives}
use Rattle.conferral.specs.Bookings.{covers, lines_left}
use Rattle.spans.proofs.SpanLaws.{SpanFacts, span_facts}
use Rattle.products.specs.declared.products.Product.{Product}
use Rattle.products.specs.declared.products.Product.TheVariants.{Annual}
use Rattle.products.specs.declared.products.Request.{Request}
use Rattle.products.specs.Products.{first_of, last_of, is_offered, is_in_year, is_in_time}
use Rattle.request_decision.specs.RequestQuestions.{request_fields, span_first, span_last, days_asked, span_place, point_of, account_of, charge_asked, free_throughout, amount_granted}
use Rattle.requests.specs.RequestCapacity.{request_number, request_amount}
use Rattle.request_decision.proofs.RequestLaws.{granted_free}
use Rattle.requests.proofs.AnswerLaws.{passes_answered, granted_le, accepted_amount}

-- ---- what the calendar says
-- (p8) "Annual arrival 8,689 starts 8,705"
pub p8 : first_of 2023 8689 Annual ≡ 8705
unfolding next_first date_of date_from year_of month_start days_before month_length
p8 = refl

in_year_both : (is_in_year 2023 8689 Annual ≡ true) × (is_in_year 2023 8690 Annual ≡ true)
unfolding next_first date_of date_from year_of month_start days_before month_length
in_year_both = (refl, refl)

timely_both : (is_in_time 2023 8689 Annual ≡ true) × (is_in_time 2023 8690 Annual ≡ false)
unfolding own_deadline nth_of_month working_days working_from fixed_holiday easter_offset gauss_a gauss_b gauss_c gauss_d gauss_e date_of date_from year_of month_start days_before month_length
timely_both = (refl, refl)

too_early : arrives 2023 8643 ≡ false
unfolding month_start days_before month_length
too_early = refl

-- (p10) "Amount 10 from 8,705 at rate 100 charges 335,000"
pub p10 : charge 10 (span_days (first_of 2023 8689 Annual) (last_of 2023 8689 Annual)) 100 ≡ 335000
unfolding next_first date_of date_from year_of month_start days_before month_length
p10 = refl

-- ---- what a request is answered
-- what is free on every day of the year is granted whole
granted_whole : (s : State) (q : Request) → is_in_year s.register.year q.arrival q.product ≡ true
    → ((d : ℕ) → in_thermal_year s.register.year d ≡ true → q.amount ≤ free_on s q.point d) → amount_granted s.register s.free q ≡ q.amount
unfolding amount_granted
granted_whole s q h free =
    ⊎_elim (λ e. e) (λ t. omega (arith, granted_le s q, t.1.1, here t.0 t.1.0))
    (least_is s.free (span_place s.register q) q.amount (days_asked s.register q))
  where
    y : ℕ
    y = s.register.year

    span : SpanFacts y q.arrival (span_first s.register q) (span_last s.register q)
    span = span_facts y q.arrival (span_first s.register q) (span_last s.register q) h

    here : (k : ℕ) → k < days_asked s.register q → q.amount ≤ get_or s.free (span_place s.register q + k) 0
    here k b =
        let d = span_first s.register q + k in
        let at : entry_of y q.point d ≡ span_place s.register q + k = omega (arith, span.fit.begins) in
        rw (← at) (free d (day_in_lem y d span.year (omega (arith, span.fit.begins)) (omega (arith, span.fit.ends, b))))

module _ (s : State) (q : Request) (y : s.register.year ≡ 2023) (one : in_order s ≡ true) (two : request_fields q ≡ true)
    (three : is_open (point_of s.register q) ≡ true) (five : is_on_file (account_of s.register q) ≡ true) where
  -- the same of the request as of its fields
  by_fields : (F : ℕ → ℕ → Product → Bool) (a : ℕ) (k : Product) → q.arrival ≡ a → q.product ≡ k → F s.register.year q.arrival q.product ≡ F 2023 a k
  by_fields F a k e h =
      ap (λ (x : ℕ). F x q.arrival q.product) y
      ∙ ap₂ (F 2023) e h

  -- (p8) "8,690 gives 9"
  pub p8_late : q.product ≡ Annual → q.arrival ≡ 8690 → request_number s q ≡ 9
  unfolding request_number
  p8_late k a =
      let seven : is_offered (point_of s.register q) q.product ≡ true = ap (is_offered (point_of s.register q)) k in
      rw (one, two, three, five, seven, by_fields is_in_year 8690 Annual a k ∙ in_year_both.1, by_fields is_in_time 8690 Annual a k ∙ timely_both.1)

  -- (p9) "Arrival 8,643 in 2023 gives 8."
  pub p9 : is_offered (point_of s.register q) q.product ≡ true → q.arrival ≡ 8643 → request_number s q ≡ 8
  unfolding request_number
  p9 seven a = rw (one, two, three, five, seven, ap₂ arrives y a ∙ too_early)

  module _ (k : q.product ≡ Annual) (a : q.arrival ≡ 8689) (amount : q.amount ≡ 10) (rate : (point_of s.register q).rate ≡ 100)
      (commitment : (account_of s.register q).commitment ≡ 0) where
    seven : is_offered (point_of s.register q) q.product ≡ true
    seven = ap (is_offered (point_of s.register q)) k

    eight : is_in_year s.register.year q.arrival q.product ≡ true
    eight = by_fields is_in_year 8689 Annual a k ∙ in_year_both.0

    nine : is_in_time s.register.year q.arrival q.product ≡ true
    nine = by_fields is_in_time 8689 Annual a k ∙ timely_both.0

    -- what question 11 comes to
    eleven : (g : ℕ) → (account_of s.register q).guarantee ≡ g → covers (account_of s.register q) (charge_asked s.register q) ≡ leb 335000 g
    eleven g guarantee =
        let days : days_asked s.register q ≡ span_days (first_of 2023 8689 Annual) (last_of 2023 8689 Annual) =
        ap (λ (x : ℕ). span_days (first_of x q.arrival q.product) (last_of x q.arrival q.product)) y
        ∙ ap₂ (λ (x : ℕ) (p : Product). span_days (first_of 2023 x p) (last_of 2023 x p)) a k in
        let cost : charge_asked s.register q ≡ 335000 = ap₂ (λ (n m : ℕ). charge n m (point_of s.register q).rate) amount days ∙ ap (charge 10 (span_days (first_of 2023 8689 Annual) (last_of 2023 8689 Annual))) rate ∙ p10 in
        ap₂ (λ (n m : ℕ). leb (n + charge_asked s.register q) m) commitment guarantee ∙ ap (λ (n : ℕ). leb (0 + n) g) cost

    -- (p10) "guarantee 334,999 gives 11"
    pub p10_uncovered : (account_of s.register q).guarantee ≡ 334999 → request_number s q ≡ 11
    unfolding request_number
    p10_uncovered guarantee = rw (one, two, three, five, seven, eight, nine, eleven 334999 guarantee)

    -- and 335,000 is enough, where a line is left and the amount is free on every day of the year
    pub p10_covered : (account_of s.register q).guarantee ≡ 335000 → s.register.lines < line_count
        → ((d : ℕ) → in_thermal_year s.register.year d ≡ true → q.amount ≤ free_on s q.point d)
        → (request_number s q ≡ 0) × (request_amount s q ≡ 10)
    p10_covered guarantee line free =
        let whole = granted_whole s q eight free in
        let twelve : free_throughout s.register s.free q ≡ true =
        sym (granted_free s.register s.free q (omega (arith, amount))) ∙ ap (ltb 0) (whole ∙ amount) in
        let thirteen : lines_left s.register 1 ≡ true = le-leb (s.register.lines + 1) line_count (omega arith) in
        let accepted = passes_answered s q (one, (two, (three, (five, (seven, (eight, (nine, (eleven 335000 guarantee, (twelve, (thirteen, tt)))))))))) in
        (accepted, accepted_amount s q accepted ∙ whole ∙ amount)
