-- Cases p1 to p12 of document 01 and its example of the runner, computed from the calls' fields by what the reckoning expects. No register
-- and no table is computed.
-- Assumes nothing.
use mathlib.Core.Path.{◌≡◌, refl, ap, ◌∙◌}
use mathlib.Core.Bool.{true}
use mathlib.Core.List.{List, [], ◌∷◌}
use Prim.Native.Nat.{ℕ}
use Rattle.days.specs.Days.{month_length, days_before, month_start, date_from, year_of, date_of}
use Rattle.calendar.specs.ThermalYears.{thermal_last}
use Rattle.calendar.specs.Deadlines.{next_first, own_deadline}
use Rattle.working_days.specs.WorkingDays.{
  gauss_a,
  gauss_b,
  gauss_c,
  gauss_d,
  gauss_e,
  easter_offset,
  fixed_holiday,
  working_from,
  working_days,
  nth_of_month,
}
use Rattle.calendar.proofs.Cases.{cases}
use Rattle.parts.specs.Tests.{all_below, some_below}
use Rattle.parts.specs.Charges.{charge}
use Rattle.amounts.specs.Ranges.{replaced, sum_below}
use Rattle.expected.specs.Smallest.{smallest_of}
use Rattle.amounts.specs.Amounts.{span_days}
use Rattle.register.specs.Fresh.{fresh_state}
use Rattle.products.specs.declared.products.Product.TheVariants.{Annual}
use Rattle.products.specs.Products.{first_of}
use Rattle.shares.specs.Batches.{named_before}
use Rattle.shares.specs.Shares.{free_of_year, list_of}
use Rattle.expected.specs.Calls.{Call, request_capacity, confer_batch, Answer, told, told_batch, answer, register_after}
use Rattle.expected.specs.Reckoning.{Reckoning, begin, grant_to}
use Rattle.expected.specs.Expected.{free_of_year_by, expected, expected_after, expected_answers}
use Rattle.expected.proofs.Answered.{free_year}
use Rattle.expected.proofs.Invariant.{Kept, kept_fresh}
use Rattle.expected.proofs.Theorem.{call_expected, list_answered, kept}
use Rattle.expected_cases.specs.Cases.{
  of_one,
  register_of_one,
  ample,
  of_three,
  register_of_three,
  annual_of_ten,
  batch_of_three,
  batch_of_two,
  ProvedCases,
  example,
  Example,
}

-- ---- by the fields of the calls, in 2023
abbrev comes_to : List Call → Reckoning
comes_to before = expected_after (begin 2023) before

record Computed : Type 0 where
  runner : expected_answers (begin 2000) example ≡ told 0 0 ∷ told 0 0 ∷ told 0 0 ∷ told 0 600 ∷ told 0 400 ∷ told 12 0 ∷ []
  first : first_of 2023 8689 Annual ≡ 8705
  late : expected (comes_to (of_one ample)) (request_capacity (annual_of_ten 8690)) ≡ told 9 0
  early : expected (comes_to (of_one ample)) (request_capacity (annual_of_ten 8643)) ≡ told 8 0
  charged : charge 10 (span_days 8705 (thermal_last 2023)) 100 ≡ 335000
  uncovered : expected (comes_to (of_one 334999)) (request_capacity (annual_of_ten 8689)) ≡ told 11 0
  covered : expected (comes_to (of_one 335000)) (request_capacity (annual_of_ten 8689)) ≡ told 0 10
  opened : (comes_to of_three).is_open 0 ≡ true
  free : free_of_year_by (comes_to of_three) 0 ≡ 1000
  three : expected (comes_to of_three) (confer_batch (batch_of_three 700 500 300) 3 3) ≡ told_batch 0 (466 ∷ 333 ∷ 200 ∷ []) (0 ∷ 0 ∷ 0 ∷ [])
  two : expected (comes_to of_three) (confer_batch (batch_of_two 700 300) 2 2) ≡ told_batch 0 (700 ∷ 300 ∷ []) (0 ∷ 0 ∷ [])

computed : Computed
unfolding all_below some_below replaced sum_below smallest_of grant_to list_of named_before month_length days_before month_start date_from year_of date_of next_first own_deadline gauss_a gauss_b gauss_c gauss_d gauss_e easter_offset fixed_holiday working_from working_days nth_of_month
computed =
    record {
      runner = refl;
      first = refl;
      late = refl;
      early = refl;
      charged = refl;
      uncovered = refl;
      covered = refl;
      opened = refl;
      free = refl;
      three = refl;
      two = refl;
    }

-- ---- what the register answers
kept_2023 : (before : List Call) → Kept (register_after 2023 before) (comes_to before)
kept_2023 before = kept 2023 refl before

by_fields : (before : List Call) (c : Call) (a : Answer) → expected (comes_to before) c ≡ a → answer (register_after 2023 before) c ≡ a
by_fields before c a e = call_expected (register_after 2023 before) (comes_to before) c (kept_2023 before) ∙ e

p10_answer : answer (register_of_one 335000) (request_capacity (annual_of_ten 8689)) ≡ told 0 10
p10_answer = by_fields (of_one 335000) (request_capacity (annual_of_ten 8689)) (told 0 10) computed.covered

p11_answer : answer register_of_three (confer_batch (batch_of_three 700 500 300) 3 3) ≡ told_batch 0 (466 ∷ 333 ∷ 200 ∷ []) (0 ∷ 0 ∷ 0 ∷ [])
p11_answer = by_fields of_three (confer_batch (batch_of_three 700 500 300) 3 3) _ computed.three

p12_answer : answer register_of_three (confer_batch (batch_of_two 700 300) 2 2) ≡ told_batch 0 (700 ∷ 300 ∷ []) (0 ∷ 0 ∷ [])
p12_answer = by_fields of_three (confer_batch (batch_of_two 700 300) 2 2) _ computed.two

-- "prints, whole"
pub example_answers : Example
example_answers = list_answered (fresh_state 2000) (begin 2000) example (kept_fresh 2000 refl) ∙ computed.runner

-- F
p11_free : free_of_year register_of_three 0 ≡ 1000
p11_free =
    let agrees = (kept_2023 of_three).agrees in
    free_year register_of_three (comes_to of_three) agrees 0 (agrees.opened 0 ∙ computed.opened) ∙ computed.free

-- ---- the table
abbrev number : Answer → ℕ
number a = a.number

pub proved_cases : ProvedCases
proved_cases =
    record {
      p1 = cases.p1;
      p1_sunday = cases.p1_sunday;
      p2 = cases.p2;
      p3 = cases.p3;
      p4 = cases.p4;
      p5 = cases.p5;
      p6 = cases.p6;
      p7 = cases.p7;
      p7_sixteenth = cases.p7_sixteenth;
      p8 = computed.first;
      p8_late = ap number (by_fields (of_one ample) (request_capacity (annual_of_ten 8690)) (told 9 0) computed.late);
      p9 = ap number (by_fields (of_one ample) (request_capacity (annual_of_ten 8643)) (told 8 0) computed.early);
      p10 = computed.charged;
      p10_uncovered = ap number (by_fields (of_one 334999) (request_capacity (annual_of_ten 8689)) (told 11 0) computed.uncovered);
      p10_covered = ap number p10_answer;
      p10_granted = ap (λ (a : Answer). a.amount) p10_answer;
      p11_free = p11_free;
      p11 = ap (λ (a : Answer). a.shares) p11_answer;
      p11_number = ap number p11_answer;
      p11_numbers = ap (λ (a : Answer). a.numbers) p11_answer;
      p12 = ap (λ (a : Answer). a.shares) p12_answer;
      p12_number = ap number p12_answer;
      p12_numbers = ap (λ (a : Answer). a.numbers) p12_answer;
    }
