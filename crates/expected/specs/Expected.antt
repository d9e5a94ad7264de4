-- Document 01, "Questions put to a call", asked of the reckoning of the calls before it: what each call should be answered. No register is
-- seen. Where the register's definitions have a name for the same thing, it is mostly that name with By behind it.
-- Question 1 is not among the questions, nor the 1 "also given after question 10": no call of a list from a fresh register is refused by
-- them. What is asked of a call's fields and of the calendar alone, what is charged, how F is shared out, and the forms are the register's
-- own definitions, and so are not judged here. None of them takes a register:
--   question 2: open_fields, place_fields, request_fields, line_fields, batch_fields, cession_fields, is_thermal_year, point_count
--   8, 9 and 14: is_in_year, is_in_time, span_ok, the cession's is_in_time, in_thermal_year, named_before
--   spans and days: annual_first, annual_last, thermal_first, span_days, year_days; in Reckoning first_of, last_of, thermal_last, between
--   charge; a batch's lines and what each gets of F: lines_of, user_of, asked_of, counted, share_if (by pro_quota), number_if, list_of
--   forms: Question, number_of, leaves, told, told_batch, all_below, smallest_of, sum_below; the number of ledger lines, line_count
-- Assumes nothing.
use Prim.Native.Nat.{ℕ, ◌+◌}
use mathlib.Core.Bool.{Bool, true, not, ◌&&◌}
use mathlib.Core.List.{List, [], ◌∷◌}
use lib.Dec.{leb, ltb, eqb}
use Rattle.calendar.specs.ThermalYears.{is_thermal_year, in_thermal_year, thermal_first}
use Rattle.parts.specs.Limits.{point_count, line_count}
use Rattle.parts.specs.Tests.{all_below}
use Rattle.parts.specs.Answers.{Question, ◌asks◌, number_of, leaves}
use Rattle.parts.specs.Charges.{charge}
use Rattle.amounts.specs.Ranges.{sum_below}
use Rattle.expected.specs.Smallest.{smallest_of}
use Rattle.amounts.specs.Amounts.{span_days, year_days}
use Rattle.spans.specs.Spans.{annual_first, annual_last, span_ok}
use Rattle.opening.specs.OpenPoint.{open_fields}
use Rattle.placing.specs.PlaceGuarantee.{place_fields}
use Rattle.products.specs.declared.products.Product.{Product}
use Rattle.products.specs.declared.products.Product.TheVariants.{Annual, Month, Day}
use Rattle.products.specs.declared.products.Request.{Request}
use Rattle.products.specs.Products.{is_in_year, is_in_time}
use Rattle.request_decision.specs.RequestQuestions.{request_fields}
use Rattle.shares.specs.Batches.{Batch, lines_of, user_of, asked_of, line_fields, named_before}
use Rattle.shares.specs.Shares.{counted, share_if, number_if, list_of}
use Rattle.shares.specs.ShareLines.{batch_fields}
use Rattle.cession_decision.specs.declared.deciding.Cession.{Cession}
use Rattle.cession_decision.specs.CessionQuestions.{cession_fields, is_in_time as is_cession_in_time}
use Rattle.expected.specs.Calls.{
  Call,
  open_point,
  place_guarantee,
  request_capacity,
  confer_batch,
  cede_capacity,
  turn_year,
  Answer,
  told,
  told_batch,
}
use Rattle.expected.specs.Reckoning.{
  Reckoning,
  free_by,
  charges,
  ceded_by,
  received_on,
  ceded_on,
  lines_used,
  ceded_charge,
  span_first_by,
  span_last_by,
  enter,
}

-- ---- open point, place guarantee, turn the year
-- 2, and 4: "When opening: is it closed?"
abbrev pub open_questions_by : Reckoning → ℕ → ℕ → ℕ → ℕ → List Question
open_questions_by k p kind total rate =
    2 asks open_fields p kind total rate
    ∷ 4 asks not (k.is_open p)
    ∷ []

-- 2, and 6: "Is the new guarantee at least the commitment?" The commitment is the charges of what the user was granted and took over, less
-- those of what he ceded
abbrev pub place_questions_by : Reckoning → ℕ → ℕ → List Question
place_questions_by k u g =
    2 asks place_fields u g
    ∷ 6 asks leb (charges k u) (g + ceded_by k u)
    ∷ []

-- 2, and 15: "Is the new year later?"
abbrev pub turn_questions_by : Reckoning → ℕ → List Question
turn_questions_by k y =
    2 asks is_thermal_year y
    ∷ 15 asks ltb k.year y
    ∷ []

-- ---- what several calls are asked
-- 11: "Does the guarantee cover commitment plus charge"
abbrev pub covers_by : Reckoning → ℕ → ℕ → Bool
covers_by k u c = leb (charges k u + c) (k.guarantee u + ceded_by k u)

-- 13: "Are there ledger lines left": n of them
abbrev pub lines_left_by : Reckoning → ℕ → Bool
lines_left_by k n = leb (lines_used k + n) line_count

-- ---- request
-- 7: "Is the kind offered? Direct points take annual requests only."; "1 direct"
abbrev pub is_offered_by : Reckoning → ℕ → Product → Bool
is_offered_by k p Annual = true
is_offered_by k p (Month m) = not (eqb (k.kind p) 1)
is_offered_by k p (Day d) = not (eqb (k.kind p) 1)

-- the days of the span
abbrev pub days_asked_by : Reckoning → Request → ℕ
days_asked_by k q = span_days (span_first_by k q) (span_last_by k q)

-- "charge of the asked amount"
abbrev pub charge_asked_by : Reckoning → Request → ℕ
charge_asked_by k q = charge q.amount (days_asked_by k q) (k.rate q.point)

-- free on the i-th day of the span, counted from 0
abbrev pub free_in_span : Reckoning → Request → ℕ → ℕ
free_in_span k q i = free_by k q.point (span_first_by k q + i)

-- 12: "Is anything free on every day of a request's span?"
abbrev pub free_throughout_by : Reckoning → Request → Bool
free_throughout_by k q = all_below (days_asked_by k q) (λ i. ltb 0 (free_in_span k q i))

abbrev pub request_questions_by : Reckoning → Request → List Question
request_questions_by k q =
    2 asks request_fields q
    ∷ 3 asks k.is_open q.point
    ∷ 5 asks k.on_file q.user
    ∷ 7 asks is_offered_by k q.point q.product
    ∷ 8 asks is_in_year k.year q.arrival q.product
    ∷ 9 asks is_in_time k.year q.arrival q.product
    ∷ 11 asks covers_by k q.user (charge_asked_by k q)
    ∷ 12 asks free_throughout_by k q
    ∷ 13 asks lines_left_by k 1
    ∷ []

-- "Granted is the asked amount, or the smallest free amount of the span if that is less."
abbrev pub amount_granted_by : Reckoning → Request → ℕ
amount_granted_by k q = smallest_of q.amount (free_in_span k q) (days_asked_by k q)

-- ---- batch
-- "A batch as a whole meets 1, 2 (point, lengths), 3, 13."
abbrev pub batch_questions_by : Reckoning → Batch → ℕ → ℕ → List Question
batch_questions_by k b m n =
    2 asks batch_fields b m n
    ∷ 3 asks k.is_open b.point
    ∷ 13 asks lines_left_by k (lines_of b)
    ∷ []

-- "Each line then meets 2, 14, 5, 11 in that order"; its charge is that of "the whole year"
abbrev pub line_questions_by : Reckoning → Batch → ℕ → List Question
line_questions_by k b i =
    2 asks line_fields (user_of b i) (asked_of b i)
    ∷ 14 asks not (named_before b.users i)
    ∷ 5 asks k.on_file (user_of b i)
    ∷ 11 asks covers_by k (user_of b i) (charge (asked_of b i) (year_days k.year) (k.rate b.point))
    ∷ []

-- the number that these give it
abbrev pub line_number_by : Reckoning → Batch → ℕ → ℕ
line_number_by k b i = number_of (line_questions_by k b i)

-- free on the i-th day of the year, counted from 0
abbrev pub free_in_year : Reckoning → ℕ → ℕ → ℕ
free_in_year k p i = free_by k p (thermal_first k.year + i)

-- "F is the smallest free amount of the year"
abbrev pub free_of_year_by : Reckoning → ℕ → ℕ
free_of_year_by k p = smallest_of (free_in_year k p 0) (free_in_year k p) (year_days k.year)

-- "S the sum of the asked amounts of the lines that pass 2, 14, 5 and 11"
abbrev pub sum_asked_by : Reckoning → Batch → ℕ
sum_asked_by k b = sum_below (lines_of b) (λ i. counted (line_number_by k b i) (asked_of b i))

-- "If S is at most F each gets what it asked, else asked × F / S rounded down"; "a refused line has share 0"
abbrev pub share_of_by : Reckoning → Batch → ℕ → ℕ
share_of_by k b i = share_if (free_of_year_by k b.point) (sum_asked_by k b) (line_number_by k b i) (asked_of b i)

-- "and 12 if its share is 0"
abbrev pub number_of_line_by : Reckoning → Batch → ℕ → ℕ
number_of_line_by k b i = number_if (line_number_by k b i) (share_of_by k b i)

-- ---- cession
-- a user holds an amount at a point on a day: what he was granted and took over there is at least the amount and what he ceded
abbrev pub holds_on_by : Reckoning → ℕ → ℕ → ℕ → ℕ → Bool
holds_on_by k u p amount d = leb (amount + ceded_on k u p d) (received_on k u p d)

-- 10: "Does the giver hold the amount on every day of the span?"
abbrev pub is_held_by : Reckoning → Cession → Bool
is_held_by k c =
    all_below (span_days (annual_first c.arrival) (annual_last k.year))
    (λ i. holds_on_by k c.giver c.point c.amount (annual_first c.arrival + i))

abbrev pub cession_questions_by : Reckoning → Cession → List Question
cession_questions_by k c =
    2 asks cession_fields c
    ∷ 3 asks k.is_open c.point
    ∷ 5 asks (k.on_file c.giver && k.on_file c.receiver)
    ∷ 8 asks span_ok k.year c.arrival (annual_first c.arrival) (annual_last k.year)
    ∷ 9 asks is_cession_in_time c
    ∷ 10 asks is_held_by k c
    ∷ 11 asks covers_by k c.receiver (ceded_charge k c)
    ∷ 13 asks lines_left_by k 2
    ∷ []

-- ---- what each call should be answered
abbrev pub questions_by : Reckoning → Call → List Question
questions_by k (open_point p kind total rate) = open_questions_by k p kind total rate
questions_by k (place_guarantee u g) = place_questions_by k u g
questions_by k (request_capacity q) = request_questions_by k q
questions_by k (confer_batch b m n) = batch_questions_by k b m n
questions_by k (cede_capacity c) = cession_questions_by k c
questions_by k (turn_year y) = turn_questions_by k y

-- "a "no" ends the call with its number"
abbrev pub number_by : Reckoning → Call → ℕ
number_by k c = number_of (questions_by k c)

-- "amount granted or ceded (else 0)", for a batch the shares and the numbers of its lines; "grant or reported figure 0" where the number is
-- not 0
abbrev pub expected : Reckoning → Call → Answer
expected k (open_point p kind total rate) = told (number_by k (open_point p kind total rate)) 0
expected k (place_guarantee u g) = told (number_by k (place_guarantee u g)) 0
expected k (request_capacity q) =
    told (number_by k (request_capacity q)) (leaves (number_by k (request_capacity q)) (amount_granted_by k q) 0)
expected k (confer_batch b m n) =
    told_batch (number_by k (confer_batch b m n)) (list_of (lines_of b) (share_of_by k b)) (list_of (lines_of b) (number_of_line_by k b))
expected k (cede_capacity c) = told (number_by k (cede_capacity c)) (leaves (number_by k (cede_capacity c)) c.amount 0)
expected k (turn_year y) = told (number_by k (turn_year y)) 0

-- Lists by the calls' fields alone: each call is entered with the answer that it should get. What the list comes to, and its answers
abbrev pub expected_after : Reckoning → List Call → Reckoning
expected_after k [] = k
expected_after k (c ∷ cs) = expected_after (enter k c (expected k c)) cs

abbrev pub expected_answers : Reckoning → List Call → List Answer
expected_answers k [] = []
expected_answers k (c ∷ cs) = expected k c ∷ expected_answers (enter k c (expected k c)) cs

-- ---- the report
-- 2, 3, and 8: "A report asks only that its day lies in the year."
abbrev pub report_questions_by : Reckoning → ℕ → ℕ → List Question
report_questions_by k p d =
    2 asks ltb p point_count
    ∷ 3 asks k.is_open p
    ∷ 8 asks in_thermal_year k.year d
    ∷ []

abbrev pub report_number_by : Reckoning → ℕ → ℕ → ℕ
report_number_by k p d = number_of (report_questions_by k p d)

-- "The report gives the free amount of a point and gas-day."
abbrev pub report_amount_by : Reckoning → ℕ → ℕ → ℕ
report_amount_by k p d = leaves (report_number_by k p d) (free_by k p d) 0
