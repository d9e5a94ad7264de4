-- Document 01, "Proved cases": p1 to p12 as one table, in its words and order. Each sentence stands over the facts that it says. And
-- the example of "Report and runner".
-- Assumes nothing.
use mathlib.Core.Path.{◌≡◌}
use mathlib.Core.List.{List, [], ◌∷◌}
use Prim.Native.Nat.{ℕ}
use Rattle.days.specs.Days.{day_number, weekday}
use Rattle.calendar.specs.ThermalYears.{thermal_last}
use Rattle.working_days.specs.WorkingDays.{easter_sunday, working_count, nth_of_month}
use Rattle.parts.specs.Registers.{State}
use Rattle.amounts.specs.Amounts.{span_days}
use Rattle.parts.specs.Charges.{charge}
use Rattle.register.specs.Fresh.{fresh_state}
use Rattle.products.specs.declared.products.Product.TheVariants.{Annual, Day}
use Rattle.products.specs.declared.products.Request.{Request}
use Rattle.products.specs.Products.{first_of}
use Rattle.shares.specs.Batches.{Batch, batch}
use Rattle.shares.specs.Shares.{free_of_year}
use Rattle.expected.specs.Calls.{Call, open_point, place_guarantee, request_capacity, confer_batch, turn_year}
use Rattle.expected.specs.Calls.{told, answer, answers, register_after}

-- The register of cases p8 to p12: 2023, point 0 opened with total 1,000 and rate 100, then the guarantees of some users placed
abbrev pub opening : Call
opening = open_point 0 2 1000 100

-- user 5 alone, with guarantee g
abbrev pub of_one : ℕ → List Call
of_one g = opening ∷ place_guarantee 5 g ∷ []

abbrev pub register_of_one : ℕ → State
register_of_one g = register_after 2023 (of_one g)

-- a guarantee that covers each charge of these cases
abbrev pub ample : ℕ
ample = 1000000000

-- users 5, 6 and 7
abbrev pub of_three : List Call
of_three = opening ∷ place_guarantee 5 ample ∷ place_guarantee 6 ample ∷ place_guarantee 7 ample ∷ []

abbrev pub register_of_three : State
register_of_three = register_after 2023 of_three

-- user 5 asks for amount 10 from the first of the month after arrival
abbrev pub annual_of_ten : ℕ → Request
annual_of_ten arrival = record { user = 5; point = 0; product = Annual; arrival = arrival; amount = 10 }

-- three users, or two, ask in a batch for point 0
abbrev pub batch_of_three : ℕ → ℕ → ℕ → Batch
batch_of_three a b c = batch 0 (5 ∷ 6 ∷ 7 ∷ []) (a ∷ b ∷ c ∷ [])

abbrev pub batch_of_two : ℕ → ℕ → Batch
batch_of_two a b = batch 0 (5 ∷ 6 ∷ []) (a ∷ b ∷ [])

pub record ProvedCases : Type 0 where
  -- "(p1) 1 October 2023 is day 8,674, a Sunday." (weekday 6; Monday is 0)
  pub p1 : day_number 2023 10 1 ≡ 8674
  pub p1_sunday : weekday (day_number 2023 10 1) ≡ 6
  -- "(p2) Easter 2024: 31 March."
  pub p2 : easter_sunday 2024 ≡ day_number 2024 3 31
  -- "(p3) 2049: 18 April."
  pub p3 : easter_sunday 2049 ≡ day_number 2049 4 18
  -- "(p4) 2076: 19 April."
  pub p4 : easter_sunday 2076 ≡ day_number 2076 4 19
  -- "(p5) 11th working day of October 2023: the 16th."
  pub p5 : nth_of_month 2023 10 11 ≡ 16
  -- "(p6) Of April 2024: the 16th."
  pub p6 : nth_of_month 2024 4 11 ≡ 16
  -- "(p7) December 2023 has 18, the 16th on the 27th."
  pub p7 : working_count 2023 12 ≡ 18
  pub p7_sixteenth : nth_of_month 2023 12 16 ≡ 27
  -- "(p8) Annual arrival 8,689 starts 8,705; 8,690 gives 9."
  pub p8 : first_of 2023 8689 Annual ≡ 8705
  pub p8_late : (answer (register_of_one ample) (request_capacity (annual_of_ten 8690))).number ≡ 9
  -- "(p9) Arrival 8,643 in 2023 gives 8."
  pub p9 : (answer (register_of_one ample) (request_capacity (annual_of_ten 8643))).number ≡ 8
  -- "(p10) Amount 10 from 8,705 at rate 100 charges 335,000; guarantee 334,999 gives 11.": and 335,000 is enough
  pub p10 : charge 10 (span_days 8705 (thermal_last 2023)) 100 ≡ 335000
  pub p10_uncovered : (answer (register_of_one 334999) (request_capacity (annual_of_ten 8689))).number ≡ 11
  pub p10_covered : (answer (register_of_one 335000) (request_capacity (annual_of_ten 8689))).number ≡ 0
  pub p10_granted : (answer (register_of_one 335000) (request_capacity (annual_of_ten 8689))).amount ≡ 10
  -- "(p11) F 1,000, asked 700, 500, 300: 466, 333, 200."
  pub p11_free : free_of_year register_of_three 0 ≡ 1000
  pub p11 : (answer register_of_three (confer_batch (batch_of_three 700 500 300) 3 3)).shares ≡ 466 ∷ 333 ∷ 200 ∷ []
  pub p11_number : (answer register_of_three (confer_batch (batch_of_three 700 500 300) 3 3)).number ≡ 0
  pub p11_numbers : (answer register_of_three (confer_batch (batch_of_three 700 500 300) 3 3)).numbers ≡ 0 ∷ 0 ∷ 0 ∷ []
  -- "(p12) Asked 700, 300: in full."
  pub p12 : (answer register_of_three (confer_batch (batch_of_two 700 300) 2 2)).shares ≡ 700 ∷ 300 ∷ []
  pub p12_number : (answer register_of_three (confer_batch (batch_of_two 700 300) 2 2)).number ≡ 0
  pub p12_numbers : (answer register_of_three (confer_batch (batch_of_two 700 300) 2 2)).numbers ≡ 0 ∷ 0 ∷ []

-- "R kind 3 user 5 point 0 day 8700 arrival 8699 amount 600"
abbrev pub day_of_six_hundred : Call
day_of_six_hundred = request_capacity (record { user = 5; point = 0; product = Day 8700; arrival = 8699; amount = 600 })

-- "Y 2023; P 0 kind 2 total 1000 rate 100; G 5 1000000000; then three times R"
abbrev pub example : List Call
example = turn_year 2023 ∷ opening ∷ place_guarantee 5 ample ∷ day_of_six_hundred ∷ day_of_six_hundred ∷ day_of_six_hundred ∷ []

-- "prints, whole": number and amount of each, from a fresh register of 2000
abbrev pub Example : Type 0
Example = answers (fresh_state 2000) example ≡ told 0 0 ∷ told 0 0 ∷ told 0 0 ∷ told 0 600 ∷ told 0 400 ∷ told 12 0 ∷ []
