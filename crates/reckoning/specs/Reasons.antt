-- Demand 3 of single calls, in the terms of the reckoning alone: what was granted, why a call was accepted, and what a refusal means.
-- Assumes nothing.
use Rattle.std.specs.Prelude.{ℕ, ◌+◌, ◌≤◌, ◌<◌, ◌≡◌, Bool, true, false, cond, ◌||◌, ◌⊎◌, List, [], ◌∷◌, eqb, get_or, length}
use Rattle.calendar.specs.ThermalYears.{is_thermal_year, in_thermal_year}
use Rattle.parts.specs.Limits.{line_count}
use Rattle.amounts.specs.Ranges.{sum_below}
use Rattle.amounts.specs.Amounts.{span_days, year_days}
use Rattle.parts.specs.Charges.{charge}
use Rattle.opening.specs.OpenPoint.{open_fields}
use Rattle.placing.specs.PlaceGuarantee.{place_fields}
use Rattle.spans.specs.Spans.{annual_first, annual_last, span_ok}
use Rattle.products.specs.declared.products.Product.TheVariants.{Annual}
use Rattle.products.specs.declared.products.Request.{Request}
use Rattle.products.specs.Products.{is_in_year, is_in_time}
use Rattle.request_decision.specs.RequestQuestions.{request_fields}
use Rattle.shares.specs.Batches.{Batch, lines_of, user_of, asked_of, line_fields}
use Rattle.shares.specs.Shares.{pro_quota}
use Rattle.shares.specs.ShareLines.{batch_fields}
use Rattle.cession_decision.specs.declared.deciding.Cession.{Cession}
use Rattle.cession_decision.specs.CessionQuestions.{cession_fields, is_in_time as is_cession_in_time}
use Rattle.reckoning.specs.Calls.{Call, open_point, place_guarantee, request_capacity, confer_batch, cede_capacity, turn_year, Answer}
use Rattle.reckoning.specs.Reckoning.{Reckoning, free_by, charges, ceded_by, lines_used, span_first, span_last, ceded_charge}

-- ---- what was granted
-- d is a day of the request's span
abbrev pub InSpan : Reckoning → Request → ℕ → Type 0
InSpan k q d = (span_first k q ≤ d) × (d ≤ span_last k q)

-- free at the request's point on day d, by the calls before it
abbrev pub free_for : Reckoning → Request → ℕ → ℕ
free_for k q d = free_by k q.point d

-- The amount granted to a request. "Cut means granted less than asked": it was cut exactly when some day of its span had less free than
-- it asked; then it got the smallest free amount of the span, and otherwise what it asked. It got something
pub record Fair (k : Reckoning) (q : Request) (granted : ℕ) : Type 0 where
  pub cut_if : (d : ℕ) → InSpan k q d → free_for k q d < q.amount → granted < q.amount
  pub cut_only_if : granted < q.amount → (d : ℕ) × (InSpan k q d × (free_for k q d < q.amount))
  pub smallest : granted < q.amount → (d : ℕ) → InSpan k q d → granted ≤ free_for k q d
  pub reached : granted < q.amount → (d : ℕ) × (InSpan k q d × (free_for k q d ≡ granted))
  pub whole : (granted < q.amount → ⊥) → granted ≡ q.amount
  pub some : 0 < granted

-- a line of a batch that passed 2, 14, 5 and 11 has the number 0, or 12 "if its share is 0"
abbrev pub line_passed : ℕ → Bool
line_passed number = eqb number 0 || eqb number 12

-- what counts of line i in S
abbrev pub asked_if_passed : Batch → Answer → ℕ → ℕ
asked_if_passed b a i = cond (line_passed (get_or a.numbers i 0)) (asked_of b i) 0

-- The shares of a batch: F is the smallest free amount of the year by the calls before it, S "the sum of the asked amounts of the lines that
-- pass", and each of those lines got its part, the others nothing; together no more than F. A line with the number 0 got something
pub record FairShares (k : Reckoning) (b : Batch) (a : Answer) (F S : ℕ) : Type 0 where
  pub smallest : (d : ℕ) → in_thermal_year k.year d ≡ true → F ≤ free_by k b.point d
  pub reached : (d : ℕ) × ((in_thermal_year k.year d ≡ true) × (free_by k b.point d ≡ F))
  pub sum : S ≡ sum_below (lines_of b) (asked_if_passed b a)
  pub share : (i : ℕ) → i < lines_of b → get_or a.shares i 0 ≡ cond (line_passed (get_or a.numbers i 0)) (pro_quota F S (asked_of b i)) 0
  pub together : sum_below (lines_of b) (λ i. get_or a.shares i 0) ≤ F
  pub served : (i : ℕ) → i < lines_of b → get_or a.numbers i 0 ≡ 0 → 0 < get_or a.shares i 0
  pub long : (length a.shares ≡ lines_of b) × (length a.numbers ≡ lines_of b)

-- what an accepted call answers, by the calls before it: "amount granted or ceded (else 0)"
abbrev pub Rule : Reckoning → Call → Answer → Type 0
Rule k (open_point p kind total rate) a = a.amount ≡ 0
Rule k (place_guarantee u g) a = a.amount ≡ 0
Rule k (request_capacity q) a = Fair k q a.amount
Rule k (confer_batch b m n) a = (F : ℕ) × ((S : ℕ) × FairShares k b a F S)
Rule k (cede_capacity c) a = a.amount ≡ c.amount
Rule k (turn_year y) a = a.amount ≡ 0

-- ---- why a call was accepted: each question that the reckoning can judge was rightly answered yes
-- 11: what a user was granted and took over, less what he ceded, and a charge more stay within his guarantee
abbrev pub Covered : Reckoning → ℕ → ℕ → Type 0
Covered k u c = charges k u + c ≤ k.guarantee u + ceded_by k u

-- 13: n of the 2,048 ledger lines are left
abbrev pub LinesLeft : Reckoning → ℕ → Type 0
LinesLeft k n = lines_used k + n ≤ line_count

-- the charges of what is asked
abbrev pub request_charge : Reckoning → Request → ℕ
request_charge k q = charge q.amount (span_days (span_first k q) (span_last k q)) (k.rate q.point)

abbrev pub line_charge : Reckoning → Batch → ℕ → ℕ
line_charge k b i = charge (asked_of b i) (year_days k.year) (k.rate b.point)

pub record OpenGrounds (k : Reckoning) (p kind total rate : ℕ) : Type 0 where
  pub two : open_fields p kind total rate ≡ true
  pub four : k.is_open p ≡ false

pub record PlaceGrounds (k : Reckoning) (u g : ℕ) : Type 0 where
  pub two : place_fields u g ≡ true
  pub six : charges k u ≤ g + ceded_by k u

pub record RequestGrounds (k : Reckoning) (q : Request) : Type 0 where
  pub two : request_fields q ≡ true
  pub three : k.is_open q.point ≡ true
  pub eight : is_in_year k.year q.arrival q.product ≡ true
  pub nine : is_in_time k.year q.arrival q.product ≡ true
  pub eleven : Covered k q.user (request_charge k q)
  pub twelve : (d : ℕ) → InSpan k q d → 0 < free_for k q d
  pub thirteen : LinesLeft k 1

-- a line that passed
pub record LineGrounds (k : Reckoning) (b : Batch) (i : ℕ) : Type 0 where
  pub two : line_fields (user_of b i) (asked_of b i) ≡ true
  pub eleven : Covered k (user_of b i) (line_charge k b i)
  pub fourteen : (j : ℕ) → j < i → user_of b j ≡ user_of b i → ⊥

pub record BatchGrounds (k : Reckoning) (b : Batch) (shares numbers : ℕ) (a : Answer) : Type 0 where
  pub two : batch_fields b shares numbers ≡ true
  pub three : k.is_open b.point ≡ true
  pub thirteen : LinesLeft k (lines_of b)
  pub lines : (i : ℕ) → i < lines_of b → line_passed (get_or a.numbers i 0) ≡ true → LineGrounds k b i

pub record CessionGrounds (k : Reckoning) (c : Cession) : Type 0 where
  pub two : cession_fields c ≡ true
  pub three : k.is_open c.point ≡ true
  pub eight : span_ok k.year c.arrival (annual_first c.arrival) (annual_last k.year) ≡ true
  pub nine : is_cession_in_time c ≡ true
  pub eleven : Covered k c.receiver (ceded_charge k c)
  pub thirteen : LinesLeft k 2

pub record TurnGrounds (k : Reckoning) (y : ℕ) : Type 0 where
  pub two : is_thermal_year y ≡ true
  pub fifteen : k.year < y

abbrev pub Grounds : Reckoning → Call → Answer → Type 0
Grounds k (open_point p kind total rate) a = OpenGrounds k p kind total rate
Grounds k (place_guarantee u g) a = PlaceGrounds k u g
Grounds k (request_capacity q) a = RequestGrounds k q
Grounds k (confer_batch b m n) a = BatchGrounds k b m n a
Grounds k (cede_capacity c) a = CessionGrounds k c
Grounds k (turn_year y) a = TurnGrounds k y

-- ---- what a refusal means
-- 11: a charge more would pass his guarantee
abbrev pub Uncovered : Reckoning → ℕ → ℕ → Type 0
Uncovered k u c = k.guarantee u + ceded_by k u < charges k u + c

-- 12: on some day of the span nothing is free
abbrev pub NothingFree : Reckoning → Request → Type 0
NothingFree k q = (d : ℕ) × (InSpan k q d × (free_for k q d ≡ 0))

-- 13: not n of the 2,048 ledger lines are left
abbrev pub LinesShort : Reckoning → ℕ → Type 0
LinesShort k n = line_count < lines_used k + n

-- one of some numbers
abbrev pub one_of : ℕ → List ℕ → Bool
one_of n [] = false
one_of n (m ∷ l) = eqb n m || one_of n l

-- Which numbers a call may be given, and what each means. 1 is never given: in a list of calls no register is out of order, and a
-- cession is not refused "if the giver's commitment is below the charge" because what he holds was charged to him. A user who is not on file
-- has no guarantee. Of 7 only this is said, that the request was not annual, and of 10 nothing: the reckoning knows no kind of a point, and of
-- a cession only the charge
pub record OpenReasons (k : Reckoning) (p kind total rate n : ℕ) : Type 0 where
  pub only : one_of n (0 ∷ 1 ∷ 2 ∷ 4 ∷ []) ≡ true
  pub one : n ≡ 1 → ⊥
  pub two : n ≡ 2 → open_fields p kind total rate ≡ false
  pub four : n ≡ 4 → k.is_open p ≡ true

pub record PlaceReasons (k : Reckoning) (u g n : ℕ) : Type 0 where
  pub only : one_of n (0 ∷ 1 ∷ 2 ∷ 6 ∷ []) ≡ true
  pub one : n ≡ 1 → ⊥
  pub two : n ≡ 2 → place_fields u g ≡ false
  pub six : n ≡ 6 → g + ceded_by k u < charges k u

pub record RequestReasons (k : Reckoning) (q : Request) (n : ℕ) : Type 0 where
  pub only : one_of n (0 ∷ 1 ∷ 2 ∷ 3 ∷ 5 ∷ 7 ∷ 8 ∷ 9 ∷ 11 ∷ 12 ∷ 13 ∷ []) ≡ true
  pub one : n ≡ 1 → ⊥
  pub two : n ≡ 2 → request_fields q ≡ false
  pub three : n ≡ 3 → k.is_open q.point ≡ false
  pub five : n ≡ 5 → k.guarantee q.user ≡ 0
  pub seven : n ≡ 7 → q.product ≡ Annual → ⊥
  pub eight : n ≡ 8 → is_in_year k.year q.arrival q.product ≡ false
  pub nine : n ≡ 9 → is_in_time k.year q.arrival q.product ≡ false
  pub eleven : n ≡ 11 → Uncovered k q.user (request_charge k q)
  pub twelve : n ≡ 12 → NothingFree k q
  pub thirteen : n ≡ 13 → LinesShort k 1

pub record LineReasons (k : Reckoning) (b : Batch) (a : Answer) (i : ℕ) (n : ℕ) : Type 0 where
  pub only : one_of n (0 ∷ 12 ∷ 2 ∷ 14 ∷ 5 ∷ 11 ∷ []) ≡ true
  pub two : n ≡ 2 → line_fields (user_of b i) (asked_of b i) ≡ false
  pub five : n ≡ 5 → k.guarantee (user_of b i) ≡ 0
  pub eleven : n ≡ 11 → Uncovered k (user_of b i) (line_charge k b i)
  pub twelve : n ≡ 12 → get_or a.shares i 0 ≡ 0
  pub fourteen : n ≡ 14 → (j : ℕ) × ((j < i) × (user_of b j ≡ user_of b i))

pub record BatchReasons (k : Reckoning) (b : Batch) (shares numbers : ℕ) (a : Answer) : Type 0 where
  pub only : one_of a.number (0 ∷ 1 ∷ 2 ∷ 3 ∷ 13 ∷ []) ≡ true
  pub one : a.number ≡ 1 → ⊥
  pub two : a.number ≡ 2 → batch_fields b shares numbers ≡ false
  pub three : a.number ≡ 3 → k.is_open b.point ≡ false
  pub thirteen : a.number ≡ 13 → LinesShort k (lines_of b)
  pub lines : (i : ℕ) → i < lines_of b → LineReasons k b a i (get_or a.numbers i 0)

pub record CessionReasons (k : Reckoning) (c : Cession) (n : ℕ) : Type 0 where
  pub only : one_of n (0 ∷ 1 ∷ 2 ∷ 3 ∷ 5 ∷ 8 ∷ 9 ∷ 10 ∷ 1 ∷ 11 ∷ 13 ∷ []) ≡ true
  pub one : n ≡ 1 → ⊥
  pub two : n ≡ 2 → cession_fields c ≡ false
  pub three : n ≡ 3 → k.is_open c.point ≡ false
  pub five : n ≡ 5 → (k.guarantee c.giver ≡ 0) ⊎ (k.guarantee c.receiver ≡ 0)
  pub eight : n ≡ 8 → span_ok k.year c.arrival (annual_first c.arrival) (annual_last k.year) ≡ false
  pub nine : n ≡ 9 → is_cession_in_time c ≡ false
  pub eleven : n ≡ 11 → Uncovered k c.receiver (ceded_charge k c)
  pub thirteen : n ≡ 13 → LinesShort k 2

pub record TurnReasons (k : Reckoning) (y n : ℕ) : Type 0 where
  pub only : one_of n (0 ∷ 1 ∷ 2 ∷ 15 ∷ []) ≡ true
  pub one : n ≡ 1 → ⊥
  pub two : n ≡ 2 → is_thermal_year y ≡ false
  pub fifteen : n ≡ 15 → y ≤ k.year

abbrev pub Reasons : Reckoning → Call → Answer → Type 0
Reasons k (open_point p kind total rate) a = OpenReasons k p kind total rate a.number
Reasons k (place_guarantee u g) a = PlaceReasons k u g a.number
Reasons k (request_capacity q) a = RequestReasons k q a.number
Reasons k (confer_batch b m n) a = BatchReasons k b m n a
Reasons k (cede_capacity c) a = CessionReasons k c a.number
Reasons k (turn_year y) a = TurnReasons k y a.number
