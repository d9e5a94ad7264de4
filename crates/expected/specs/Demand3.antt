-- Demand 3 of document 01: one claim about the whole list of calls.
-- Assumes nothing.
use Prim.Native.Nat.{ℕ, ◌+◌, ◌≤◌, ◌<◌}
use mathlib.Core.Path.{◌≡◌}
use mathlib.Core.Logic.{◌↔◌}
use mathlib.Core.Bool.{true, false}
use mathlib.Core.List.{List, [], ◌∷◌, ◌++◌}
use lib.ListN.{length}
use Rattle.calendar.specs.ThermalYears.{is_thermal_year, in_thermal_year}
use Rattle.parts.specs.Registers.{State, account_at}
use Rattle.parts.specs.Answers.{Passes}
use Rattle.order.specs.Order.{in_order}
use Rattle.register.specs.Fresh.{fresh_state}
use Rattle.register.specs.Reports.{report_number, report_amount}
use Rattle.products.specs.declared.products.Request.{Request}
use Rattle.expected.specs.Calls.{Call, request_capacity, Answer, questions, answers, done, after, register_after}
use Rattle.expected.specs.Reckoning.{Reckoning, granted_on, free_by, charges, ceded_by, span_first_by, span_last_by, begin, reckoned}
use Rattle.expected.specs.Expected.{expected, expected_after, expected_answers, report_number_by, report_amount_by}

-- ---- what holds after a list
-- s is the register, the table and the ledger that it left, k its reckoning
pub record Balances (s : State) (k : Reckoning) : Type 0 where
  pub order : in_order s ≡ true
  -- at every open point and every gas-day of the year the report answers 0, and granted plus reported is the total
  pub sums : (p d : ℕ) → k.is_open p ≡ true → in_thermal_year k.year d ≡ true
      → (report_number s p d ≡ 0) × (granted_on k p d + report_amount s p d ≡ k.total p)
  -- and no other point is reported
  pub closed : (p d : ℕ) → k.is_open p ≡ false → (report_number s p d ≡ 0 → ⊥) × (report_amount s p d ≡ 0)
  -- each user's commitment and the charges of what he ceded are the charges of what he was granted and took over
  pub commitments : (u : ℕ) → (account_at s.register.accounts u).commitment + ceded_by k u ≡ charges k u
  -- and the commitment is at most his guarantee
  pub covered : (u : ℕ) → (account_at s.register.accounts u).commitment ≤ k.guarantee u
  -- which is 0 where he is not on file
  pub unfiled : (u : ℕ) → k.on_file u ≡ false → k.guarantee u ≡ 0

-- ---- each cut was due
-- d is a day of the request's span
abbrev pub InSpan : Reckoning → Request → ℕ → Type 0
InSpan k q d = (span_first_by k q ≤ d) × (d ≤ span_last_by k q)

-- free at the request's point on day d, by the calls before it
abbrev pub free_for : Reckoning → Request → ℕ → ℕ
free_for k q d = free_by k q.point d

-- The amount granted to a request. "Cut means granted less than asked": it was cut exactly when some day of its span had less free than
-- it asked; then it got the smallest free amount of the span, and otherwise what it asked. It got something
pub record Fair (k : Reckoning) (q : Request) (granted : ℕ) : Type 0 where
  pub cut_if : (d : ℕ) → InSpan k q d → free_for k q d < q.amount → granted < q.amount
  pub cut_only_if : granted < q.amount → (d : ℕ) × (InSpan k q d × (free_for k q d < q.amount))
  pub smallest : granted < q.amount → (d : ℕ) → InSpan k q d → granted ≤ free_for k q d
  pub reached : granted < q.amount → (d : ℕ) × (InSpan k q d × (free_for k q d ≡ granted))
  pub whole : (granted < q.amount → ⊥) → granted ≡ q.amount
  pub some : 0 < granted

-- ---- how a call was treated
-- A call c, made on s after calls that are reckoned as k, and its answer a.
pub record Treated (s : State) (k : Reckoning) (c : Call) (a : Answer) : Type 0 where
  -- number, amount, shares and the lines' numbers are those that the reckoning expects
  pub expects : a ≡ expected k c
  -- a request answered 0 was granted its amount, or cut as was due
  pub fair : (q : Request) → c ≡ request_capacity q → a.number ≡ 0 → Fair k q a.amount
  -- "answered 0 exactly when it passes all questions put to it"
  pub accepted : (a.number ≡ 0) ↔ Passes (questions s c)
  -- "A call answered 0 does to the register what "The changing calls" says."
  pub does : a.number ≡ 0 → after s c ≡ done s c
  -- "A refused call alters nothing.", and grants nothing
  pub refused : (a.number ≡ 0 → ⊥) → (after s c ≡ s) × ((a.amount ≡ 0) × ((a.shares ≡ []) × (a.numbers ≡ [])))

-- ---- the whole list
-- a fresh register of a year within limits, and then the calls of a list, to which these answers were given, led to s: register, table and
-- ledger
pub record LedTo (y : ℕ) (cs : List Call) (given : List Answer) (s : State) : Type 0 where
  pub year : is_thermal_year y ≡ true
  pub answers_are : given ≡ answers (fresh_state y) cs
  pub left : s ≡ register_after y cs

-- Demand 3, of a list of calls from a fresh register of year y, of the answers that were given, and of what the list led to.
pub record Demand3 (y : ℕ) (cs : List Call) (given : List Answer) (s : State) : Type 0 where
  pub led : LedTo y cs given s
  pub balances : Balances s (reckoned y cs given)
  -- every report on s is the one that the reckoning expects
  pub reported : (p d : ℕ)
      → (report_number s p d ≡ report_number_by (reckoned y cs given) p d) × (report_amount s p d ≡ report_amount_by (reckoned y cs given) p d)
  -- all answers, and the reckoning itself, come from the calls' fields alone
  pub answered : given ≡ expected_answers (begin y) cs
  pub by_fields : reckoned y cs given ≡ expected_after (begin y) cs
  -- how each call was treated, by the register and the reckoning of the calls before it and of their answers
  pub each : (before later : List Call) (c : Call) (earlier rest : List Answer) (a : Answer)
      → cs ≡ before ++ c ∷ later → given ≡ earlier ++ a ∷ rest → length earlier ≡ length before
      → Treated (register_after y before) (reckoned y before earlier) c a

-- A call that was made on s, was answered a and left t joins every list that led to s: demand 3 holds of the list with the call behind it,
-- of the answers with a behind them, and of t.
abbrev pub Joins : State → Call → Answer → State → Type 0
Joins s c a t =
    (y : ℕ) (before : List Call) (given : List Answer) → LedTo y before given s → Demand3 y (before ++ c ∷ []) (given ++ a ∷ []) t
