-- Demand 3 of document 01: one claim about the whole list of calls.
-- Assumes nothing.
use Rattle.std.specs.Prelude.{ℕ, ◌+◌, ◌≤◌, ◌≡◌, ◌↔◌, true, false, List, [], ◌∷◌, ◌++◌}
use Rattle.calendar.specs.ThermalYears.{in_thermal_year}
use Rattle.parts.specs.Registers.{State, account_at}
use Rattle.parts.specs.Answers.{Passes}
use Rattle.order.specs.Order.{in_order}
use Rattle.register.specs.Reports.{report_number, report_amount}
use Rattle.reckoning.specs.Calls.{Call, Answer, questions, answer, done, after, register_after}
use Rattle.reckoning.specs.Reckoning.{Reckoning, granted_on, charges, ceded_by, reckoned}
use Rattle.reckoning.specs.Reasons.{Rule, Grounds, Reasons}

-- What holds after a list: s is the register and the lists that it left, k its reckoning.
pub record Balances (s : State) (k : Reckoning) : Type 0 where
  pub order : in_order s ≡ true
  -- at every open point and every gas-day of the year the report answers 0, and granted plus reported is the total
  pub sums : (p d : ℕ) → k.is_open p ≡ true → in_thermal_year k.year d ≡ true
      → (report_number s p d ≡ 0) × (granted_on k p d + report_amount s p d ≡ k.total p)
  -- and no other point is reported
  pub closed : (p d : ℕ) → k.is_open p ≡ false → (report_number s p d ≡ 0 → ⊥) × (report_amount s p d ≡ 0)
  -- each user's commitment plus what he ceded is what he was granted and took over
  pub commitments : (u : ℕ) → (account_at s.register.accounts u).commitment + ceded_by k u ≡ charges k u
  -- and at most his guarantee
  pub covered : (u : ℕ) → (account_at s.register.accounts u).commitment ≤ k.guarantee u

-- A call c, made on s after calls that are reckoned as k, and its answer a.
pub record Treated (s : State) (k : Reckoning) (c : Call) (a : Answer) : Type 0 where
  -- "answered 0 exactly when it passes all questions put to it"
  pub accepted : (a.number ≡ 0) ↔ Passes (questions s c)
  -- "A call answered 0 does to the register what "The changing calls" says."
  pub does : a.number ≡ 0 → after s c ≡ done s c
  -- "A refused call alters nothing.", and grants nothing
  pub refused : (a.number ≡ 0 → ⊥) → (after s c ≡ s) × ((a.amount ≡ 0) × ((a.shares ≡ []) × (a.numbers ≡ [])))
  -- what an accepted one answers, why it was accepted, and what a refusal means, by the reckoning of the calls before it
  pub rule : Passes (questions s c) → Rule k c a
  pub grounds : a.number ≡ 0 → Grounds k c a
  pub reasons : Reasons k c a

-- Demand 3, of a list of calls from a fresh register of year y: what holds after it, and how each of its calls was treated, with the
-- register and the reckoning of the calls before it.
pub record Demand3 (y : ℕ) (cs : List Call) : Type 0 where
  pub after_all : Balances (register_after y cs) (reckoned y cs)
  pub each : (before : List Call) (c : Call) (later : List Call) → cs ≡ before ++ c ∷ later
      → Treated (register_after y before) (reckoned y before) c (answer (register_after y before) c)
