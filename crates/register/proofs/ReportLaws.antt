-- Laws of the report.
-- Assumes nothing.
use mathlib.Core.Path.{◌≡◌, refl, sym, ap, ◌∙◌}
use mathlib.Core.Bool.{true}
use Prim.Native.Nat.{ℕ, ◌<◌}
use native.Mathlib.Omega.{arith}
use lib.ListN.{get_or, length}
use borrow.Author.Tests.{ltb-true}
use Rattle.calendar.specs.ThermalYears.{in_thermal_year}
use Rattle.parts.specs.Limits.{point_count}
use Rattle.parts.specs.Registers.{State, point_at}
use Rattle.amounts.specs.Amounts.{entry_of, entry_in, free_on}
use Rattle.register.specs.Reports.{report_questions, report_number, report_amount}
use Rattle.std.specs.Prelude.{Result, Ok}
use Rattle.parts.specs.declared.answers.Refusal.{Refusal}
use Rattle.parts.specs.Answers.{number_of_answer}
use Rattle.parts.proofs.AnswerLaws.{passes, zero_number, leaves_new, leaves_old}
use Rattle.amounts.proofs.AmountLaws.{entry_in_lem}
use Rattle.amounts.proofs.CalendarLaws.{year_facts, day_within}
use Rattle.order.proofs.OrderFacts.{InOrder, ordered}

module _ (s : State) (p d : ℕ) where
  -- what an accepted one tells
  pub record ReportFacts : Type 0 where
    pub order : InOrder s
    pub point : p < point_count
    pub open_point_lem : 0 < (point_at s.register.points p).kind
    pub day : in_thermal_year s.register.year d ≡ true

  pub report_facts : report_number s p d ≡ 0 → ReportFacts
  unfolding report_number
  report_facts h =
      let q = passes (report_questions s p d) refl h in
      record { order = ordered s q.0; point = ltb-true _ _ q.1.0; open_point_lem = ltb-true _ _ q.1.1.0; day = q.1.1.1.0 }

  -- its entry lies in the table
  pub report_entry : report_number s p d ≡ 0 → entry_of s.register.year p d < length s.free
  report_entry h =
      let w = report_facts h in
      let f = year_facts s.register.year w.order.year in
      let b = day_within s.register.year d w.day in
      omega (arith, w.point, b.from, b.to, f.most, f.ordered, w.order.table_length_lem)

  -- the figures
  pub report_free : report_number s p d ≡ 0 → (a : ℕ) → a ≡ free_on s p d → a ≡ report_amount s p d
  unfolding report_amount
  report_free h a e = e ∙ sym (leaves_new (report_number s p d) (free_on s p d) 0 h)

  -- the same by the entry that the code reads
  pub place_read : report_number s p d ≡ 0 → entry_in s.register.year p d < length s.free
  place_read h = omega (arith, entry_in_lem s.register.year p d (report_facts h).day, report_entry h)

  pub amount_read : report_number s p d ≡ 0 → report_amount s p d ≡ get_or s.free (entry_in s.register.year p d) 0
  amount_read h =
      sym (report_free h (free_on s p d) refl)
      ∙ ap (λ (k : ℕ). get_or s.free k 0) (sym (entry_in_lem s.register.year p d (report_facts h).day))

  pub report_none : (report_number s p d ≡ 0 → ⊥) → report_amount s p d ≡ 0
  unfolding report_amount
  report_none h = leaves_old (report_number s p d) (free_on s p d) 0 h

-- the entry that the code reads after its questions lies in the table
pub place_in : (s : State) (p d k : ℕ) (v : Result (Unit {0}) Refusal) (u : Unit {0}) → number_of_answer v ≡ report_number s p d → v ≡ Ok u
    → k ≡ entry_in s.register.year p d → k < length s.free
place_in s p d k v u e is at = omega (arith, at, place_read s p d (zero_number v _ u e is))

-- what each exit of `report_free` gives
pub ruleset report_exits = (amount_read, report_none)
