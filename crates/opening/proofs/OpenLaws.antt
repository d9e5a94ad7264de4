-- Laws of open point.
-- Assumes nothing.
use mathlib.Core.Path.{◌≡◌, refl, sym, ap₂, ◌∙◌}
use mathlib.Core.Bool.{true, false}
use mathlib.Core.List.{List}
use Prim.Native.Nat.{ℕ, ◌<◌}
use lib.Dec.{ltb}
use borrow.Author.Tests.{ltb-true, not-true}
use Rattle.days.proofs.Ranges.{and_left, and_right}
use Rattle.parts.specs.declared.registers.Register.{Register}
use Rattle.parts.specs.Limits.{point_count}
use Rattle.parts.specs.Tests.{every}
use Rattle.parts.specs.Registers.{State, state, point_at, point, with_point}
use Rattle.amounts.specs.Amounts.{year_days, freed_row}
use Rattle.parts.specs.Points.{is_open, open_tests}
use Rattle.std.specs.Prelude.{Result, Ok}
use Rattle.parts.specs.declared.answers.Refusal.{Refusal}
use Rattle.parts.specs.Answers.{number_of_answer}
use Rattle.parts.proofs.AnswerLaws.{passes, zero_number, leaves_new, leaves_old}
use Rattle.order.proofs.OrderFacts.{InOrder, ordered, Open, open_facts}
use Rattle.opening.specs.OpenPoint.{open_fields, open_questions, open_number, opened, open_after}

-- fields within limits
pub fields_point : (p kind total rate : ℕ) → open_fields p kind total rate ≡ true → p < point_count
fields_point p kind total rate h = ltb-true _ _ (and_left (ltb p point_count) (every (open_tests (point kind total rate))) h)

pub fields_open : (p kind total rate : ℕ) → open_fields p kind total rate ≡ true → Open (point kind total rate)
fields_open p kind total rate h =
    open_facts (point kind total rate) (and_right (ltb p point_count) (every (open_tests (point kind total rate))) h)

module _ (s : State) (p kind total rate : ℕ) where
  -- what an accepted opening tells
  pub record OpenFacts : Type 0 where
    pub order : InOrder s
    pub point_from : p < point_count
    pub point_open : Open (point kind total rate)
    pub closed : is_open (point_at s.register.points p) ≡ false

  pub facts : open_number s p kind total rate ≡ 0 → OpenFacts
  unfolding open_number
  facts h =
      let q = passes (open_questions s p kind total rate) refl h in
      record {
        order = ordered s q.0;
        point_from = fields_point p kind total rate q.1.0;
        point_open = fields_open p kind total rate q.1.0;
        closed = not-true _ q.1.1.0;
      }

  -- what is left, as the code leaves it
  pub open_new : open_number s p kind total rate ≡ 0 → (r : Register) (g : List ℕ) → r ≡ with_point s.register p (point kind total rate)
      → g ≡ freed_row s.free p (year_days s.register.year) (point kind total rate) → state r g s.ledger ≡ open_after s p kind total rate
  unfolding open_after opened
  open_new h r g a b =
      ap₂ (λ (x : Register) (z : List ℕ). state x z s.ledger) a b
      ∙ sym (leaves_new (open_number s p kind total rate) (opened s p kind total rate) s h)

  pub open_old : (open_number s p kind total rate ≡ 0 → ⊥) → s ≡ open_after s p kind total rate
  unfolding open_after
  open_old h = sym (leaves_old (open_number s p kind total rate) (opened s p kind total rate) s h)

-- what an accepted opening tells, by the answer that the code gives
pub accepted : (s : State) (p kind total rate : ℕ) (v : Result (Unit {0}) Refusal) (u : Unit {0}) → number_of_answer v ≡ open_number s p kind total rate
    → v ≡ Ok u → OpenFacts s p kind total rate
accepted s p kind total rate v u e is = facts s p kind total rate (zero_number v _ u e is)

-- what each exit of `open_point` leaves
pub ruleset open_exits = (open_new, open_old)
