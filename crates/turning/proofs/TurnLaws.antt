-- Laws of turn the year.
-- Assumes nothing.
use mathlib.Core.Path.{◌≡◌, refl, sym, ap, ap₂, ◌∙◌}
use mathlib.Core.Bool.{true}
use mathlib.Core.List.{List}
use Prim.Native.Nat.{ℕ, ◌<◌}
use lib.ListN.{length, replicate}
use borrow.Author.Tests.{ltb-true}
use Rattle.calendar.specs.ThermalYears.{is_thermal_year}
use Rattle.parts.specs.declared.registers.Register.{Register}
use Rattle.parts.specs.Registers.{State, state}
use Rattle.amounts.specs.Amounts.{days_of_year, freed_table}
use Rattle.parts.proofs.AnswerLaws.{passes, leaves_new, leaves_old}
use Rattle.amounts.proofs.AmountLaws.{days_of_lem}
use Rattle.order.proofs.OrderFacts.{InOrder, ordered}
use Rattle.turning.specs.TurnYear.{turn_questions, turn_number, turned_register, turned, turn_after}

module _ (s : State) (y : ℕ) where
  -- what an accepted turn tells
  pub record TurnFacts : Type 0 where
    pub order : InOrder s
    pub year : is_thermal_year y ≡ true
    pub later : s.register.year < y

  pub facts : turn_number s y ≡ 0 → TurnFacts
  unfolding turn_number
  facts h =
      let q = passes (turn_questions s y) refl h in
      record { order = ordered s q.0; year = q.1.0; later = ltb-true _ _ q.1.1.0 }

  -- what is left, as the code leaves it
  pub turn_new : turn_number s y ≡ 0 → (r : Register) (days : ℕ) (g m : List ℕ) → r ≡ turned_register s.register y
      → days ≡ days_of_year y → g ≡ freed_table s.free days s.register.points → m ≡ replicate (length s.ledger) 0
      → state r g m ≡ turn_after s y
  unfolding turn_after turned
  turn_new h r days g m a e b c =
      let w = facts h in
      ap (λ (x : Register). state x g m) a
      ∙ ap₂ (state (turned_register s.register y))
      (b ∙ ap (λ (n : ℕ). freed_table s.free n s.register.points) (e ∙ days_of_lem y w.year))
      (c ∙ ap (λ (n : ℕ). replicate n 0) w.order.ledger_length_lem)
      ∙ sym (leaves_new (turn_number s y) (turned s y) s h)

  pub turn_old : (turn_number s y ≡ 0 → ⊥) → s ≡ turn_after s y
  unfolding turn_after
  turn_old h = sym (leaves_old (turn_number s y) (turned s y) s h)

-- what each exit of `turn_year` leaves
pub ruleset turn_exits = (turn_new, turn_old)
