-- Laws of the fresh register.
-- Assumes nothing.
use mathlib.Core.Path.{◌≡◌, refl, sym, ap, ap₂, ◌∙◌}
use mathlib.Core.Bool.{true}
use mathlib.Core.List.{List}
use Prim.Native.Nat.{ℕ}
use lib.ListN.{length, replicate}
use borrow.Author.Tests.{eqb-true}
use Rattle.calendar.specs.ThermalYears.{is_thermal_year}
use Rattle.parts.specs.declared.registers.Register.{Register}
use Rattle.parts.specs.Limits.{table_length, ledger_length}
use Rattle.parts.specs.Registers.{state, blank_register}
use Rattle.register.specs.Fresh.{fresh_questions, fresh_number, fresh_state, fresh_after}
use Rattle.parts.proofs.AnswerLaws.{passes, leaves_new, leaves_old}

module _ (y : ℕ) (f ls : List ℕ) where
  -- what an accepted one tells
  pub record FreshFacts : Type 0 where
    pub year : is_thermal_year y ≡ true
    pub table : length f ≡ table_length
    pub ledger : length ls ≡ ledger_length

  pub fresh_facts : fresh_number y f ls ≡ 0 → FreshFacts
  unfolding fresh_number
  fresh_facts h =
      let p = passes (fresh_questions y f ls) refl h in
      record { year = p.0; table = eqb-true _ _ p.1.0; ledger = eqb-true _ _ p.1.1.0 }

  -- what is left, as the code leaves it
  pub fresh_new : fresh_number y f ls ≡ 0 → (r : Register) (g m : List ℕ) → r ≡ blank_register y
      → g ≡ replicate (length f) 0 → m ≡ replicate (length ls) 0 → state r g m ≡ fresh_after y f ls
  unfolding fresh_after
  fresh_new h r g m e a b =
      let w = fresh_facts h in
      ap (λ (x : Register). state x g m) e
      ∙ ap₂ (state (blank_register y)) (a ∙ ap (λ (n : ℕ). replicate n 0) w.table) (b ∙ ap (λ (n : ℕ). replicate n 0) w.ledger)
      ∙ sym (leaves_new (fresh_number y f ls) (fresh_state y) (state (blank_register 0) f ls) h)

  pub fresh_old : (fresh_number y f ls ≡ 0 → ⊥) → (r : Register) → r ≡ blank_register 0 → state r f ls ≡ fresh_after y f ls
  unfolding fresh_after
  fresh_old h r e =
      ap (λ (x : Register). state x f ls) e
      ∙ sym (leaves_old (fresh_number y f ls) (fresh_state y) (state (blank_register 0) f ls) h)

-- what each exit of `fresh_register` leaves
pub ruleset fresh_exits = (fresh_new, fresh_old)
