-- Demand 3 of document 01, proved.
-- Assumes nothing.
use mathlib.Core.Path.{◌≡◌}
use mathlib.Core.Bool.{true}
use mathlib.Core.List.{List}
use Prim.Native.Nat.{ℕ}
use Rattle.calendar.specs.ThermalYears.{is_thermal_year}
use Rattle.parts.specs.Registers.{state, blank_register}
use Rattle.parts.proofs.AnswerLaws.{leaves_new}
use Rattle.register.specs.Fresh.{fresh_number, fresh_state, fresh_after}
use Rattle.reckoning.specs.Calls.{Call, after_all, answers}
use Rattle.reckoning.specs.Reckoning.{reckon, begin}
use Rattle.reckoning.specs.Demand3.{Demand3}
use Rattle.reckoning.proofs.Agreement.{Agree, agree_fresh, balances}
use Rattle.reckoning.proofs.BackedCalls.{list_backed}
use Rattle.reckoning.proofs.Treatment.{treated}
use Rattle.reckoning.proofs.ListSteps.{list_agrees}

pub demand_3 : (y : ℕ) → is_thermal_year y ≡ true → (cs : List Call) → Demand3 y cs
demand_3 y h cs =
    let agrees : (calls : List Call) → Agree (after_all (fresh_state y) calls) (reckon (begin y) calls (answers (fresh_state y) calls)) =
    λ calls. list_agrees (fresh_state y) (begin y) calls (agree_fresh y h) in
    record {
      after_all = balances _ _ (agrees cs);
      each = λ before c later e. treated _ _ c (agrees before) (list_backed y h before);
    }

-- what `fresh_register` leaves where it is accepted is the register that each list starts from
pub fresh_starts : (y : ℕ) (f ls : List ℕ) → fresh_number y f ls ≡ 0 → fresh_after y f ls ≡ fresh_state y
unfolding fresh_after
fresh_starts y f ls z = leaves_new (fresh_number y f ls) (fresh_state y) (state (blank_register 0) f ls) z
