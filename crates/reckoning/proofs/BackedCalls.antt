-- After every list of calls from a fresh register what users hold backs their commitments.
-- Assumes nothing.
use mathlib.Core.Path.{◌≡◌, subst}
use mathlib.Core.Bool.{true}
use mathlib.Core.List.{List, [], ◌∷◌}
use Prim.Native.Nat.{ℕ}
use native.Mathlib.Decide.{ℕ_discrete}
use Rattle.calendar.specs.ThermalYears.{is_thermal_year}
use Rattle.parts.specs.Registers.{State}
use Rattle.register.specs.Fresh.{fresh_state}
use Rattle.register.specs.Sound.{Sound}
use Rattle.register.proofs.FreshKept.{fresh_sound}
use Rattle.reckoning.specs.Calls.{Call, open_point, place_guarantee, request_capacity, confer_batch, cede_capacity, turn_year, answer, after, after_all}
use Rattle.reckoning.proofs.CallLaws.{unaltered, call_sound}
use Rattle.reckoning.proofs.Backing.{Backed, backed_fresh}
use Rattle.reckoning.proofs.BackingSteps.{backed_open, backed_place, backed_turn, backed_request, backed_batch, backed_cession}

-- a call answered 0
accepted_backed : (s : State) (c : Call) → Sound s → Backed s → (answer s c).number ≡ 0 → Backed (after s c)
accepted_backed s (open_point p kind total rate) sound k z = backed_open s p kind total rate sound z k
accepted_backed s (place_guarantee u g) sound k z = backed_place s u g k z
accepted_backed s (request_capacity q) sound k z = backed_request s q sound z k
accepted_backed s (confer_batch b m n) sound k z = backed_batch s b m n sound z k
accepted_backed s (cede_capacity c) sound k z = backed_cession s c sound z k
accepted_backed s (turn_year y) sound k z = backed_turn s y sound z

-- any call, whatever it is answered
pub backed_call : (s : State) (c : Call) → Sound s → Backed s → Backed (after s c)
backed_call s c sound k = go (ℕ_discrete (answer s c).number 0)
  where
    go : Dec ((answer s c).number ≡ 0) → Backed (after s c)
    go (yes z) = accepted_backed s c sound k z
    go (no refused) = subst Backed (unaltered s c refused) k

-- a list
list_kept : (s : State) (cs : List Call) → Sound s → Backed s → Sound (after_all s cs) × Backed (after_all s cs)
list_kept s [] sound k = (sound, k)
list_kept s (c ∷ cs) sound k = list_kept (after s c) cs (call_sound s c sound) (backed_call s c sound k)

pub list_backed : (y : ℕ) → is_thermal_year y ≡ true → (cs : List Call) → Backed (after_all (fresh_state y) cs)
list_backed y h cs = (list_kept (fresh_state y) cs (fresh_sound y h) (backed_fresh y h)).1
