-- What every call keeps of a register and the reckoning of the calls before it: they agree, what users hold backs their commitments, and
-- they hold by the ledger what they hold by the reckoning.
-- Assumes nothing.
use mathlib.Core.Path.{◌≡◌, refl, ap}
use mathlib.Core.Bool.{true}
use Prim.Native.Nat.{ℕ, ◌+◌}
use lib.Signed.{mag}
use Rattle.calendar.specs.ThermalYears.{is_thermal_year}
use Rattle.parts.specs.Registers.{State, blank_register}
use Rattle.register.specs.Fresh.{fresh_state}
use Rattle.expected.specs.Reckoning.{Reckoning, received_on, ceded_on, begin}
use Rattle.expected.proofs.Agreement.{Agree, agree_fresh}
use Rattle.reckoning.proofs.Backing.{holding, Backed, nothing_held, backed_fresh}

-- by the reckoning a user holds what he was granted and took over, less what he ceded
abbrev pub HeldBy : State → Reckoning → Type 0
HeldBy s k = (u p d : ℕ) → holding s u p d + ceded_on k u p d ≡ received_on k u p d

pub record Kept (s : State) (k : Reckoning) : Type 0 where
  pub agrees : Agree s k
  pub backed : Backed s
  pub held : HeldBy s k

-- ---- at the start
held_fresh : (y : ℕ) → HeldBy (fresh_state y) (begin y)
unfolding blank_register
held_fresh y u p d = ap (λ (n : ℕ). n + 0) (ap mag (nothing_held (fresh_state y) refl u p d))

pub kept_fresh : (y : ℕ) → is_thermal_year y ≡ true → Kept (fresh_state y) (begin y)
kept_fresh y h = record { agrees = agree_fresh y h; backed = backed_fresh y h; held = held_fresh y }
