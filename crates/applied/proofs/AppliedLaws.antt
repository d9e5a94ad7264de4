-- What a call gives back is what it did.
-- Assumes nothing.
use mathlib.Core.Path.{◌≡◌, ap, ◌∙◌}
use mathlib.Core.List.{List}
use Prim.Native.Nat.{ℕ}
use Rattle.parts.specs.declared.registers.Register.{Register}
use Rattle.parts.specs.Registers.{State, state}

-- the register that a call gave back, handed on
pub register_now : (v r : Register) (f l : List ℕ) (t : State) → v ≡ r → state r f l ≡ t → state v f l ≡ t
register_now v r f l t e h = ap (λ (x : Register). state x f l) e ∙ h
