-- Tests of many things at once.
-- Assumes nothing.
use Rattle.std.specs.Prelude.{ℕ, zero, suc, Bool, true, false, ◌&&◌, ◌||◌, List, [], ◌∷◌}

-- the test holds of every number below n
unfoldable pub all_below : ℕ → (ℕ → Bool) → Bool
all_below zero t = true
all_below (suc n) t = all_below n t && t n

-- the test holds of some number below n
unfoldable pub some_below : ℕ → (ℕ → Bool) → Bool
some_below zero t = false
some_below (suc n) t = some_below n t || t n

-- every test of a list holds, joined from the left as `a & b & c` is
abbrev pub every_from : Bool → List Bool → Bool
every_from a [] = a
every_from a (b ∷ l) = every_from (a && b) l

abbrev pub every : List Bool → Bool
every [] = true
every (a ∷ l) = every_from a l
