-- The smallest of some numbers.
-- Assumes nothing.
use Rattle.std.specs.Prelude.{ℕ, zero, suc, min}

-- the smallest of m and of g 0 to g (n - 1)
unfoldable pub smallest_of : ℕ → (ℕ → ℕ) → ℕ → ℕ
smallest_of m g zero = m
smallest_of m g (suc n) = min (smallest_of m g n) (g n)
