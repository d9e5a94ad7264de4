-- Runs of numbers: replaced, summed, and their smallest.
-- Assumes nothing.
use Rattle.std.specs.Prelude.{ℕ, zero, suc, ◌+◌, min, List, get_or, set}

-- the list with the n elements from place `at` on replaced by g 0, g 1 and so on; a place past the end is left out
unfoldable pub replaced : {A : Type 0} → List A → ℕ → ℕ → (ℕ → A) → List A
replaced l at zero g = l
replaced l at (suc n) g = set (replaced l at n g) (at + n) (g n)

-- the smallest of a number and of the n numbers from place `at` on; a number past the end is 0
unfoldable pub least_of : List ℕ → ℕ → ℕ → ℕ → ℕ
least_of l at zero m = m
least_of l at (suc n) m = min (least_of l at n m) (get_or l (at + n) 0)

-- the sum of g 0 to g (n - 1)
unfoldable pub sum_below : ℕ → (ℕ → ℕ) → ℕ
sum_below zero g = 0
sum_below (suc n) g = sum_below n g + g n
