-- Document 01, "The changing calls", "(004, 5.8.3, pro quota)": what each line of a batch gets.
-- Assumes nothing.
use Rattle.std.specs.Prelude.{ℕ, ◌*◌, ◌/◌, cond, List, leb, eqb, get_or, replicate}
use Rattle.parts.specs.declared.registers.Register.{Register}
use Rattle.amounts.specs.Ranges.{replaced, least_of, sum_below}
use Rattle.parts.specs.Registers.{State}
use Rattle.amounts.specs.Amounts.{year_days, entry_at}
use Rattle.shares.specs.Batches.{Batch, lines_of, asked_of, line_number}

-- "F is the smallest free amount of the year": of the n amounts from place `at` on
abbrev pub smallest : List ℕ → ℕ → ℕ → ℕ
smallest f at n = least_of f at n (get_or f at 0)

unfoldable pub free_of_year : State → ℕ → ℕ
free_of_year s p = smallest s.free (entry_at p 0) (year_days s.register.year)

-- "S the sum of the asked amounts of the lines that pass 2, 14, 5 and 11": what counts of a line's asked amount, by the number that these
-- questions gave it
abbrev pub counted : ℕ → ℕ → ℕ
counted number a = cond (eqb number 0) a 0

abbrev pub counted_at : Register → Batch → ℕ → ℕ
counted_at r b i = counted (line_number r b i) (asked_of b i)

unfoldable pub sum_asked : Register → Batch → ℕ
sum_asked r b = sum_below (lines_of b) (counted_at r b)

-- "If S is at most F each gets what it asked, else asked × F / S rounded down"
abbrev pub pro_quota : ℕ → ℕ → ℕ → ℕ
pro_quota F S a = cond (leb S F) a (a * F / S)

-- "a refused line has share 0"
abbrev pub share_if : ℕ → ℕ → ℕ → ℕ → ℕ
share_if F S number a = cond (eqb number 0) (pro_quota F S a) 0

-- "and 12 if its share is 0"
abbrev pub number_if : ℕ → ℕ → ℕ
number_if number share = cond (eqb number 0) (cond (eqb share 0) 12 0) number

-- the share and the number of line i of a batch
unfoldable pub share_of : State → Batch → ℕ → ℕ
share_of s b i = share_if (free_of_year s b.point) (sum_asked s.register b) (line_number s.register b i) (asked_of b i)

unfoldable pub number_of_line : State → Batch → ℕ → ℕ
number_of_line s b i = number_if (line_number s.register b i) (share_of s b i)

-- the list of g 0 to g (n - 1)
unfoldable pub list_of : ℕ → (ℕ → ℕ) → List ℕ
list_of n g = replaced (replicate n 0) 0 n g
