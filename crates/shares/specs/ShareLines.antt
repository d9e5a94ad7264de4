-- Document 01, "The changing calls": the lists of a batch, and what its lines are told and get.
-- Assumes nothing.
use Rattle.std.specs.Prelude.{ℕ, Bool, cond, ◌&&◌, List, [], ltb, eqb, length}
use Rattle.days.specs.Days.{between}
use Rattle.calendar.specs.ThermalYears.{is_thermal_year}
use Rattle.parts.specs.declared.registers.Register.{Register}
use Rattle.parts.specs.Limits.{point_count, table_length}
use Rattle.parts.specs.Registers.{State, state}
use Rattle.shares.specs.Batches.{Batch, lines_of}
use Rattle.shares.specs.Shares.{share_of, number_of_line, list_of}

-- "1 to 64 lines"
abbrev pub most_lines : ℕ
most_lines = 64

-- question 2 of the batch as a whole: "point 0 to 31, [..] batch of 1 to 64 with four equally long lists". These are users, asked
-- amounts, and the two lent ones with m places for shares and n for numbers
abbrev pub lengths_fit : ℕ → ℕ → ℕ → ℕ → Bool
lengths_fit users asked m n = between 1 most_lines users && (eqb asked users && eqb m users && eqb n users)

abbrev pub batch_fields : Batch → ℕ → ℕ → Bool
batch_fields b m n = ltb b.point point_count && lengths_fit (lines_of b) (length b.asked) m n

-- "Shares and numbers go to two lent lists."
unfoldable pub shares_of : State → Batch → List ℕ
shares_of s b = list_of (lines_of b) (share_of s b)

unfoldable pub numbers_of : State → Batch → List ℕ
numbers_of s b = list_of (lines_of b) (number_of_line s b)

-- whether a batch can be shared out at all: in a thermal year, by a whole table of free amounts, and by question 2
abbrev pub can_share : Register → List ℕ → Batch → ℕ → ℕ → Bool
can_share r free b m n = is_thermal_year r.year && eqb (length free) table_length && batch_fields b m n

-- what the two lists hold afterwards: shares and numbers, or what they held before. The ledger tells nothing of either,
-- so any will do
unfoldable pub shares_listed : Register → List ℕ → Batch → List ℕ → List ℕ → List ℕ
shares_listed r free b shares numbers =
    cond (can_share r free b (length shares) (length numbers)) (shares_of (state r free []) b) shares

unfoldable pub numbers_listed : Register → List ℕ → Batch → List ℕ → List ℕ → List ℕ
numbers_listed r free b shares numbers =
    cond (can_share r free b (length shares) (length numbers)) (numbers_of (state r free []) b) numbers
