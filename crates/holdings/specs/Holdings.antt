-- Document 01, question 10: "Does the giver hold the amount on every day of the span? Held is the sum of his ledger lines there; the
-- first gas-day with too little settles it."
-- Assumes nothing.
use Rattle.std.specs.Prelude.{ℕ, zero, suc, ◌+◌, ◌≤◌, ◌<◌, min, ◌≡◌, Bool, true, false, cond, not, ◌&&◌, List, eqb, ℤ, pos, ◌+ℤ◌, Option, Some, None}
use Rattle.std.specs.Int.Signed.{lt_z}
use Rattle.days.specs.Days.{between}
use Rattle.calendar.specs.ThermalYears.{in_thermal_year}
use Rattle.ledger.specs.declared.ledger.Line.{Line}
use Rattle.parts.specs.Limits.{line_count}
use Rattle.parts.specs.Tests.{all_below}
use Rattle.ledger.specs.Ledger.{line_at, line_last}
use Rattle.amounts.specs.Amounts.{span_days}
use Rattle.holdings.specs.declared.holdings.Holding.{Holding}

-- the sum of g 0 to g (n - 1), of signed numbers
unfoldable pub signed_sum : ℕ → (ℕ → ℤ) → ℤ
signed_sum zero g = pos 0
signed_sum (suc n) g = signed_sum n g +ℤ g n

-- "his ledger lines there": a line of the user at the point
abbrev pub is_his : ℕ → ℕ → Line → Bool
is_his user point l = eqb l.user user && eqb l.point point

-- a line counts on each gas-day from its first day to its last, which its kind implies (`line_last`), in thermal year Y
abbrev pub covers_day : ℕ → ℕ → Line → Bool
covers_day y d l = between l.first (line_last y l) d

-- what a line adds to what the user holds at the point on gas-day d
abbrev pub part_of : ℕ → ℕ → ℕ → ℕ → Line → ℤ
part_of y user point d l = cond (is_his user point l && covers_day y d l) l.amount (pos 0)

-- the same of line i of the ledger
abbrev pub part_at : ℕ → List ℕ → ℕ → ℕ → ℕ → ℕ → ℤ
part_at y ls user point d i = part_of y user point d (line_at ls i)

-- "Held is the sum of his ledger lines there": on gas-day d, over the n lines of the ledger that are used
unfoldable pub held_on : ℕ → ℕ → List ℕ → ℕ → ℕ → ℕ → ℤ
held_on y n ls user point d = signed_sum n (part_at y ls user point d)

-- "too little": less than the amount
abbrev pub too_little : ℕ → ℕ → List ℕ → Holding → ℕ → Bool
too_little y n ls h d = lt_z (held_on y n ls h.user h.point d) (pos h.amount)

-- "Does the giver hold the amount on every day of the span?"
abbrev pub holds_on : ℕ → ℕ → List ℕ → Holding → ℕ → Bool
holds_on y n ls h k = not (too_little y n ls h (h.first + k))

unfoldable pub holds_throughout : ℕ → ℕ → List ℕ → Holding → Bool
holds_throughout y n ls h = all_below (span_days h.first h.last) (holds_on y n ls h)

-- "the first gas-day with too little settles it": the first of n days from d on that a test holds of
unfoldable pub first_short : (ℕ → Bool) → ℕ → ℕ → Option ℕ
first_short short zero d = None
first_short short (suc n) d = cond (short d) (Some d) (first_short short n (suc d))

-- ---- the same for any register, also for one that is not in order
-- what question 1 asks of the n lines that are used, so far as it matters here: they are at most 2,048, and each begins in the year
pub record LinesIn (y n : ℕ) (ls : List ℕ) : Type 0 where
  pub few : n ≤ line_count
  pub firsts : (i : ℕ) → i < n → in_thermal_year y (line_at ls i).first ≡ true

-- a line whose first day lies outside the year adds nothing, and no line is counted after the 2,048th. In a register that is in order
-- there are no such lines (`lines_in`), and this is what is held (`held_in_lem`)
abbrev pub part_in : ℕ → List ℕ → ℕ → ℕ → ℕ → ℕ → ℤ
part_in y ls user point d i = cond (in_thermal_year y (line_at ls i).first) (part_at y ls user point d i) (pos 0)

unfoldable pub held_in : ℕ → ℕ → List ℕ → ℕ → ℕ → ℕ → ℤ
held_in y n ls user point d = signed_sum (min n line_count) (part_in y ls user point d)

abbrev pub short_in : ℕ → ℕ → List ℕ → Holding → ℕ → Bool
short_in y n ls h d = lt_z (held_in y n ls h.user h.point d) (pos h.amount)

-- the first gas-day of the span with too little
unfoldable pub held_answer : ℕ → ℕ → List ℕ → Holding → Option ℕ
held_answer y n ls h = first_short (short_in y n ls h) (span_days h.first h.last) h.first

-- whether there is none, and the number of question 10 (`held_number`)
abbrev pub is_throughout : Option ℕ → Bool
is_throughout None = true
is_throughout (Some d) = false

abbrev pub number_of_held : Option ℕ → ℕ
number_of_held None = 0
number_of_held (Some d) = 10

-- the day as a number for a host; where there is none it is 65,536, which no gas-day has
abbrev pub short_day : Option ℕ → ℕ
short_day None = 65536
short_day (Some d) = d
