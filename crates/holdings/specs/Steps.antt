-- Terms of the contracts of private functions: how the code goes about it. No contract that a caller reads rests on them.
-- Assumes nothing.
use Rattle.std.specs.Prelude.{ℕ, ◌-◌, ◌*◌, ◌≤◌, ◌≡◌, Bool, cond, not, ◌&&◌, List, eqb, leb, ℤ, pos, ◌+ℤ◌, get_or, length}
use Rattle.std.specs.Int.Signed.{mag, lt_z}
use Rattle.days.specs.Days.{between}
use Rattle.calendar.specs.declared.thermal_years.Span.{Span}
use Rattle.calendar.specs.ThermalYears.{span, is_thermal_year, thermal_first, thermal_last}
use Rattle.calendar.specs.Deadlines.{next_first}
use Rattle.ledger.specs.declared.ledger.Line.{Line}
use Rattle.parts.specs.Limits.{line_count}
use Rattle.holdings.specs.declared.holdings.Holding.{Holding}
use Rattle.holdings.specs.declared.gathering.GatheredLine.{GatheredLine}
use Rattle.holdings.specs.declared.gathering.Gathered.{Gathered}
use Rattle.holdings.specs.Holdings.{signed_sum, is_his, part_in}

-- the span of a thermal year; where there is none, its first day is after its last
abbrev pub bounds_of : ℕ → Span
bounds_of y = cond (is_thermal_year y) (span (thermal_first y) (thermal_last y)) (span 1 0)

-- the last day of a line, in a year that ends on a day
abbrev pub end_of : ℕ → Line → ℕ
end_of last l = cond (eqb l.kind 1) last (cond (eqb l.kind 2) (next_first l.first - 1) l.first)

-- a line that is gathered: the user's at the point, with its first day in the year
abbrev pub is_gathered : Holding → Span → Line → Bool
is_gathered h b l = is_his h.user h.point l && between b.first b.last l.first

-- what is kept of it
abbrev pub gathered_line : ℕ → Line → GatheredLine
gathered_line last l = record { span = span l.first (end_of last l); amount = l.amount }

-- what a line adds on a day
abbrev pub part_on : ℕ → GatheredLine → ℤ
part_on d c = cond (between c.span.first c.span.last d) c.amount (pos 0)

-- line k of those gathered, and the same of it
abbrev pub line_in : List ℕ → List ℕ → List ℤ → ℕ → GatheredLine
line_in firsts lasts amounts k = record { span = span (get_or firsts k 0) (get_or lasts k 0); amount = get_or amounts k (pos 0) }

abbrev pub gathered_part : List ℕ → List ℕ → List ℤ → ℕ → ℕ → ℤ
gathered_part firsts lasts amounts d k = part_on d (line_in firsts lasts amounts k)

-- a line that counts on every day of the span of a holding, and what it adds on each
abbrev pub counts_throughout : Holding → GatheredLine → Bool
counts_throughout h c = leb c.span.first h.first && leb h.last c.span.last

abbrev pub part_throughout : Holding → GatheredLine → ℤ
part_throughout h c = cond (counts_throughout h c) c.amount (pos 0)

-- one that counts on some days of it only, and the places that a line takes among those gathered
abbrev pub counts_on_some : Holding → GatheredLine → Bool
counts_on_some h c = (leb c.span.first h.last && leb h.first c.span.last) && not (counts_throughout h c)

abbrev pub places : Holding → GatheredLine → ℕ
places h c = cond (counts_on_some h c) 1 0

-- what the lines gathered sum to on a day
abbrev pub gathered_sum : Gathered → ℕ → ℤ
gathered_sum c d = c.base +ℤ signed_sum c.count (gathered_part c.firsts c.lasts c.amounts d)

-- there is room for each line
abbrev pub Sized : Gathered → Type 0
Sized c = (length c.firsts ≡ line_count) × (length c.lasts ≡ line_count) × (length c.amounts ≡ line_count)

-- all lines gathered: on every day of the span they sum to what the first n lines of the ledger do
pub record Gathers (y n : ℕ) (ls : List ℕ) (h : Holding) (c : Gathered) : Type 0 where
  pub few : c.count ≤ line_count
  pub size : Sized c
  pub small : mag c.base ≤ 2147483648 * line_count
  pub sums : (d : ℕ) → h.first ≤ d → d ≤ h.last → signed_sum n (part_in y ls h.user h.point d) ≡ gathered_sum c d

-- too little on a day, of what was gathered
abbrev pub gathered_short : Gathered → ℕ → ℕ → Bool
gathered_short c amount d = lt_z (gathered_sum c d) (pos amount)
