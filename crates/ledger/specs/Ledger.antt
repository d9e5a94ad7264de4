-- Document 01, "The register": the ledger's lines. The lent ledger has five numbers for each line in turn: user, point, kind,
-- first day and amount, the amount as the 32 bits of a signed number. Nothing else knows where a field stands.
-- Assumes nothing.
use Rattle.std.specs.Prelude.{ℕ, ◌+◌, ◌*◌, ◌-◌, ◌/◌, ◌≤◌, Bool, cond, List, ltb, eqb, ℤ, pos, get_or, set, length, replicate}
use Rattle.std.specs.Int.{w32}
use Rattle.std.proofs.Common.{to_z, of_z}
use Rattle.calendar.specs.ThermalYears.{thermal_last}
use Rattle.calendar.specs.Deadlines.{next_first}
use Rattle.ledger.specs.declared.ledger.Line.{Line}
use Rattle.parts.specs.Limits.{line_length, ledger_length}

-- 32 bits read as a signed number (two's complement), and back
abbrev pub signed_of : ℕ → ℤ
signed_of n = to_z w32 n

abbrev pub bits_of : ℤ → ℕ
bits_of z = of_z w32 z

-- line i lies in the list, whole; and the test of it
abbrev pub Holds : List ℕ → ℕ → Type 0
Holds ls i = line_length * i + line_length ≤ length ls

abbrev pub has_line : List ℕ → ℕ → Bool
has_line ls i = ltb i (length ls / line_length)

-- "A ledger line has user, point, kind (1 annual, 2 month, 3 day), first day and a signed amount"
unfoldable pub fields_at : List ℕ → ℕ → Line
fields_at ls i =
    record {
      user = get_or ls (line_length * i) 0;
      point = get_or ls (line_length * i + 1) 0;
      kind = get_or ls (line_length * i + 2) 0;
      first = get_or ls (line_length * i + 3) 0;
      amount = signed_of (get_or ls (line_length * i + 4) 0);
    }

unfoldable pub with_fields : List ℕ → ℕ → Line → List ℕ
with_fields ls i l =
    set
    (set
    (set
    (set (set ls (line_length * i) l.user) (line_length * i + 1) l.point)
    (line_length * i + 2)
    l.kind)
    (line_length * i + 3)
    l.first)
    (line_length * i + 4)
    (bits_of l.amount)

-- a line of zeros
abbrev pub no_line : Line
no_line = record { user = 0; point = 0; kind = 0; first = 0; amount = pos 0 }

-- line i of the ledger; past the end it is a line of zeros
unfoldable pub line_at : List ℕ → ℕ → Line
line_at ls i = cond (has_line ls i) (fields_at ls i) no_line

-- the ledger with l as line i; past the end nothing is written
unfoldable pub with_line : List ℕ → ℕ → Line → List ℕ
with_line ls i l = cond (has_line ls i) (with_fields ls i l) ls

-- an empty ledger
abbrev pub empty_ledger : List ℕ
empty_ledger = replicate ledger_length 0

-- "its last day is implied: annual lines end with the year, month lines with the month, day lines on that day", in thermal year Y
unfoldable pub line_last : ℕ → Line → ℕ
line_last y l =
    cond (eqb l.kind 1) (thermal_last y)
    (cond (eqb l.kind 2) (next_first l.first - 1)
    l.first)
