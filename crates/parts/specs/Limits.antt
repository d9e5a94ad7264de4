-- The limits of document 01, "The register", and how long the two lent lists are.
-- Assumes nothing.
use Rattle.std.specs.Prelude.{ℕ}

-- "32 points, 64 users and a ledger of at most 2,048 lines"
abbrev pub point_count : ℕ
point_count = 32

abbrev pub user_count : ℕ
user_count = 64

abbrev pub line_count : ℕ
line_count = 2048

-- "a lent table of exactly 11,712 numbers: 366 for each point in turn"
abbrev pub row_length : ℕ
row_length = 366

abbrev pub table_length : ℕ
table_length = 11712

-- "A ledger line has user, point, kind [..], first day and a signed amount": the lent ledger has these five numbers for each of its
-- 2,048 lines
abbrev pub line_length : ℕ
line_length = 5

abbrev pub ledger_length : ℕ
ledger_length = 10240

-- "a total of 1 to 9,999,999": also the largest amount
abbrev pub most_amount : ℕ
most_amount = 9999999

-- "a rate of 0 to 999,999"
abbrev pub most_rate : ℕ
most_rate = 999999

-- "a guarantee of 0 to 10^15"
abbrev pub most_guarantee : ℕ
most_guarantee = 1000000000000000
