-- Document 01, "Report and runner": a line of the runner's output.
-- Assumes nothing.
use Rattle.std.specs.Prelude.{ℕ, zero, suc, ◌+◌, ◌/◌, ◌%◌, Bool, cond, List, [], ◌∷◌, ◌++◌, ltb, length}
use Rattle.std.proofs.lemmas.List.Edits.{sets}

-- the last digit of a number, in ASCII
abbrev pub last_digit : ℕ → ℕ
last_digit n = 48 + n % 10

-- a number in decimal, in at most k + 1 digits
unfoldable pub decimal_in : ℕ → ℕ → List ℕ
decimal_in zero n = last_digit n ∷ []
decimal_in (suc k) n = cond (ltb n 10) [] (decimal_in k (n / 10)) ++ (last_digit n ∷ [])

-- a number below 10 ^ 10, as each of 32 bits is
abbrev pub decimal : ℕ → List ℕ
decimal n = decimal_in 9 n

abbrev pub space : ℕ
space = 32

abbrev pub newline : ℕ
newline = 10

-- a number and the byte that ends it
unfoldable pub ended_by : ℕ → ℕ → List ℕ
ended_by n end = decimal n ++ (end ∷ [])

-- "For each it prints position from 1, number (0 accepted), and amount granted or ceded (else 0), by one space."
unfoldable pub answer_line : ℕ → ℕ → ℕ → List ℕ
answer_line position number amount = ended_by position space ++ (ended_by number space ++ ended_by amount newline)

-- three numbers of at most ten digits and the bytes that end them: no line is longer
abbrev pub longest_line : ℕ
longest_line = 33

-- whether too few bytes are left for it, from a place on
abbrev pub is_full : List ℕ → ℕ → Bool
is_full out at = ltb (length out) (at + longest_line)

-- the bytes after a line was put at a place, and the next place; where too few are left it is not put
unfoldable pub bytes_with : List ℕ → ℕ → List ℕ → List ℕ
bytes_with out at text = cond (is_full out at) out (sets out at text)

unfoldable pub place_after : List ℕ → ℕ → List ℕ → ℕ
place_after out at text = cond (is_full out at) at (at + length text)
