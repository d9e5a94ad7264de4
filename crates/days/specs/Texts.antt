-- A date as it is printed: 2024-03-31.
-- Assumes nothing.
use Rattle.std.specs.Prelude.{ℕ, ◌-◌, ◌^◌, false, List, [], ◌∷◌, ◌++◌}
use Rattle.std.specs.Fmt.{decimal, padded_integral, format_spec}
use Rattle.days.specs.declared.dates.Date.{Date}

-- a number in decimal, in two digits at least, as `{:02}` prints it
abbrev pub two_digits : ℕ → List ℕ
two_digits n = padded_integral (format_spec 32 0 4 2 (2 ^ 64 - 1)) false [] (decimal n)

-- a hyphen, and the text after it
abbrev pub hyphen : List ℕ → List ℕ
hyphen text = 45 ∷ text

-- year, month and day of the month, by hyphens
abbrev pub date_text : Date → List ℕ
date_text d = decimal d.year ++ hyphen (two_digits d.month) ++ hyphen (two_digits d.day)
