-- Document 01, "The register" and question 1: accounts of the users.
-- Assumes nothing.
use Rattle.std.specs.Prelude.{Bool, ◌||◌, List, [], ◌∷◌, leb, eqb}
use Rattle.parts.specs.declared.accounts.Account.{Account}
use Rattle.parts.specs.Limits.{most_guarantee}
use Rattle.parts.specs.Tests.{every}

-- "A user on file has a guarantee of 0 to 10^15 and a commitment", "each commitment at most its guarantee, users not on file at 0"
abbrev pub absent_tests : Account → List Bool
absent_tests a = eqb a.on_file 0 ∷ eqb a.guarantee 0 ∷ eqb a.commitment 0 ∷ []

abbrev pub is_on_file : Account → Bool
is_on_file a = eqb a.on_file 1

abbrev pub on_file_tests : Account → List Bool
on_file_tests a = is_on_file a ∷ leb a.guarantee most_guarantee ∷ leb a.commitment a.guarantee ∷ []

abbrev pub account_ok : Account → Bool
account_ok a = every (absent_tests a) || every (on_file_tests a)
