-- Terms of the contracts of private functions: how the code goes about it. No contract that a caller reads rests on them.
-- Assumes nothing.
use Rattle.std.specs.Prelude.{ℕ, ◌≤◌, ◌<◌, ◌≡◌, Bool, false, not, List, [], ◌∷◌, eqb, get_or, length, sum_by}
use Rattle.std.specs.List.{zip}
use Rattle.parts.specs.declared.points.Point.{Point}
use Rattle.parts.specs.declared.accounts.Account.{Account}
use Rattle.parts.specs.Limits.{most_amount}
use Rattle.parts.specs.Tests.{some_below}
use Rattle.parts.specs.Charges.{charge}
use Rattle.parts.specs.Accounts.{is_on_file}
use Rattle.parts.specs.Answers.{◌asks◌, number_of}
use Rattle.conferral.specs.Bookings.{covers}
use Rattle.shares.specs.Batches.{line_fields}
use Rattle.shares.specs.Shares.{counted, share_if, number_if}

-- the number of a line by its own questions, in a year of so many days: it names account x, at the point p, and `named` says whether an
-- earlier line names its user
unfoldable pub number_for : ℕ → Account → Point → ℕ → ℕ → Bool → ℕ
number_for days x p u amount named =
    number_of
    (2 asks line_fields u amount
    ∷ 14 asks not named
    ∷ 5 asks is_on_file x
    ∷ 11 asks covers x (charge amount days p.rate)
    ∷ [])

-- the users that the first n lines name are marked
abbrev pub Marked : List ℕ → ℕ → List Bool → Type 0
Marked us n marks = (u : ℕ) → u < 256 → get_or marks u false ≡ some_below n (λ j. eqb (get_or us j 0) u)

-- a line that passed the questions asked for no more than the limit
abbrev pub Passing : List ℕ → List ℕ → Type 0
Passing numbers amounts = (i : ℕ) → i < length amounts → get_or numbers i 0 ≡ 0 → get_or amounts i 0 ≤ most_amount

-- by lists: numbers has what the questions gave each line
abbrev pub counted_in : List ℕ → List ℕ → ℕ → ℕ
counted_in numbers amounts i = counted (get_or numbers i 0) (get_or amounts i 0)

-- the same, added up over the two lists
abbrev pub sum_in : List ℕ → List ℕ → ℕ
sum_in numbers amounts = sum_by (λ (p : ℕ × ℕ). counted p.0 p.1) (zip numbers amounts)

abbrev pub share_in : ℕ → ℕ → List ℕ → List ℕ → ℕ → ℕ
share_in F S numbers amounts i = share_if F S (get_or numbers i 0) (get_or amounts i 0)

abbrev pub number_in : ℕ → ℕ → List ℕ → List ℕ → ℕ → ℕ
number_in F S numbers amounts i = number_if (get_or numbers i 0) (share_in F S numbers amounts i)
