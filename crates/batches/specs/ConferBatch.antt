-- Document 01, "The changing calls": batch.
-- Assumes nothing.
use Rattle.std.specs.Prelude.{ℕ, zero, suc, cond, List, [], ◌∷◌, eqb, length}
use Rattle.parts.specs.Registers.{State, point_at}
use Rattle.parts.specs.Points.{is_open}
use Rattle.parts.specs.Answers.{Question, ◌asks◌, number_of, leaves}
use Rattle.order.specs.Order.{in_order}
use Rattle.conferral.specs.declared.bookings.Grant.{Grant}
use Rattle.conferral.specs.Bookings.{lines_left, booked}
use Rattle.shares.specs.Batches.{Batch, lines_of, grant_of}
use Rattle.shares.specs.Shares.{share_of}
use Rattle.shares.specs.ShareLines.{batch_fields, shares_of, numbers_of}

-- "A batch as a whole meets 1, 2 (point, lengths), 3, 13": "for a batch as many as its lines"
abbrev pub batch_questions : State → Batch → ℕ → ℕ → List Question
batch_questions s b m n =
    1 asks in_order s
    ∷ 2 asks batch_fields b m n
    ∷ 3 asks is_open (point_at s.register.points b.point)
    ∷ 13 asks lines_left s.register (lines_of b)
    ∷ []

unfoldable pub batch_number : State → Batch → ℕ → ℕ → ℕ
batch_number s b m n = number_of (batch_questions s b m n)

-- "Each share above 0 is booked, in the order of the lines, as an annual grant from 1 October.": the first n lines
abbrev pub booked_if : State → Grant → State
booked_if t g = cond (eqb g.amount 0) t (booked t g)

unfoldable pub booked_lines : State → Batch → ℕ → State
booked_lines s b zero = s
booked_lines s b (suc n) = booked_if (booked_lines s b n) (grant_of s.register b n (share_of s b n))

unfoldable pub batch_after : State → Batch → ℕ → ℕ → State
batch_after s b m n = leaves (batch_number s b m n) (booked_lines s b (lines_of b)) s

-- what the two lent lists hold afterwards: shares and numbers, or what they held before a refused call
abbrev pub shares_after : State → Batch → List ℕ → List ℕ → List ℕ
shares_after s b shares numbers = leaves (batch_number s b (length shares) (length numbers)) (shares_of s b) shares

abbrev pub numbers_after : State → Batch → List ℕ → List ℕ → List ℕ
numbers_after s b shares numbers = leaves (batch_number s b (length shares) (length numbers)) (numbers_of s b) numbers
