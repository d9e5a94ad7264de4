-- Terms of the contracts of private functions: how the code goes about it. No contract that a caller reads rests on them.
-- Assumes nothing.
use Rattle.std.specs.Prelude.{ℕ, zero, suc, List, get_or}
use Rattle.parts.specs.Registers.{State}
use Rattle.conferral.specs.Bookings.{book_after}
use Rattle.shares.specs.Batches.{grant_for}

-- the first n shares of a list, each booked where the register has room for it: a share of 0 never has
unfoldable pub book_some : State → ℕ → ℕ → List ℕ → List ℕ → ℕ → State
book_some s y p us shares zero = s
book_some s y p us shares (suc n) =
    book_after (book_some s y p us shares n) (grant_for y (get_or us n 0) p (get_or shares n 0))
