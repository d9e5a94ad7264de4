-- A cession as a host names it: by numbers, as wide as a record's.
-- Assumes nothing.
use Rattle.std.specs.Prelude.{ℕ}
use Rattle.cession_decision.specs.declared.deciding.Cession.{Cession}

abbrev pub cession_of : ℕ → ℕ → ℕ → ℕ → ℕ → Cession
cession_of giver receiver point arrival amount =
    record { giver = giver; receiver = receiver; point = point; arrival = arrival; amount = amount }
