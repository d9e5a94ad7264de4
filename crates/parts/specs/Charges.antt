-- Document 01, "The register": charges, and an account that goes into one.
-- Assumes nothing.
use Rattle.std.specs.Prelude.{ℕ, ◌+◌, ◌*◌, ◌-◌, min}
use Rattle.parts.specs.declared.accounts.Account.{Account}
use Rattle.parts.specs.Registers.{with_commitment}

-- "A charge is amount × days of the span × rate."
abbrev pub charge : ℕ → ℕ → ℕ → ℕ
charge amount days rate = amount * days * rate

-- the largest number that 64 bits hold. A charge or a commitment that is larger is written as this one, which no guarantee
-- covers; within the limits none is (`charge_in`, `charged_in`)
abbrev pub most_word : ℕ
most_word = 18446744073709551615

abbrev pub charge_word : ℕ → ℕ → ℕ → ℕ
charge_word amount days rate = min (charge amount days rate) most_word

-- "A user's account goes into a charge and the charged account comes back": with its commitment raised, or lowered
abbrev pub charged : Account → ℕ → Account
charged a c = with_commitment a (min (a.commitment + c) most_word)

abbrev pub discharged : Account → ℕ → Account
discharged a c = with_commitment a (a.commitment - c)
