-- Laws of charges.
-- Assumes nothing.
use mathlib.Core.Path.{◌≡◌, ap}
use Prim.Native.Nat.{ℕ, ◌+◌, ◌≤◌, ◌<◌, min}
use native.Mathlib.Nat.{mul-le-mul}
use native.Mathlib.Omega.{arith}
use Rattle.parts.specs.declared.accounts.Account.{Account}
use Rattle.parts.specs.Limits.{row_length, most_amount, most_rate, most_guarantee}
use Rattle.parts.specs.Registers.{with_commitment}
use Rattle.parts.specs.Charges.{charge, most_word, charge_word, charged}

-- within the limits a charge is what document 01 says, and below 2^52
abbrev pub charge_limit : ℕ
charge_limit = 4503599627370496

pub charge_bound : (amount days rate : ℕ) → amount ≤ most_amount → days ≤ row_length → rate ≤ most_rate → charge amount days rate < charge_limit
charge_bound amount days rate a d r = omega (arith, mul-le-mul (mul-le-mul a d) r)

pub charge_in : (amount days rate : ℕ) → amount ≤ most_amount → days ≤ row_length → rate ≤ most_rate → charge_word amount days rate ≡ charge amount days rate
charge_in amount days rate a d r = omega (arith, charge_bound amount days rate a d r)

-- and a commitment within the limits is raised by it
pub charged_in : (a : Account) (c : ℕ) → a.commitment ≤ most_guarantee → c < charge_limit → charged a c ≡ with_commitment a (a.commitment + c)
charged_in a c h b =
    let e : min (a.commitment + c) most_word ≡ a.commitment + c = omega arith in
    ap (with_commitment a) e
