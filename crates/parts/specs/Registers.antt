-- Document 01, "The register": its parts, and one setter for each field.
-- Assumes nothing.
use Rattle.std.specs.Prelude.{ℕ, List, get_or, set, replicate}
use Rattle.parts.specs.declared.points.Point.{Point}
use Rattle.parts.specs.declared.accounts.Account.{Account}
use Rattle.parts.specs.declared.registers.Register.{Register}
use Rattle.parts.specs.declared.registers.View.{View}
use Rattle.parts.specs.Limits.{point_count, user_count}

-- the register with the two lists that are lent beside it: the free amounts and the ledger
pub record State : Type 0 where
  pub register : Register
  pub free : List ℕ
  pub ledger : List ℕ

abbrev pub state : Register → List ℕ → List ℕ → State
state r f l = record { register = r; free = f; ledger = l }

-- the same of a register and two lists that are lent together, to be read
abbrev pub state_in : View → State
state_in v = state v.register.now v.free.now v.ledger.now

-- a closed point, and the account of a user who is not on file
abbrev pub closed_point : Point
closed_point = record { kind = 0; total = 0; rate = 0 }

abbrev pub absent_user : Account
absent_user = record { on_file = 0; guarantee = 0; commitment = 0 }

-- point i and the account of user i; past the last a closed point and an absent user
abbrev pub point_at : List Point → ℕ → Point
point_at ps i = get_or ps i closed_point

abbrev pub account_at : List Account → ℕ → Account
account_at us i = get_or us i absent_user

-- a point of a kind, with its total and rate
abbrev pub point : ℕ → ℕ → ℕ → Point
point kind total rate = record { kind = kind; total = total; rate = rate }

-- an account with another field
abbrev pub with_on_file : Account → ℕ → Account
with_on_file a n = record { on_file = n; guarantee = a.guarantee; commitment = a.commitment }

abbrev pub with_guarantee : Account → ℕ → Account
with_guarantee a n = record { on_file = a.on_file; guarantee = n; commitment = a.commitment }

abbrev pub with_commitment : Account → ℕ → Account
with_commitment a n = record { on_file = a.on_file; guarantee = a.guarantee; commitment = n }

-- a register with another field
abbrev pub with_year : Register → ℕ → Register
with_year r y = record { year = y; points = r.points; accounts = r.accounts; lines = r.lines }

abbrev pub with_points : Register → List Point → Register
with_points r ps = record { year = r.year; points = ps; accounts = r.accounts; lines = r.lines }

abbrev pub with_accounts : Register → List Account → Register
with_accounts r us = record { year = r.year; points = r.points; accounts = us; lines = r.lines }

abbrev pub with_lines : Register → ℕ → Register
with_lines r n = record { year = r.year; points = r.points; accounts = r.accounts; lines = n }

-- a register with another point or another account
abbrev pub with_point : Register → ℕ → Point → Register
with_point r i p = with_points r (set r.points i p)

abbrev pub with_account : Register → ℕ → Account → Register
with_account r i a = with_accounts r (set r.accounts i a)

-- "no point open, no user on file, an empty ledger"
unfoldable pub blank_register : ℕ → Register
blank_register y =
    record {
      year = y;
      points = replicate point_count closed_point;
      accounts = replicate user_count absent_user;
      lines = 0;
    }
