-- Document 01, "The changing calls": place guarantee.
-- Assumes nothing.
use Rattle.std.specs.Prelude.{ℕ, Bool, ◌&&◌, List, [], ◌∷◌, leb, ltb}
use Rattle.parts.specs.declared.accounts.Account.{Account}
use Rattle.parts.specs.Limits.{user_count, most_guarantee}
use Rattle.parts.specs.Registers.{State, state, account_at, with_on_file, with_guarantee, with_account}
use Rattle.order.specs.Order.{in_order}
use Rattle.parts.specs.Answers.{Question, ◌asks◌, number_of, leaves}

-- question 2: "users 0 to 63, [..] guarantee"
abbrev pub place_fields : ℕ → ℕ → Bool
place_fields u guarantee = ltb u user_count && leb guarantee most_guarantee

-- questions 1, 2 and 6: "Is the new guarantee at least the commitment?"
abbrev pub place_questions : State → ℕ → ℕ → List Question
place_questions s u guarantee =
    1 asks in_order s
    ∷ 2 asks place_fields u guarantee
    ∷ 6 asks leb (account_at s.register.accounts u).commitment guarantee
    ∷ []

unfoldable pub place_number : State → ℕ → ℕ → ℕ
place_number s u guarantee = number_of (place_questions s u guarantee)

-- "puts the user on file or replaces the amount": the commitment stays
abbrev pub pledged : Account → ℕ → Account
pledged a guarantee = with_on_file (with_guarantee a guarantee) 1

unfoldable pub placed : State → ℕ → ℕ → State
placed s u guarantee =
    state (with_account s.register u (pledged (account_at s.register.accounts u) guarantee))
    s.free
    s.ledger

unfoldable pub place_after : State → ℕ → ℕ → State
place_after s u guarantee = leaves (place_number s u guarantee) (placed s u guarantee) s
