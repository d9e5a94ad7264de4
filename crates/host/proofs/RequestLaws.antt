-- What a request by numbers is, by its kind.
-- Assumes nothing.
use Prim.Native.Nat.{ℕ}
use mathlib.Core.Bool.{cond, and-false}
use mathlib.Core.Path.{◌≡◌, ap, sym, ◌∙◌}
use borrow.Author.Tests.{ne_eqb}
use Rattle.parts.specs.Registers.{State}
use Rattle.order.specs.Order.{in_order}
use Rattle.products.specs.declared.products.Product.{Product}
use Rattle.products.specs.declared.products.Product.TheVariants.{Annual, Month, Day}
use Rattle.requests.specs.RequestCapacity.{request_number}
use Rattle.host.specs.Requests.{product_of, request_of}

module _ (kind month day : ℕ) where
  pub is_annual : kind ≡ 1 → Annual ≡ product_of kind month day
  unfolding product_of
  is_annual e = rw e

  pub is_month_lem : kind ≡ 2 → Month month ≡ product_of kind month day
  unfolding product_of
  is_month_lem e = rw e

  pub is_day_lem : kind ≡ 3 → Day day ≡ product_of kind month day
  unfolding product_of
  is_day_lem e = rw e

  pub is_none : (kind ≡ 1 → ⊥) → (kind ≡ 2 → ⊥) → (kind ≡ 3 → ⊥) → Month 0 ≡ product_of kind month day
  unfolding product_of
  is_none a m d = rw (ne_eqb kind 1 a, ne_eqb kind 2 m, ne_eqb kind 3 d)

-- a month 0 is refused by question 2, after question 1
no_month : (s : State) (user point arrival amount : ℕ) → request_number s (request_of user point (Month 0) arrival amount) ≡ cond (in_order s) 2 1
unfolding request_number
no_month s user point arrival amount = rw and-false

-- a request of a kind that there is not is answered 2, and in a register that is not in order 1
pub another_kind : (s : State) (user point kind month day arrival amount : ℕ) → (kind ≡ 1 → ⊥) → (kind ≡ 2 → ⊥) → (kind ≡ 3 → ⊥)
    → request_number s (request_of user point (product_of kind month day) arrival amount) ≡ cond (in_order s) 2 1
another_kind s user point kind month day arrival amount a m d =
    ap (λ (x : Product). request_number s (request_of user point x arrival amount)) (sym (is_none kind month day a m d))
    ∙ no_month s user point arrival amount
