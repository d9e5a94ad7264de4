-- A request as a host names it: by numbers, as wide as a record's.
-- Assumes nothing.
use Rattle.std.specs.Prelude.{ℕ, cond, eqb}
use Rattle.products.specs.declared.products.Product.{Product}
use Rattle.products.specs.declared.products.Product.TheVariants.{Annual, Month, Day}
use Rattle.products.specs.declared.products.Request.{Request}

-- "1 annual, 2 month, 3 day". Question 2 asks for "kinds" too: another kind is the month 0, which that question refuses, in its turn
unfoldable pub product_of : ℕ → ℕ → ℕ → Product
product_of kind month day = cond (eqb kind 1) Annual (cond (eqb kind 2) (Month month) (cond (eqb kind 3) (Day day) (Month 0)))

abbrev pub request_of : ℕ → ℕ → Product → ℕ → ℕ → Request
request_of user point product arrival amount =
    record { user = user; point = point; product = product; arrival = arrival; amount = amount }
