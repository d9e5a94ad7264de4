-- Laws of signed sums, and of a signed local of 64 bits that holds one.
-- Assumes nothing.
use mathlib.Core.Path.{◌≡◌, refl, ap₂, ◌∙◌}
use mathlib.Core.Bool.{Bool, true, false, cond}
use Prim.Native.Nat.{ℕ, zero, suc, ◌+◌, ◌-◌, ◌*◌, ◌≤◌, ◌<◌}
use native.Mathlib.Nat.{le_trans, lt_trans, lt_of_le_of_lt, mul-le-mul_left}
use native.Mathlib.Numerals.{add-one}
use native.Mathlib.Omega.{arith}
use borrow.Author.Tests.{leb-true, leb-false}
use lib.Dec.{leb, ltb, lit<}
use lib.IntN.{ℤ, pos, negsuc, sub_ℕ, ◌+ℤ◌, +ℤ_idr}
use lib.Signed.{mag}
use mir.Syntax.{w64}
use mir.Val.{SFits, to_z, of_z}
use mir.Facts.{to_z-of_z}
use Rattle.parts.specs.Limits.{line_count}
use Rattle.holdings.specs.Holdings.{signed_sum}

-- the sum of no numbers, of one more, and of the same numbers
pub sum_none : (g : ℕ → ℤ) → signed_sum 0 g ≡ pos 0
unfolding signed_sum
sum_none g = refl

pub sum_more : (n : ℕ) (g : ℕ → ℤ) → signed_sum (n + 1) g ≡ signed_sum n g +ℤ g n
unfolding signed_sum
sum_more n g = rw add-one

pub sum_same : (n : ℕ) (f g : ℕ → ℤ) → ((k : ℕ) → k < n → f k ≡ g k) → signed_sum n f ≡ signed_sum n g
unfolding signed_sum
sum_same zero f g h = refl
sum_same (suc n) f g h = ap₂ ◌+ℤ◌ (sum_same n f g (λ k l. h k (omega arith))) (h n (omega arith))

-- numbers of 0 behind the first m add nothing
pub sum_front : (n m : ℕ) (g : ℕ → ℤ) → m ≤ n → ((k : ℕ) → m ≤ k → k < n → g k ≡ pos 0) → signed_sum n g ≡ signed_sum m g
unfolding signed_sum
sum_front zero m g l h = let e : m ≡ 0 = omega arith in rw e refl
sum_front (suc n) m g l h = go (leb m n) refl (λ f. sum_front n m g f (λ k a b. h k a (omega arith)))
  where
    go : (t : Bool) → leb m n ≡ t → (m ≤ n → signed_sum n g ≡ signed_sum m g) → signed_sum n g +ℤ g n ≡ signed_sum m g
    go true e rest =
        let f : m ≤ n = leb-true m n e in
        ap₂ ◌+ℤ◌ (rest f) (h n f (omega arith)) ∙ +ℤ_idr _
    go false e rest = let f : m ≡ suc n = omega (arith, l, leb-false m n e) in rw f refl

-- how large a sum can be
difference_mag : (a b : ℕ) → mag (sub_ℕ a (suc b)) ≤ a + b
difference_mag a b = go (ltb a (suc b)) refl
  where
    go : (t : Bool) → ltb a (suc b) ≡ t → mag (cond t (negsuc (suc b - suc a)) (pos (a - suc b))) ≤ a + b
    go true e = omega arith
    go false e = omega arith

sum_mag : (x y : ℤ) → mag (x +ℤ y) ≤ mag x + mag y + 1
sum_mag (pos a) (pos b) = omega arith
sum_mag (pos a) (negsuc b) = le_trans (difference_mag a b) (omega arith)
sum_mag (negsuc a) (pos b) = le_trans (difference_mag b a) (omega arith)
sum_mag (negsuc a) (negsuc b) = omega arith

-- a number of 32 bits fits 64
pub widened : {z : ℤ} → mag z < 2147483648 → SFits w64 z
widened h = record { sfits = lt_trans h (lit< tt) }

-- the sum of at most 4,096 numbers of 32 bits does, and a field holds it
sum_fits : (z : ℤ) (k : ℕ) → mag z ≤ 2147483648 * k → k ≤ 2 * line_count → SFits w64 z
sum_fits z k small few = record { sfits = lt_of_le_of_lt small (lt_of_le_of_lt (mul-le-mul_left 2147483648 most) (lit< tt)) }
  where
    most : k ≤ 4096
    most = omega arith

pub field_held : (z : ℤ) (k : ℕ) → mag z ≤ 2147483648 * k → k ≤ 2 * line_count → to_z w64 (of_z w64 z) ≡ z
field_held z k small few = to_z-of_z {w = w64} (sum_fits z k small few)

-- one more number: the local holds the sum
module _ (held : ℕ) (z x : ℤ) (k : ℕ) (e : to_z w64 held ≡ z) (small : mag z ≤ 2147483648 * k) (few : k < 2 * line_count) (bound : mag x < 2147483648) where
  pub added_small : mag (z +ℤ x) ≤ 2147483648 * (k + 1)
  added_small = le_trans (sum_mag z x) (omega arith)

  both : to_z w64 held +ℤ to_z w64 (of_z w64 x) ≡ z +ℤ x
  both = ap₂ ◌+ℤ◌ e (to_z-of_z {w = w64} {z = x} (widened bound))

  pub added_fits : SFits w64 (to_z w64 held +ℤ to_z w64 (of_z w64 x))
  added_fits = rw both (sum_fits (z +ℤ x) (k + 1) added_small (omega arith))

  pub added : to_z w64 (of_z w64 (to_z w64 held +ℤ to_z w64 (of_z w64 x))) ≡ z +ℤ x
  added = to_z-of_z {w = w64} added_fits ∙ both
