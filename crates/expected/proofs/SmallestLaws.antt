-- Laws of the smallest of some numbers: at most the number and each of the values, and it is one of them.
-- Assumes nothing.
use mathlib.Core.Path.{◌≡◌, refl, sym, ap, ap₂, subst}
use mathlib.Core.Logic.{⊎_elim, ◌⊎◌, inl, inr}
use mathlib.Core.List.{List}
use Prim.Native.Nat.{ℕ, zero, suc, ◌+◌, ◌≤◌, ◌<◌, min}
use native.Mathlib.Nat.{eq-or-lt_of_le}
use native.Mathlib.Decide.{dec_le}
use native.Mathlib.Omega.{arith}
use lib.ListN.{get_or}
use Rattle.amounts.specs.Ranges.{least_of}
use Rattle.expected.specs.Smallest.{smallest_of}

pub smallest_le : (m : ℕ) (g : ℕ → ℕ) (n : ℕ) → smallest_of m g n ≤ m
unfolding smallest_of
smallest_le m g zero = omega arith
smallest_le m g (suc n) = omega (arith, smallest_le m g n)

pub smallest_at : (m : ℕ) (g : ℕ → ℕ) (n k : ℕ) → k < n → smallest_of m g n ≤ g k
unfolding smallest_of
smallest_at m g zero k h = absurd (omega arith)
smallest_at m g (suc n) k h =
    ⊎_elim
    (λ (e : k ≡ n). subst (λ (j : ℕ). min (smallest_of m g n) (g n) ≤ g j) (sym e) (omega arith))
    (λ (lt : k < n). omega (arith, smallest_at m g n k lt))
    (eq-or-lt_of_le (omega arith))

pub smallest_is : (m : ℕ) (g : ℕ → ℕ) (n : ℕ) → (smallest_of m g n ≡ m) ⊎ ((k : ℕ) × ((k < n) × (g k ≡ smallest_of m g n)))
unfolding smallest_of
smallest_is m g zero = inl refl
smallest_is m g (suc n) = go (dec_le (smallest_of m g n) (g n)) (smallest_is m g n)
  where
    go : Dec (smallest_of m g n ≤ g n) → (smallest_of m g n ≡ m) ⊎ ((k : ℕ) × ((k < n) × (g k ≡ smallest_of m g n)))
        → (min (smallest_of m g n) (g n) ≡ m) ⊎ ((k : ℕ) × ((k < suc n) × (g k ≡ min (smallest_of m g n) (g n))))
    go (yes h) (inl e) = inl (omega (arith, h, e))
    go (yes h) (inr r) = inr (r.0, (omega (arith, r.1.0), omega (arith, h, r.1.1)))
    go (no h) r = inr (n, (omega arith, omega arith))

pub smallest_same : (m : ℕ) (g h : ℕ → ℕ) (n : ℕ) → ((k : ℕ) → k < n → g k ≡ h k) → smallest_of m g n ≡ smallest_of m h n
unfolding smallest_of
smallest_same m g h zero e = refl
smallest_same m g h (suc n) e = ap₂ min (smallest_same m g h n (λ k l. e k (omega arith))) (e n (omega arith))

-- of a run of numbers
pub least_smallest : (l : List ℕ) (at m n : ℕ) → least_of l at n m ≡ smallest_of m (λ k. get_or l (at + k) 0) n
unfolding least_of smallest_of
least_smallest l at m zero = refl
least_smallest l at m (suc n) = ap (λ (x : ℕ). min x (get_or l (at + n) 0)) (least_smallest l at m n)
