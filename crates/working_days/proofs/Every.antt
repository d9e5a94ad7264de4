-- A test at each number below n, which antt computes in one declaration, and what it says of each of them.
-- Assumes nothing.
use mathlib.Core.Path.{◌≡◌, subst, sym}
use mathlib.Core.Bool.{Bool, true, false, ◌&&◌}
use Prim.Native.Nat.{ℕ, zero, suc, ◌<◌}
use native.Mathlib.Nat.{not-suc-le-zero}
use native.Mathlib.Decide.{ℕ_discrete}
use native.Mathlib.Omega.{arith}
use lib.Dec.{T}

left : (a b : Bool) → T (a && b) → T a
left true b t = tt
left false b t = t

right : (a b : Bool) → T (a && b) → T b
right true b t = t
right false b t = absurd t

abbrev pub every : (ℕ → Bool) → ℕ → Bool
every f zero = true
every f (suc n) = f n && every f n

pub at : (f : ℕ → Bool) (n : ℕ) → T (every f n) → (k : ℕ) → k < n → T (f k)
at f zero t k h = absurd (not-suc-le-zero h)
at f (suc n) t k h = go (ℕ_discrete k n) (λ l. at f n (right (f n) (every f n) t) k l)
  where
    go : Dec (k ≡ n) → (k < n → T (f k)) → T (f k)
    go (yes e) r = subst (λ (m : ℕ). T (f m)) (sym e) (left (f n) (every f n) t)
    go (no d) r = r (omega arith)
