-- What the number of a refused call tells, where only one of its questions has that number: this one was answered no, and each one
-- before it yes.
-- Assumes nothing.
use mathlib.Core.Path.{◌≡◌, refl}
use mathlib.Core.Bool.{Bool, true, false, not, ◌&&◌}
use mathlib.Core.List.{List, [], ◌∷◌}
use Prim.Native.Nat.{ℕ, zero, suc, ◌<◌}
use native.Mathlib.Omega.{arith}
use lib.Dec.{eqb}
use borrow.Author.Tests.{eqb-false, not-true}
use Rattle.days.proofs.Ranges.{and_left, and_right}
use Rattle.parts.specs.Answers.{Question, ◌asks◌, number_of}

-- the number of the k-th question, from 0 on
abbrev pub number_at : List Question → ℕ → ℕ
number_at [] k = 0
number_at (n asks b ∷ qs) zero = n
number_at (n asks b ∷ qs) (suc k) = number_at qs k

-- no question has the number n; and none but the k-th has its number
abbrev pub without : ℕ → List Question → Bool
without n [] = true
without n (m asks b ∷ qs) = not (eqb m n) && without n qs

abbrev pub lone : List Question → ℕ → Bool
lone [] k = true
lone (n asks b ∷ qs) zero = without n qs
lone (n asks b ∷ qs) (suc k) = not (eqb n (number_at qs k)) && lone qs k

-- the k-th is answered no, and each one before it yes
abbrev pub RefusedAt : List Question → ℕ → Type 0
RefusedAt [] k = ⊥
RefusedAt (n asks b ∷ qs) zero = b ≡ false
RefusedAt (n asks b ∷ qs) (suc k) = (b ≡ true) × RefusedAt qs k

other_number : (n : ℕ) (qs : List Question) → without n qs ≡ true → 0 < n → number_of qs ≡ n → ⊥
other_number n [] h p e = omega (arith, p, e)
other_number n (m asks true ∷ qs) h p e = other_number n qs (and_right (not (eqb m n)) (without n qs) h) p e
other_number n (m asks false ∷ qs) h p e = eqb-false m n (not-true (eqb m n) (and_left (not (eqb m n)) (without n qs) h)) e

pub refused_at : (qs : List Question) (k : ℕ) → lone qs k ≡ true → 0 < number_at qs k → number_of qs ≡ number_at qs k → RefusedAt qs k
refused_at [] k r p e = absurd (omega (arith, p))
refused_at (n asks true ∷ qs) zero r p e = absurd (other_number n qs r p e)
refused_at (n asks false ∷ qs) zero r p e = refl
refused_at (n asks true ∷ qs) (suc k) r p e =
    (refl, refused_at qs k (and_right (not (eqb n (number_at qs k))) (lone qs k) r) p e)
refused_at (n asks false ∷ qs) (suc k) r p e =
    absurd (eqb-false n (number_at qs k) (not-true (eqb n (number_at qs k)) (and_left (not (eqb n (number_at qs k))) (lone qs k) r)) e)
