-- The numbers that a call may be given are 0 and those of its questions.
-- Assumes nothing.
use mathlib.Core.Path.{◌≡◌, refl}
use mathlib.Core.Bool.{Bool, true, false, cond, ◌||◌}
use mathlib.Core.List.{List, [], ◌∷◌}
use Prim.Native.Nat.{ℕ}
use lib.Dec.{eqb}
use borrow.Author.Tests.{eq-eqb}
use Rattle.parts.specs.Answers.{Question, ◌asks◌, number_of}
use Rattle.std.proofs.lemmas.Bool.{or_left, or_right}
use Rattle.shares.specs.Shares.{number_if}
use Rattle.reckoning.specs.Reasons.{one_of}

-- the numbers of the questions
abbrev pub numbers_asked : List Question → List ℕ
numbers_asked [] = []
numbers_asked (n asks b ∷ qs) = n ∷ numbers_asked qs

-- one number more
wider : (n m k : ℕ) (l : List ℕ) → one_of n (m ∷ l) ≡ true → one_of n (m ∷ k ∷ l) ≡ true
wider n m k l h = go (eqb n m) h
  where
    go : (t : Bool) → (t || one_of n l) ≡ true → (t || (eqb n k || one_of n l)) ≡ true
    go true e = refl
    go false e = or_right (eqb n k) (one_of n l) e

pub among : (qs : List Question) → one_of (number_of qs) (0 ∷ numbers_asked qs) ≡ true
among [] = refl
among (n asks true ∷ qs) = wider (number_of qs) 0 n (numbers_asked qs) (among qs)
among (n asks false ∷ qs) = or_right (eqb n 0) (eqb n n || one_of n (numbers_asked qs)) (or_left (eqb n n) (one_of n (numbers_asked qs)) (eq-eqb n n refl))

-- a line of a batch: 12 too
pub among_lines : (number share : ℕ) (l : List ℕ) → one_of number (0 ∷ l) ≡ true → one_of (number_if number share) (0 ∷ 12 ∷ l) ≡ true
among_lines number share l h = go (eqb number 0) (eqb share 0)
  where
    go : (x y : Bool) → one_of (cond x (cond y 12 0) number) (0 ∷ 12 ∷ l) ≡ true
    go true true = refl
    go true false = refl
    go false y = wider number 0 12 l h
