-- Laws of tests of many things at once.
-- Assumes nothing.
use Rattle.std.proofs.lemmas.Bool.{or_cases, or_left, or_right}
use mathlib.Core.Path.{◌≡◌, refl, sym, ap, ◌∙◌, subst}
use mathlib.Core.Bool.{Bool, true, false, ◌&&◌, ◌||◌, false≢true, true≢false}
use mathlib.Core.Logic.{⊎_elim, ◌⊎◌, inl, inr}
use mathlib.Core.List.{List, [], ◌∷◌}
use Prim.Native.Nat.{ℕ, zero, suc, ◌+◌, ◌≤◌, ◌<◌}
use native.Mathlib.Nat.{eq-or-lt_of_le, le_of_suc-le-suc, not-suc-le-zero}
use native.Mathlib.Numerals.{add-one}
use native.Mathlib.Omega.{arith}
use lib.ListN.{get_or}
use Rattle.days.proofs.Ranges.{and_left, and_right}
use Rattle.std.proofs.lemmas.Bool.{and_from as both}
use Rattle.parts.specs.Tests.{all_below, some_below, every, every_from}

pub and_false : (a b : Bool) → b ≡ false → (a && b) ≡ false
and_false true b h = h
and_false false b h = refl

-- ---- a list of tests
from_head : (a : Bool) (l : List Bool) → every_from a l ≡ true → a ≡ true
from_head a [] h = h
from_head a (b ∷ l) h = and_left a b (from_head (a && b) l h)

from_at : (a : Bool) (l : List Bool) (i : ℕ) → every_from a l ≡ true → get_or l i true ≡ true
from_at a [] i h = refl
from_at a (b ∷ l) zero h = and_right a b (from_head (a && b) l h)
from_at a (b ∷ l) (suc i) h = from_at (a && b) l i h

-- the i-th test of a list that all hold
pub every_at : (l : List Bool) (i : ℕ) → every l ≡ true → get_or l i true ≡ true
every_at [] i h = refl
every_at (a ∷ l) zero h = from_head a l h
every_at (a ∷ l) (suc i) h = from_at a l i h

from_not : (l : List Bool) → every_from false l ≡ false
from_not [] = refl
from_not (b ∷ l) = from_not l

from_false : (a : Bool) (l : List Bool) (i : ℕ) → get_or l i true ≡ false → every_from a l ≡ false
from_false a [] i h = absurd (false≢true (sym h))
from_false a (b ∷ l) zero h = ap (λ (x : Bool). every_from x l) (and_false a b h) ∙ from_not l
from_false a (b ∷ l) (suc i) h = from_false (a && b) l i h

-- one test fails
pub every_false : (l : List Bool) (i : ℕ) → get_or l i true ≡ false → every l ≡ false
every_false [] i h = absurd (false≢true (sym h))
every_false (a ∷ l) zero h = ap (λ (x : Bool). every_from x l) h ∙ from_not l
every_false (a ∷ l) (suc i) h = from_false a l i h

-- ---- a test of every number below n
-- none tested yet
pub all_none : (t : ℕ → Bool) → true ≡ all_below 0 t
unfolding all_below
all_none t = refl

-- one more
pub all_more : (t : ℕ → Bool) (i : ℕ) → all_below (i + 1) t ≡ (all_below i t && t i)
unfolding all_below
all_more t i = rw (add-one i)

-- a loop that leaves early
pub all_fails : (t : ℕ → Bool) (n i : ℕ) → i < n → t i ≡ false → all_below n t ≡ false
unfolding all_below
all_fails t zero i l h = absurd (not-suc-le-zero l)
all_fails t (suc n) i l h =
    ⊎_elim
    (λ e. and_false (all_below n t) (t n) (subst (λ (k : ℕ). t k ≡ false) e h))
    (λ lt. ap (λ (b : Bool). b && t n) (all_fails t n i lt h))
    (eq-or-lt_of_le (le_of_suc-le-suc l))

-- what holds of all holds of each, and back
pub all_at : (t : ℕ → Bool) (n i : ℕ) → all_below n t ≡ true → i < n → t i ≡ true
unfolding all_below
all_at t zero i h l = absurd (not-suc-le-zero l)
all_at t (suc n) i h l =
    ⊎_elim
    (λ e. subst (λ (k : ℕ). t k ≡ true) (sym e) (and_right (all_below n t) (t n) h))
    (λ lt. all_at t n i (and_left (all_below n t) (t n) h) lt)
    (eq-or-lt_of_le (le_of_suc-le-suc l))

pub all_of : (t : ℕ → Bool) (n : ℕ) → ((i : ℕ) → i < n → t i ≡ true) → all_below n t ≡ true
unfolding all_below
all_of t zero h = refl
all_of t (suc n) h =
    both (all_below n t) (t n) (all_of t n (λ i l. h i (omega arith))) (h n (omega arith))

-- a test that does not hold of all fails at one
pub fails_at : (t : ℕ → Bool) (n : ℕ) → all_below n t ≡ false → (k : ℕ) × ((k < n) × (t k ≡ false))
unfolding all_below
fails_at t zero h = absurd (true≢false h)
fails_at t (suc n) h = go (all_below n t) (λ e. fails_at t n e) refl h
  where
    go : (b : Bool) → (all_below n t ≡ false → (k : ℕ) × ((k < n) × (t k ≡ false))) → all_below n t ≡ b → (b && t n) ≡ false → (k : ℕ) × ((k < suc n) × (t k ≡ false))
    go true earlier e f = (n, (omega arith, f))
    go false earlier e f = let r = earlier e in (r.0, (omega (arith, r.1.0), r.1.1))

-- tests that agree below n
pub all_same : (t u : ℕ → Bool) (n : ℕ) → ((i : ℕ) → i < n → t i ≡ u i) → all_below n t ≡ all_below n u
unfolding all_below
all_same t u zero h = refl
all_same t u (suc n) h = rw (all_same t u n (λ i l. h i (omega arith)), h n (omega arith))

-- a turn of a loop that tests all: `ok` so far, and the next test's answer b
pub all_step : (t : ℕ → Bool) (i : ℕ) (ok b : Bool) → ok ≡ all_below i t → b ≡ t i → (ok && b) ≡ all_below (i + 1) t
all_step t i ok b p q = rw (all_more t i, p, q)

-- a turn of a loop that leaves early
pub all_next : (t : ℕ → Bool) (i : ℕ) → all_below i t ≡ true → t i ≡ true → all_below (i + 1) t ≡ true
all_next t i p q = rw (all_more t i, p, q)

-- ---- a test of some number below n
pub some_none : (t : ℕ → Bool) → some_below 0 t ≡ false
unfolding some_below
some_none t = refl

pub some_more : (t : ℕ → Bool) (n : ℕ) → some_below (n + 1) t ≡ (some_below n t || t n)
unfolding some_below
some_more t n = rw (add-one n)

-- one that holds
pub some_of : (t : ℕ → Bool) (n i : ℕ) → i < n → t i ≡ true → some_below n t ≡ true
unfolding some_below
some_of t zero i l h = absurd (not-suc-le-zero l)
some_of t (suc n) i l h =
    ⊎_elim
    (λ e. or_right (some_below n t) (t n) (subst (λ (k : ℕ). t k ≡ true) e h))
    (λ lt. or_left (some_below n t) (t n) (some_of t n i lt h))
    (eq-or-lt_of_le (le_of_suc-le-suc l))

-- the one that holds
pub some_at : (t : ℕ → Bool) (n : ℕ) → some_below n t ≡ true → (i : ℕ) × ((i < n) × (t i ≡ true))
unfolding some_below
some_at t zero h = absurd (false≢true h)
some_at t (suc n) h =
    ⊎_elim
    (λ e. let r = some_at t n e in (r.0, (omega (arith, r.1.0), r.1.1)))
    (λ e. (n, (omega arith, e)))
    (or_cases (some_below n t) (t n) h)
