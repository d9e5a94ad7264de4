-- Laws of runs of numbers: replaced, summed, and their smallest.
-- Assumes nothing.
use mathlib.Core.Path.{◌≡◌, refl, sym, ap, ◌∙◌, subst}
use mathlib.Core.Logic.{⊎_elim, ◌⊎◌, inl, inr}
use mathlib.Core.List.{List}
use Prim.Native.Nat.{ℕ, zero, suc, ◌+◌, ◌-◌, ◌*◌, ◌≤◌, ◌<◌, min}
use native.Mathlib.Nat.{eq-or-lt_of_le, add-suc, zero-add, suc-mul}
use native.Mathlib.Numerals.{add-one}
use native.Mathlib.Decide.{dec_le, dec_lt}
use native.Mathlib.Omega.{arith}
use lib.ListN.{get_or, set, length, length-set, replicate, length-replicate, get_or-replicate, get_or-eq_default}
use lib.Seq.{get_or-set_same, get_or-set_other, set_out, ext_get_or}
use Rattle.amounts.specs.Ranges.{replaced, least_of, sum_below}

module _ {A : Type 0} where
  -- nothing replaced yet, one more, and the end of the loop
  pub replaced_none : (l : List A) (at : ℕ) (g : ℕ → A) → l ≡ replaced l at 0 g
  unfolding replaced
  replaced_none l at g = refl

  pub replaced_more : (l : List A) (at n : ℕ) (g : ℕ → A) → set (replaced l at n g) (at + n) (g n) ≡ replaced l at (n + 1) g
  unfolding replaced
  replaced_more l at n g = rw (add-one n)

  pub replaced_step : (t l : List A) (at n : ℕ) (g : ℕ → A) (v : A) → t ≡ replaced l at n g → v ≡ g n → set t (at + n) v ≡ replaced l at (n + 1) g
  replaced_step t l at n g v e h =
      ap (λ (x : List A). set x (at + n) v) e
      ∙ ap (set (replaced l at n g) (at + n)) h
      ∙ replaced_more l at n g

  pub replaced_length : (l : List A) (at n : ℕ) (g : ℕ → A) → length (replaced l at n g) ≡ length l
  unfolding replaced
  replaced_length l at zero g = refl
  replaced_length l at (suc n) g = length-set (replaced l at n g) (at + n) (g n) ∙ replaced_length l at n g

  -- within the places
  pub replaced_in : (l : List A) (at n : ℕ) (g : ℕ → A) (d : A) (k : ℕ) → k < n → at + k < length l → get_or (replaced l at n g) (at + k) d ≡ g k
  unfolding replaced
  replaced_in l at zero g d k h b = absurd (omega arith)
  replaced_in l at (suc n) g d k h b =
      ⊎_elim
      (λ (e : k ≡ n). subst (λ (j : ℕ). get_or (set (replaced l at n g) (at + n) (g n)) (at + j) d ≡ g j) (sym e)
      (get_or-set_same (replaced l at n g) (at + n) (g n) d (omega (arith, replaced_length l at n g, e, b))))
      (λ (lt : k < n). get_or-set_other (replaced l at n g) (at + n) (at + k) (g n) d (λ e. omega arith) ∙ replaced_in l at n g d k lt b)
      (eq-or-lt_of_le (omega arith))

  -- beside them
  pub replaced_out : (l : List A) (at n : ℕ) (g : ℕ → A) (d : A) (k : ℕ) → (at ≤ k → k < at + n → ⊥) → get_or (replaced l at n g) k d ≡ get_or l k d
  unfolding replaced
  replaced_out l at zero g d k out = refl
  replaced_out l at (suc n) g d k out =
      get_or-set_other (replaced l at n g) (at + n) k (g n) d (λ e. out (omega arith) (omega arith))
      ∙ replaced_out l at n g d k (λ lo hi. out lo (omega arith))

  -- places past the end make no difference
  pub replaced_past : (l : List A) (at n m : ℕ) (g : ℕ → A) → length l ≤ at + n → replaced l at (n + m) g ≡ replaced l at n g
  unfolding replaced
  replaced_past l at n zero g h = let e : n + 0 ≡ n = omega arith in ap (λ (k : ℕ). replaced l at k g) e
  replaced_past l at n (suc m) g h =
      ap (λ (k : ℕ). replaced l at k g) (add-suc n m)
      ∙ set_out (replaced l at (n + m) g) (at + (n + m)) (g (n + m)) (omega (arith, replaced_length l at (n + m) g))
      ∙ replaced_past l at n m g h

  -- two runs, the second where the first ends
  pub replaced_join : (l : List A) (at n m : ℕ) (g : ℕ → A) → replaced (replaced l at n g) (at + n) m (λ k. g (n + k)) ≡ replaced l at (n + m) g
  unfolding replaced
  replaced_join l at n zero g = let e : n ≡ n + 0 = omega arith in ap (λ (k : ℕ). replaced l at k g) e
  replaced_join l at n (suc m) g =
      ap (λ (x : List A). set x (at + n + m) (g (n + m))) (replaced_join l at n m g)
      ∙ ap (λ (j : ℕ). set (replaced l at (n + m) g) j (g (n + m))) (omega arith)
      ∙ ap (λ (k : ℕ). replaced l at k g) (sym (add-suc n m))

  -- what agrees on the run
  pub replaced_same : (l : List A) (at n : ℕ) (g h : ℕ → A) → ((k : ℕ) → k < n → g k ≡ h k) → replaced l at n g ≡ replaced l at n h
  unfolding replaced
  replaced_same l at zero g h e = refl
  replaced_same l at (suc n) g h e = rw (replaced_same l at n g h (λ k b. e k (omega arith)), e n (omega arith))

  -- all elements, replaced by one
  pub replaced_all : (l : List A) (n : ℕ) (v : A) → length l ≡ n → replaced l 0 n (λ k. v) ≡ replicate n v
  replaced_all l n v h =
      ext_get_or v (replaced l 0 n (λ k. v)) (replicate n v)
      (replaced_length l 0 n (λ k. v) ∙ h ∙ sym (length-replicate n v))
      (λ i b. each i (omega (arith, b, replaced_length l 0 n (λ k. v), h)))
    where
      each : (i : ℕ) → i < n → get_or (replaced l 0 n (λ k. v)) i v ≡ get_or (replicate n v) i v
      each i b =
          ap (λ (j : ℕ). get_or (replaced l 0 n (λ k. v)) j v) (sym (zero-add i))
          ∙ replaced_in l 0 n (λ k. v) v i b (omega (arith, h))
          ∙ sym (get_or-replicate n i v v b)

-- a turn of a loop from the start of a list
pub step_from_start : {A : Type 0} (t l : List A) (n : ℕ) (g : ℕ → A) (v : A) → t ≡ replaced l 0 n g → v ≡ g n → set t n v ≡ replaced l 0 (n + 1) g
step_from_start t l n g v e h =
    ap (λ (j : ℕ). set t j v) (sym (zero-add n)) ∙ replaced_step t l 0 n g v e h

-- the run of the places that lie in the list
pub replaced_within : {A : Type 0} (l : List A) (at n : ℕ) (g : ℕ → A) → replaced l at (min n (length l - at)) g ≡ replaced l at n g
replaced_within l at n g = go (dec_lt (length l - at) n)
  where
    go : Dec (length l - at < n) → replaced l at (min n (length l - at)) g ≡ replaced l at n g
    go (yes h) =
        let m : min n (length l - at) ≡ length l - at = omega arith in
        let t : length l - at + (n - (length l - at)) ≡ n = omega arith in
        ap (λ (k : ℕ). replaced l at k g) m
        ∙ sym (replaced_past l at (length l - at) (n - (length l - at)) g (omega arith))
        ∙ ap (λ (k : ℕ). replaced l at k g) t
    go (no h) = let m : min n (length l - at) ≡ n = omega arith in ap (λ (k : ℕ). replaced l at k g) m

-- ---- the smallest
-- it is at most the number, and at most each of the run
pub least_le : (l : List ℕ) (at m n : ℕ) → least_of l at n m ≤ m
unfolding least_of
least_le l at m zero = omega arith
least_le l at m (suc n) = omega (arith, least_le l at m n)

pub least_at : (l : List ℕ) (at m n k : ℕ) → k < n → least_of l at n m ≤ get_or l (at + k) 0
unfolding least_of
least_at l at m zero k h = absurd (omega arith)
least_at l at m (suc n) k h =
    ⊎_elim
    (λ (e : k ≡ n). subst (λ (j : ℕ). min (least_of l at n m) (get_or l (at + n) 0) ≤ get_or l (at + j) 0) (sym e) (omega arith))
    (λ (lt : k < n). omega (arith, least_at l at m n k lt))
    (eq-or-lt_of_le (omega arith))

-- a run that goes past the end has a 0
pub least_past : (l : List ℕ) (at m n : ℕ) → 0 < n → length l < at + n → least_of l at n m ≡ 0
least_past l at m n p h =
    let z : get_or l (at + (n - 1)) 0 ≡ 0 = get_or-eq_default l 0 (omega arith) in
    let b = least_at l at m n (n - 1) (omega arith) in
    omega (arith, b, z)

-- it is the number or one of the run
pub least_is : (l : List ℕ) (at m n : ℕ) → (least_of l at n m ≡ m) ⊎ ((k : ℕ) × ((k < n) × (get_or l (at + k) 0 ≡ least_of l at n m)))
unfolding least_of
least_is l at m zero = inl refl
least_is l at m (suc n) = go (dec_le (least_of l at n m) (get_or l (at + n) 0)) (least_is l at m n)
  where
    go : Dec (least_of l at n m ≤ get_or l (at + n) 0) → (least_of l at n m ≡ m) ⊎ ((k : ℕ) × ((k < n) × (get_or l (at + k) 0 ≡ least_of l at n m)))
        → (min (least_of l at n m) (get_or l (at + n) 0) ≡ m) ⊎ ((k : ℕ) × ((k < suc n) × (get_or l (at + k) 0 ≡ min (least_of l at n m) (get_or l (at + n) 0))))
    go (yes h) (inl e) = inl (omega (arith, h, e))
    go (yes h) (inr r) = inr (r.0, (omega (arith, r.1.0), omega (arith, h, r.1.1)))
    go (no h) r = inr (n, (omega arith, omega arith))

-- ---- sums
pub sum_none : (g : ℕ → ℕ) → 0 ≡ sum_below 0 g
unfolding sum_below
sum_none g = refl

pub sum_more : (g : ℕ → ℕ) (n : ℕ) → sum_below (n + 1) g ≡ sum_below n g + g n
unfolding sum_below
sum_more g n = rw (add-one n)

pub sum_same : (g h : ℕ → ℕ) (n : ℕ) → ((k : ℕ) → k < n → g k ≡ h k) → sum_below n g ≡ sum_below n h
unfolding sum_below
sum_same g h zero e = refl
sum_same g h (suc n) e = rw (sum_same g h n (λ k b. e k (omega arith)), e n (omega arith))

-- the sum of sums, and a bound
pub sum_plus : (g h : ℕ → ℕ) (n : ℕ) → sum_below n (λ k. g k + h k) ≡ sum_below n g + sum_below n h
unfolding sum_below
sum_plus g h zero = refl
sum_plus g h (suc n) = omega (arith, sum_plus g h n)

pub sum_le : (g : ℕ → ℕ) (m n : ℕ) → ((k : ℕ) → k < n → g k ≤ m) → sum_below n g ≤ n * m
unfolding sum_below
sum_le g m zero e = omega arith
sum_le g m (suc n) e =
    let a : suc n * m ≡ n * m + m = suc-mul n m in
    omega (arith, sum_le g m n (λ k b. e k (omega arith)), e n (omega arith), a)
