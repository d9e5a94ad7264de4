-- The decimal text of a number has digits only, says the number, and begins with no 0 but for 0 itself.
-- Assumes nothing.
use Prim.Native.Nat.{ℕ, zero, suc, ◌+◌, ◌-◌, ◌*◌, ◌/◌, ◌^◌, ◌≤◌, ◌<◌}
use mathlib.Core.Path.{◌≡◌, refl}
use mathlib.Core.List.{List, [], ◌∷◌, ◌++◌}
use mathlib.Core.Bool.{Bool, true, false, cond}
use native.Mathlib.Nat.{pow-suc}
use native.Mathlib.Omega.{arith}
use lib.ListN.{length, get_or, length-append, get_or-append}
use lib.Dec.{ltb}
use borrow.Author.Tests.{ltb-true, ltb-false}
use Rattle.printing.specs.Lines.{last_digit, decimal_in}

-- every byte of a text is a digit, "0" to "9" in ASCII
abbrev pub OnlyDigits : List ℕ → Type 0
OnlyDigits [] = Unit
OnlyDigits (d ∷ ds) = ((48 ≤ d) × (d ≤ 57)) × OnlyDigits ds

only_more : (s : List ℕ) (n : ℕ) → OnlyDigits s → OnlyDigits (s ++ (last_digit n ∷ []))
only_more [] n h = ((omega arith, omega arith), tt)
only_more (x ∷ s) n h = (h.0, only_more s n h.1)

pub digits_only : (k n : ℕ) → OnlyDigits (decimal_in k n)
unfolding decimal_in
digits_only zero n = only_more [] n tt
digits_only (suc k) n = only_more (cond (ltb n 10) [] (decimal_in k (n / 10))) n (go (ltb n 10) (digits_only k (n / 10)))
  where
    go : (t : Bool) → OnlyDigits (decimal_in k (n / 10)) → OnlyDigits (cond t [] (decimal_in k (n / 10)))
    go true h = tt
    go false h = h

-- the number that digits say, after the number acc
pub value : ℕ → List ℕ → ℕ
value acc [] = acc
value acc (d ∷ ds) = value (acc * 10 + (d - 48)) ds

value_more : (acc : ℕ) (s : List ℕ) (d : ℕ) → value acc (s ++ (d ∷ [])) ≡ value acc s * 10 + (d - 48)
unfolding value
value_more acc [] d = refl
value_more acc (x ∷ s) d = value_more (acc * 10 + (x - 48)) s d

tenth : (p n : ℕ) → n < p * 10 → n / 10 < p
tenth p n h = omega arith

-- the text of a number that has room in k + 1 digits says that number
pub says : (k n : ℕ) → n < 10 ^ suc k → value 0 (decimal_in k n) ≡ n
unfolding decimal_in value
says zero n h = omega arith
says (suc k) n h = go (ltb n 10) refl (says k (n / 10) (tenth (10 ^ suc k) n (rw pow-suc at h)))
  where
    go : (t : Bool) → ltb n 10 ≡ t → value 0 (decimal_in k (n / 10)) ≡ n / 10 → value 0 (cond t [] (decimal_in k (n / 10)) ++ (last_digit n ∷ [])) ≡ n
    go true e i = omega (arith, ltb-true n 10 e)
    go false e i = rw (value_more 0 (decimal_in k (n / 10)) (last_digit n), i) (omega arith)

-- no text is empty, that of 0 neither
pub some : (k n : ℕ) → 1 ≤ length (decimal_in k n)
unfolding decimal_in
some zero n = omega arith
some (suc k) n = simp length-append (omega arith)

-- no 0 leads the text of a number above 0
pub lead : (k n : ℕ) → 1 ≤ n → n < 10 ^ suc k → 49 ≤ get_or (decimal_in k n) 0 0
unfolding decimal_in
lead zero n h l = omega arith
lead (suc k) n h l = go (ltb n 10) refl (lead k (n / 10))
  where
    go : (t : Bool) → ltb n 10 ≡ t → (1 ≤ n / 10 → n / 10 < 10 ^ suc k → 49 ≤ get_or (decimal_in k (n / 10)) 0 0)
        → 49 ≤ get_or (cond t [] (decimal_in k (n / 10)) ++ (last_digit n ∷ [])) 0 0
    go true e i = omega (arith, ltb-true n 10 e)
    go false e i =
        let b : 10 ≤ n = ltb-false n 10 e in
        let s : 0 < length (decimal_in k (n / 10)) = omega (arith, some k (n / 10)) in
        rw (get_or-append (decimal_in k (n / 10)) (last_digit n ∷ []) 0 0 s) (i (omega arith) (tenth (10 ^ suc k) n (rw pow-suc at l)))
