-- The shares of a batch: none is more than was asked, and together they are no more than is free.
-- Assumes nothing.
use mathlib.Core.Path.{◌≡◌, refl, sym, ap, ◌∙◌}
use mathlib.Core.Bool.{Bool, true, false, cond, true≢false}
use mathlib.Core.Logic.{⊎_elim}
use mathlib.Core.List.{List}
use Prim.Native.Nat.{ℕ, zero, suc, ◌+◌, ◌*◌, ◌-◌, ◌/◌, ◌≤◌, ◌<◌}
use native.Mathlib.Nat.{le_trans, le_of_eq, mul_comm, mul-le-mul_left, div-le_of_le-mul, div-mul-le_self, le_of_mul-le-mul_right, zero-mul, zero-add, add-mul}
use native.Mathlib.Omega.{arith}
use lib.Dec.{leb, ltb, eqb}
use lib.ListN.{get_or, length, replicate, length-replicate}
use lib.Seq.{ext_get_or}
use borrow.Author.Tests.{ltb-true, leb-true, leb-false, eqb-true, not-true, le-leb, lt-leb, eq-eqb}
use Rattle.days.specs.Days.{between}
use Rattle.calendar.specs.ThermalYears.{is_thermal_year, in_thermal_year, thermal_first}
use Rattle.days.proofs.Ranges.{and_left, and_right, cond_le, Within, within}
use Rattle.parts.specs.declared.registers.Register.{Register}
use Rattle.parts.specs.Limits.{user_count, most_amount}
use Rattle.amounts.specs.Ranges.{replaced, sum_below}
use Rattle.parts.specs.Registers.{State}
use Rattle.amounts.specs.Amounts.{year_days, entry_at, entry_of, free_on}
use Rattle.parts.proofs.TestLaws.{some_of}
use Rattle.amounts.proofs.RangeLaws.{replaced_length, replaced_in, least_at, least_is}
use Rattle.amounts.proofs.CalendarLaws.{YearFacts, year_facts, day_within, day_in_lem}
use Rattle.parts.proofs.AnswerLaws.{passes}
use Rattle.shares.specs.Batches.{Batch, lines_of, user_of, asked_of, names_same, named_before, account_of, charge_asked, line_questions, line_number}
use Rattle.shares.specs.Shares.{free_of_year, counted, counted_at, sum_asked, pro_quota, share_if, share_of, list_of}

-- ---- a line that passes 2, 14, 5 and 11
pub record LineFacts (r : Register) (b : Batch) (i : ℕ) : Type 0 where
  pub user : user_of b i < user_count
  pub asked : Within 1 most_amount (asked_of b i)
  pub first_named : (j : ℕ) → j < i → user_of b j ≡ user_of b i → ⊥
  pub filed : (account_of r b i).on_file ≡ 1
  pub covered : (account_of r b i).commitment + charge_asked r b i ≤ (account_of r b i).guarantee

not_named : (us : List ℕ) (i : ℕ) → named_before us i ≡ false → (j : ℕ) → j < i → get_or us j 0 ≡ get_or us i 0 → ⊥
unfolding named_before
not_named us i h j l e = true≢false (sym (some_of (names_same us i) i j l (eq-eqb _ _ e)) ∙ h)

pub line_facts : (r : Register) (b : Batch) (i : ℕ) → line_number r b i ≡ 0 → LineFacts r b i
unfolding line_number
line_facts r b i h =
    let a = passes (line_questions r b i) refl h in
    let user = ltb (user_of b i) user_count in
    let amount = between 1 most_amount (asked_of b i) in
    record {
      user = ltb-true _ _ (and_left user amount a.0);
      asked = within 1 most_amount (asked_of b i) (and_right user amount a.0);
      first_named = not_named b.users i (not-true (named_before b.users i) a.1.0);
      filed = eqb-true _ _ a.1.1.0;
      covered = leb-true _ _ a.1.1.1.0;
    }

-- ---- what a line gets, by plain numbers: the free amount F, the sum S, its number and what it asked for
-- a part is no more than what is asked
pub part_le : (F S a : ℕ) → F ≤ S → a * F / S ≤ a
part_le F S a h = div-le_of_le-mul S (le_trans (mul-le-mul_left a h) (le_of_eq (mul_comm a S)))

quota_le : (F S a : ℕ) → pro_quota F S a ≤ a
quota_le F S a = go (leb S F) refl
  where
    go : (t : Bool) → leb S F ≡ t → cond t a (a * F / S) ≤ a
    go true e = omega arith
    go false e = part_le F S a (omega (arith, leb-false S F e))

module _ (F S number a : ℕ) where
  share_counted : share_if F S number a ≤ counted number a
  share_counted = go (eqb number 0)
    where
      go : (t : Bool) → cond t (pro_quota F S a) 0 ≤ cond t a 0
      go true = quota_le F S a
      go false = omega arith

  -- share × S is at most asked × F where the sum is more than is free
  share_part : leb S F ≡ false → share_if F S number a * S ≤ counted number a * F
  share_part e = go (eqb number 0)
    where
      go : (t : Bool) → cond t (pro_quota F S a) 0 * S ≤ cond t a 0 * F
      go true = rw e (div-mul-le_self (a * F) S)
      go false = rw (zero-mul S, zero-mul F) (omega arith)

  some_passes : 0 < share_if F S number a → number ≡ 0
  some_passes h = go (eqb number 0) refl h
    where
      go : (t : Bool) → eqb number 0 ≡ t → 0 < cond t (pro_quota F S a) 0 → number ≡ 0
      go true e p = eqb-true number 0 e
      go false e p = absurd (omega (arith, p))

-- a sum of parts is that part of the sum
sum_scale : (g h : ℕ → ℕ) (x y : ℕ) → ((k : ℕ) → g k * x ≤ h k * y) → (n : ℕ) → sum_below n g * x ≤ sum_below n h * y
unfolding sum_below
sum_scale g h x y e zero = rw (zero-mul x, zero-mul y) (omega arith)
sum_scale g h x y e (suc n) =
    rw (add-mul (sum_below n g) (g n) x, add-mul (sum_below n h) (h n) y) (omega (arith, sum_scale g h x y e n, e n))

-- ---- the shares of a batch
module _ (s : State) (b : Batch) where
  -- as document 01 names them
  abbrev F : ℕ
  F = free_of_year s b.point

  abbrev S : ℕ
  S = sum_asked s.register b

  -- "a refused line has share 0"
  pub share_passes : (i : ℕ) → 0 < share_of s b i → line_number s.register b i ≡ 0
  unfolding share_of
  share_passes i h = some_passes F S (line_number s.register b i) (asked_of b i) h

  pub share_le : (i : ℕ) → share_of s b i ≤ asked_of b i
  unfolding share_of
  share_le i =
      let k = line_number s.register b i in
      le_trans (share_counted F S k (asked_of b i)) (cond_le (eqb k 0) (asked_of b i) 0 (asked_of b i) (omega arith) (omega arith))

  -- "If S is at most F each gets what it asked"
  pub share_full : (i : ℕ) → S ≤ F → line_number s.register b i ≡ 0 → share_of s b i ≡ asked_of b i
  unfolding share_of
  share_full i h z = rw (z, le-leb S F h)

  -- "else asked × F / S rounded down"
  pub share_cut : (i : ℕ) → F < S → line_number s.register b i ≡ 0 → share_of s b i ≡ asked_of b i * F / S
  unfolding share_of
  share_cut i h z = rw (z, lt-leb S F h)

  -- together they are at most what is free
  pub share_sum : sum_below (lines_of b) (share_of s b) ≤ F
  unfolding share_of sum_asked
  share_sum = go (leb S F) refl
    where
      go : (t : Bool) → leb S F ≡ t → sum_below (lines_of b) (share_of s b) ≤ F
      go true e =
          let all = sum_scale (share_of s b) (counted_at s.register b) 1 1 (λ i. omega (arith, share_counted F S (line_number s.register b i) (asked_of b i))) (lines_of b) in
          omega (arith, all, leb-true S F e)
      go false e =
          let all = sum_scale (share_of s b) (counted_at s.register b) S F (λ i. share_part F S (line_number s.register b i) (asked_of b i) e) (lines_of b) in
          le_of_mul-le-mul_right (le_trans all (le_of_eq (mul_comm S F))) (omega (arith, leb-false S F e))

-- ---- the smallest free amount of the year
-- no day of the year has less free
pub free_of_year_le : (s : State) (p d : ℕ) → in_thermal_year s.register.year d ≡ true → free_of_year s p ≤ free_on s p d
unfolding free_of_year
free_of_year_le s p d h =
    let y = s.register.year in
    let w = day_within y d h in
    let e : entry_at p 0 + (d - thermal_first y) ≡ entry_of y p d = omega arith in
    rw (← e) (least_at s.free (entry_at p 0) (get_or s.free (entry_at p 0) 0) (year_days y) (d - thermal_first y) (omega (arith, w.from, w.to)))

-- and one day has just this
pub free_of_year_is : (s : State) (p : ℕ) → is_thermal_year s.register.year ≡ true
    → (d : ℕ) × ((in_thermal_year s.register.year d ≡ true) × (free_on s p d ≡ free_of_year s p))
unfolding free_of_year
free_of_year_is s p h =
    let first : entry_at p 0 + 0 ≡ entry_at p 0 = omega arith in
    ⊎_elim (λ e. on_day 0 (omega (arith, known.least)) (ap (λ (j : ℕ). get_or s.free j 0) first ∙ sym e)) (λ t. on_day t.0 t.1.0 t.1.1)
    (least_is s.free (entry_at p 0) (get_or s.free (entry_at p 0) 0) (year_days y))
  where
    y : ℕ
    y = s.register.year

    known : YearFacts y
    known = year_facts y h

    -- the k-th day from 1 October
    on_day : (k : ℕ) → k < year_days y → get_or s.free (entry_at p 0 + k) 0 ≡ free_of_year s p
        → (d : ℕ) × ((in_thermal_year y d ≡ true) × (free_on s p d ≡ free_of_year s p))
    on_day k l e =
        let at : entry_of y p (thermal_first y + k) ≡ entry_at p 0 + k = omega arith in
        (thermal_first y + k, (day_in_lem y (thermal_first y + k) h (omega arith) (omega (arith, l, known.ordered)), ap (λ (j : ℕ). get_or s.free j 0) at ∙ e))

-- ---- the list of g 0 to g (n - 1)
pub list_length : (n : ℕ) (g : ℕ → ℕ) → length (list_of n g) ≡ n
unfolding list_of
list_length n g = replaced_length (replicate n 0) 0 n g ∙ length-replicate n 0

run_at : (l : List ℕ) (n : ℕ) (g : ℕ → ℕ) → length l ≡ n → (i : ℕ) → i < n → get_or (replaced l 0 n g) i 0 ≡ g i
run_at l n g h i b =
    ap (λ (j : ℕ). get_or (replaced l 0 n g) j 0) (sym (zero-add i)) ∙ replaced_in l 0 n g 0 i b (omega (arith, h))

pub list_at : (n : ℕ) (g : ℕ → ℕ) (i : ℕ) → i < n → get_or (list_of n g) i 0 ≡ g i
unfolding list_of
list_at n g i b = run_at (replicate n 0) n g (length-replicate n 0) i b

-- any list of that length, written over
pub list_is : (l : List ℕ) (n : ℕ) (g : ℕ → ℕ) → length l ≡ n → replaced l 0 n g ≡ list_of n g
list_is l n g h =
    let long = replaced_length l 0 n g in
    ext_get_or 0 (replaced l 0 n g) (list_of n g) (long ∙ h ∙ sym (list_length n g))
    (λ i b. run_at l n g h i (omega (arith, b, long, h)) ∙ sym (list_at n g i (omega (arith, b, long, h))))
