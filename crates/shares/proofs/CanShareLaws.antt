-- What it tells that a batch can be shared out, and what the two lent lists hold then.
-- Assumes nothing.
use mathlib.Core.Path.{◌≡◌}
use mathlib.Core.Bool.{true, false, ◌&&◌}
use mathlib.Core.List.{List}
use Prim.Native.Nat.{ℕ, ◌<◌}
use lib.Dec.{ltb, eqb}
use lib.ListN.{length}
use borrow.Author.Tests.{ltb-true, eqb-true}
use Rattle.days.specs.Days.{between}
use Rattle.calendar.specs.ThermalYears.{is_thermal_year}
use Rattle.days.proofs.Ranges.{and_left, and_right, Within, within}
use Rattle.parts.specs.declared.registers.Register.{Register}
use Rattle.parts.specs.Limits.{point_count, table_length}
use Rattle.parts.specs.Registers.{State, state}
use Rattle.shares.specs.Batches.{Batch, lines_of}
use Rattle.shares.specs.Shares.{free_of_year, share_of, number_of_line}
use Rattle.shares.specs.ShareLines.{most_lines, lengths_fit, batch_fields, shares_of, numbers_of, can_share, shares_listed, numbers_listed}
use Rattle.shares.proofs.ShareLaws.{list_length}

-- ---- question 2 of a batch as a whole
module _ (b : Batch) (m n : ℕ) where
  pub record FieldFacts : Type 0 where
    pub point : b.point < point_count
    pub lines : Within 1 most_lines (lines_of b)
    pub asked_length : length b.asked ≡ lines_of b
    pub shares_length : m ≡ lines_of b
    pub numbers_length : n ≡ lines_of b

  pub field_facts : batch_fields b m n ≡ true → FieldFacts
  field_facts h =
      let point = ltb b.point point_count in
      let fit = lengths_fit (lines_of b) (length b.asked) m n in
      let few = between 1 most_lines (lines_of b) in
      let asked = eqb (length b.asked) (lines_of b) in
      let shares = eqb m (lines_of b) in
      let numbers = eqb n (lines_of b) in
      let fits = and_right point fit h in
      let long = and_right few (asked && shares && numbers) fits in
      let two = and_left (asked && shares) numbers long in
      record {
        point = ltb-true _ _ (and_left point fit h);
        lines = within 1 most_lines (lines_of b) (and_left few (asked && shares && numbers) fits);
        asked_length = eqb-true _ _ (and_left asked shares two);
        shares_length = eqb-true _ _ (and_right asked shares two);
        numbers_length = eqb-true _ _ (and_right (asked && shares) numbers long);
      }

-- ---- whether a batch can be shared out
module _ (r : Register) (f : List ℕ) (b : Batch) (m n : ℕ) where
  pub record ShareFacts : Type 0 where
    pub year : is_thermal_year r.year ≡ true
    pub table_length_lem : length f ≡ table_length
    pub fields : FieldFacts b m n

  pub share_facts : can_share r f b m n ≡ true → ShareFacts
  share_facts h =
      let year = is_thermal_year r.year in
      let table = eqb (length f) table_length in
      let both = and_left (year && table) (batch_fields b m n) h in
      record {
        year = and_left year table both;
        table_length_lem = eqb-true _ _ (and_right year table both);
        fields = field_facts b m n (and_right (year && table) (batch_fields b m n) h);
      }

-- ---- the two lent lists
module _ (r : Register) (f : List ℕ) (b : Batch) (shares numbers : List ℕ) where
  -- shared out, and then by any ledger
  module _ (h : can_share r f b (length shares) (length numbers) ≡ true) where
    pub shares_left_lem : (l : List ℕ) → shares_listed r f b shares numbers ≡ shares_of (state r f l) b
    unfolding shares_listed shares_of share_of free_of_year
    shares_left_lem l = rw h

    pub numbers_left_lem : (l : List ℕ) → numbers_listed r f b shares numbers ≡ numbers_of (state r f l) b
    unfolding numbers_listed numbers_of number_of_line share_of free_of_year
    numbers_left_lem l = rw h

  -- or as they were
  module _ (h : can_share r f b (length shares) (length numbers) ≡ false) where
    pub shares_kept : shares ≡ shares_listed r f b shares numbers
    unfolding shares_listed
    shares_kept = rw h

    pub numbers_kept : numbers ≡ numbers_listed r f b shares numbers
    unfolding numbers_listed
    numbers_kept = rw h

-- ---- one share for each line
pub shares_long : (s : State) (b : Batch) → length (shares_of s b) ≡ lines_of b
unfolding shares_of
shares_long s b = list_length (lines_of b) (share_of s b)
