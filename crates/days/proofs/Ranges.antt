-- What the tests of the definitions say: a number within limits, a year, a month, a thermal year and a date.
-- Assumes nothing.
use Rattle.std.proofs.lemmas.Bool.{and_from as both}
use Prim.Native.Nat.{ℕ, ◌≤◌}
use mathlib.Core.Bool.{Bool, true, false, cond, ◌&&◌, and-eq-true_iff}
use mathlib.Core.Path.{◌≡◌}
use lib.Dec.{leb}
use borrow.Author.Tests.{leb-true, le-leb}
use Rattle.days.specs.declared.dates.Date.{Date}
use Rattle.days.specs.Days.{between, is_year, is_month, month_length, is_date}

pub and_left : (a b : Bool) → (a && b) ≡ true → a ≡ true
and_left a b h = ((and-eq-true_iff a b).0 h).0

pub and_right : (a b : Bool) → (a && b) ≡ true → b ≡ true
and_right a b h = ((and-eq-true_iff a b).0 h).1

-- a choice between numbers keeps a bound that both have
pub cond_le : (b : Bool) (x y h : ℕ) → x ≤ h → y ≤ h → cond b x y ≤ h
cond_le true x y h p q = p
cond_le false x y h p q = q

pub le_cond : (b : Bool) (x y h : ℕ) → h ≤ x → h ≤ y → h ≤ cond b x y
le_cond true x y h p q = p
le_cond false x y h p q = q

-- x lies from lo to hi
pub record Within (lo hi x : ℕ) : Type 0 where
  pub from : lo ≤ x
  pub to : x ≤ hi

pub within : (lo hi x : ℕ) → between lo hi x ≡ true → Within lo hi x
within lo hi x h =
    record {
      from = leb-true lo x (and_left (leb lo x) (leb x hi) h);
      to = leb-true x hi (and_right (leb lo x) (leb x hi) h);
    }

pub is_between : (lo hi x : ℕ) → lo ≤ x → x ≤ hi → between lo hi x ≡ true
is_between lo hi x p q = both (leb lo x) (leb x hi) (le-leb lo x p) (le-leb x hi q)

-- a month of a year from 2000 to a last one
pub record MonthUpTo (last y m : ℕ) : Type 0 where
  pub year : Within 2000 last y
  pub month : Within 1 12 m

-- a month of the calendar, and of a thermal year
abbrev pub Month : ℕ → ℕ → Type 0
Month y m = MonthUpTo 2099 y m

abbrev pub ThermalMonth : ℕ → ℕ → Type 0
ThermalMonth y k = MonthUpTo 2098 y k

pub month_of_test : (last y m : ℕ) → (between 2000 last y && between 1 12 m) ≡ true → MonthUpTo last y m
month_of_test last y m h =
    record {
      year = within 2000 last y (and_left (between 2000 last y) (between 1 12 m) h);
      month = within 1 12 m (and_right (between 2000 last y) (between 1 12 m) h);
    }

pub is_month_lem : (y m : ℕ) → Month y m → is_month y m ≡ true
is_month_lem y m w =
    both (is_year y) (between 1 12 m)
    (is_between 2000 2099 y w.year.from w.year.to)
    (is_between 1 12 m w.month.from w.month.to)

-- a date that exists, in a year of the calendar or later
pub record Valid (d : Date) : Type 0 where
  pub year_from : 2000 ≤ d.year
  pub month : Within 1 12 d.month
  pub day : Within 1 (month_length d.year d.month) d.day

months : (d : Date) → is_date d ≡ true → (between 1 12 d.month && between 1 (month_length d.year d.month) d.day) ≡ true
months d h =
    and_right (is_year d.year) (between 1 12 d.month && between 1 (month_length d.year d.month) d.day) h

pub year_of_test : (d : Date) → is_date d ≡ true → Within 2000 2099 d.year
year_of_test d h =
    within 2000 2099 d.year
    (and_left (is_year d.year) (between 1 12 d.month && between 1 (month_length d.year d.month) d.day) h)

pub date_of_test : (d : Date) → is_date d ≡ true → Valid d
date_of_test d h =
    let a = between 1 12 d.month in
    let l = month_length d.year d.month in
    record {
      year_from = (year_of_test d h).from;
      month = within 1 12 d.month (and_left a (between 1 l d.day) (months d h));
      day = within 1 l d.day (and_right a (between 1 l d.day) (months d h));
    }
