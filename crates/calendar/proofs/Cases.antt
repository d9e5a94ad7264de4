-- Cases p1 to p7 of document 01, computed from the definitions.
-- Assumes nothing.
use mathlib.Core.Path.{◌≡◌, refl}
use Rattle.days.specs.Days.{month_length, days_before, month_start, day_number, weekday}
use Rattle.working_days.specs.WorkingDays.{gauss_a, gauss_b, gauss_c, gauss_d, gauss_e, easter_offset, easter_sunday, fixed_holiday, working_from, working_days, working_count, nth_of_month}

pub record Cases : Type 0 where
  -- 1 October 2023 is day 8,674, a Sunday
  pub p1 : day_number 2023 10 1 ≡ 8674
  pub p1_sunday : weekday (day_number 2023 10 1) ≡ 6
  -- Easter 2024: 31 March; 2049: 18 April; 2076: 19 April
  pub p2 : easter_sunday 2024 ≡ day_number 2024 3 31
  pub p3 : easter_sunday 2049 ≡ day_number 2049 4 18
  pub p4 : easter_sunday 2076 ≡ day_number 2076 4 19
  -- 11th working day of October 2023: the 16th; of April 2024: the 16th
  pub p5 : nth_of_month 2023 10 11 ≡ 16
  pub p6 : nth_of_month 2024 4 11 ≡ 16
  -- December 2023 has 18, the 16th on the 27th
  pub p7 : working_count 2023 12 ≡ 18
  pub p7_sixteenth : nth_of_month 2023 12 16 ≡ 27

pub cases : Cases
unfolding month_length days_before month_start gauss_a gauss_b gauss_c gauss_d gauss_e easter_offset fixed_holiday working_from working_days nth_of_month
cases =
    record {
      p1 = refl;
      p1_sunday = refl;
      p2 = refl;
      p3 = refl;
      p4 = refl;
      p5 = refl;
      p6 = refl;
      p7 = refl;
      p7_sixteenth = refl;
    }
