-- Laws of grants that a register has room for.
-- Assumes nothing.
use mathlib.Core.Path.{◌≡◌, ap}
use mathlib.Core.Bool.{Bool, true}
use Prim.Native.Nat.{ℕ, ◌+◌, ◌≤◌, ◌<◌, min}
use native.Mathlib.Nat.{mul-le-mul}
use native.Mathlib.Omega.{arith}
use borrow.Author.Tests.{ltb-true, leb-true, lt-ltb, le-leb}
use Rattle.days.specs.Days.{last_day}
use Rattle.calendar.specs.ThermalYears.{is_thermal_year}
use Rattle.days.proofs.Ranges.{and_left, and_right, Within, within, is_between}
use Rattle.std.proofs.lemmas.Bool.{and_from as both}
use Rattle.parts.specs.declared.accounts.Account.{Account}
use Rattle.parts.specs.declared.registers.Register.{Register}
use Rattle.parts.specs.Limits.{point_count, user_count, line_count, row_length, most_amount}
use Rattle.parts.specs.Tests.{every}
use Rattle.parts.specs.Registers.{account_at, with_commitment}
use Rattle.parts.specs.Charges.{charge, most_word, charge_word, charged}
use Rattle.parts.proofs.TestLaws.{every_at}
use Rattle.amounts.proofs.CalendarLaws.{year_facts}
use Rattle.conferral.specs.declared.bookings.Grant.{Grant}
use Rattle.spans.specs.Spans.{span_fits, span_in_year}
use Rattle.conferral.specs.Bookings.{covers, lines_left, days_of, charge_of, committed, field_tests, within_limits, charge_within, is_covered, has_room}
use Rattle.spans.proofs.SpanLaws.{FitFacts, fit_facts, span_fits_lem}

-- 64 bits hold the charge of an amount within limits, on the days of a year and at any rate of 32 bits
pub charge_exact : (amount days rate : ℕ) → amount ≤ most_amount → days ≤ row_length → rate ≤ 4294967295 → charge_word amount days rate ≡ charge amount days rate
charge_exact amount days rate a d r = omega (arith, mul-le-mul (mul-le-mul a d) r)

-- ---- within limits
pub record LimitFacts (y : ℕ) (g : Grant) : Type 0 where
  pub year : is_thermal_year y ≡ true
  pub fit : FitFacts y g.days.first g.days.last
  pub user : g.user < user_count
  pub point : g.point < point_count
  pub kind : Within 1 3 g.kind
  pub amount : Within 1 most_amount g.amount

module _ (y : ℕ) (g : Grant) where
  pub limits : within_limits y g ≡ true → LimitFacts y g
  unfolding within_limits
  limits h =
      let span = and_left (span_in_year y g.days.first g.days.last) (every (field_tests g)) h in
      let fields = and_right (span_in_year y g.days.first g.days.last) (every (field_tests g)) h in
      record {
        year = and_left (is_thermal_year y) (span_fits y g.days.first g.days.last) span;
        fit = fit_facts y g.days.first g.days.last (and_right (is_thermal_year y) (span_fits y g.days.first g.days.last) span);
        user = ltb-true _ _ (every_at (field_tests g) 0 fields);
        point = ltb-true _ _ (every_at (field_tests g) 1 fields);
        kind = within 1 3 g.kind (every_at (field_tests g) 2 fields);
        amount = within 1 most_amount g.amount (every_at (field_tests g) 3 fields);
      }

  pub within_limits_lem : LimitFacts y g → within_limits y g ≡ true
  unfolding within_limits
  within_limits_lem w =
      both _ _
      (both _ _ w.year (span_fits_lem y g.days.first g.days.last w.fit))
      (both _ _
      (both _ _ (both _ _ (lt-ltb _ _ w.user) (lt-ltb _ _ w.point)) (is_between 1 3 g.kind w.kind.from w.kind.to))
      (is_between 1 most_amount g.amount w.amount.from w.amount.to))

  -- its days are at most 366
  pub days_most : LimitFacts y g → days_of g ≤ row_length
  days_most w = omega (arith, w.fit.begins, w.fit.ordered, w.fit.ends, (year_facts y w.year).most)

  -- its charge can be found
  pub charge_bounds : within_limits y g ≡ true → (g.days.first ≤ g.days.last) × ((g.days.last ≤ last_day) × ((days_of g ≤ row_length) × (g.amount ≤ most_amount)))
  charge_bounds h =
      let w = limits h in
      (w.fit.ordered, (omega (arith, w.fit.ends, (year_facts y w.year).last), (days_most w, w.amount.to)))

-- its charge
pub charge_within_lem : (r : Register) (g : Grant) → LimitFacts r.year g → charge_within r g ≡ charge_of r g
unfolding charge_within
charge_within_lem r g w = rw (within_limits_lem r.year g w)

-- ---- with room
pub record Room (r : Register) (g : Grant) : Type 0 where
  pub limits : LimitFacts r.year g
  pub covered : (account_at r.accounts g.user).commitment + charge_of r g ≤ (account_at r.accounts g.user).guarantee
  pub line : r.lines < line_count

module _ (r : Register) (g : Grant) where
  abbrev covered : Bool
  covered = covers (account_at r.accounts g.user) (charge_of r g)

  -- within limits, covered is what question 11 asks
  pub covered_is : LimitFacts r.year g → is_covered r g ≡ covered
  unfolding is_covered
  covered_is w = rw (within_limits_lem r.year g w)

  pub room : has_room r g ≡ true → Room r g
  unfolding has_room is_covered
  room h =
      let c = and_left (is_covered r g) (lines_left r 1) h in
      record {
        limits = limits r.year g (and_left (within_limits r.year g) covered c);
        covered = leb-true _ _ (and_right (within_limits r.year g) covered c);
        line = omega (arith, leb-true (r.lines + 1) line_count (and_right (is_covered r g) (lines_left r 1) h));
      }

  pub has_room_lem : Room r g → has_room r g ≡ true
  unfolding has_room is_covered
  has_room_lem w =
      both _ _ (both _ _ (within_limits_lem r.year g w.limits) (le-leb _ _ w.covered)) (le-leb (r.lines + 1) line_count (omega (arith, w.line)))

-- a commitment is raised by just the charge where 64 bits hold the sum
pub charged_exact : (a : Account) (c : ℕ) → a.commitment + c ≤ most_word → charged a c ≡ committed a c
charged_exact a c h =
    let e : min (a.commitment + c) most_word ≡ a.commitment + c = omega arith in
    ap (with_commitment a) e
