-- What users hold backs their commitments: nobody holds less than nothing, and each commitment is the charge of what its user holds. So
-- the giver of a cession who holds its amount on every day of the span is committed to at least its charge.
-- Assumes nothing.
use mathlib.Core.Path.{◌≡◌, refl, sym, ap, ◌∙◌}
use mathlib.Core.Bool.{true, false, true≢false}
use mathlib.Core.Logic.{⊎_elim}
use mathlib.Core.List.{List}
use Prim.Native.Nat.{ℕ, ◌+◌, ◌-◌, ◌≤◌, ◌<◌}
use native.Mathlib.Omega.{arith}
use lib.IntN.{ℤ, pos}
use lib.ListN.{replicate, get_or-replicate, length-replicate}
use lib.Signed.{mag, lt_z}
use borrow.Author.Tests.{ltb-false, not-true}
use Rattle.calendar.specs.ThermalYears.{is_thermal_year, thermal_first}
use Rattle.parts.specs.declared.points.Point.{Point}
use Rattle.parts.specs.declared.accounts.Account.{Account}
use Rattle.parts.specs.Limits.{point_count, user_count}
use Rattle.parts.specs.Registers.{State, point_at, account_at, absent_user, blank_register}
use Rattle.amounts.specs.Amounts.{span_days, year_days}
use Rattle.parts.proofs.TestLaws.{all_at}
use Rattle.register.specs.Fresh.{fresh_state}
use Rattle.register.specs.Sound.{Sound}
use Rattle.spans.proofs.SpanLaws.{FitFacts, span_facts}
use Rattle.holdings.specs.Holdings.{signed_sum, part_at, held_on, holds_on, holds_throughout}
use Rattle.holdings.proofs.SumLaws.{sum_none}
use Rattle.cession_decision.specs.declared.deciding.Cession.{Cession}
use Rattle.cession_decision.specs.CessionQuestions.{giver_of, span_first, span_last, is_in_year, given_of, is_held, charge_of}
use Rattle.cession_decision.proofs.CessionLaws.{fields}
use Rattle.cessions.specs.CedeCapacity.{cession_number}
use Rattle.cessions.proofs.MovedLaws.{holds}
use Rattle.cessions.proofs.RefusalLaws.{not_in_order}
use Rattle.reckoning.proofs.Agreement.{at_each}
use Rattle.reckoning.proofs.BackingSums.{charge_held, held_none, held_least}

-- what user u holds at point p on gas-day d, as a number
abbrev pub holding : State → ℕ → ℕ → ℕ → ℕ
holding s u p d = mag (holds s u p d)

-- the rate of each point
abbrev pub rate_of : List Point → ℕ → ℕ
rate_of ps p = (point_at ps p).rate

-- the charge of what is held, over all points and over the gas-days of thermal year Y
abbrev pub charge_in_year : ℕ → List Point → (ℕ → ℕ → ℕ) → ℕ
charge_in_year y ps h = charge_held (thermal_first y) (year_days y) (rate_of ps) h

pub record Backed (s : State) : Type 0 where
  -- nobody holds less than nothing
  pub held : (u p d : ℕ) → holds s u p d ≡ pos (holding s u p d)
  -- a commitment is the charge of what is held
  pub owed : (u : ℕ) → (account_at s.register.accounts u).commitment ≡ charge_in_year s.register.year s.register.points (holding s u)

-- a signed number that is a number is its own
pub as_number : (z : ℤ) (n : ℕ) → z ≡ pos n → z ≡ pos (mag z)
as_number z n e = e ∙ sym (ap (λ (x : ℤ). pos (mag x)) e)

-- the last day of a span of the year is one of its gas-days
pub in_days : (y first last : ℕ) → FitFacts y first last → last < thermal_first y + year_days y
in_days y first last f = omega (arith, f.begins, f.ordered, f.ends)

-- ---- an empty ledger
pub nothing_held : (s : State) → s.register.lines ≡ 0 → (u p d : ℕ) → holds s u p d ≡ pos 0
unfolding held_on
nothing_held s empty u p d =
    ap (λ (n : ℕ). signed_sum n (part_at s.register.year s.ledger u p d)) empty ∙ sum_none (part_at s.register.year s.ledger u p d)

pub backed_empty : (s : State) → s.register.lines ≡ 0 → ((u : ℕ) → (account_at s.register.accounts u).commitment ≡ 0) → Backed s
backed_empty s empty zeros =
    let none = nothing_held s empty in
    record {
      held = λ u p d. as_number (holds s u p d) 0 (none u p d);
      owed = λ u. zeros u
          ∙ sym (held_none (thermal_first s.register.year) (year_days s.register.year) (rate_of s.register.points) (holding s u) (λ p d. ap mag (none u p d)));
    }

pub backed_fresh : (y : ℕ) → is_thermal_year y ≡ true → Backed (fresh_state y)
unfolding blank_register
backed_fresh y h =
    backed_empty (fresh_state y) refl
    (at_each (λ (a : Account). a.commitment ≡ 0) (replicate user_count absent_user) user_count absent_user (length-replicate user_count absent_user) refl
    (λ i l. ap (λ (a : Account). a.commitment) (get_or-replicate user_count i absent_user absent_user l)))

-- ---- a cession that is held
module _ (s : State) (c : Cession) (k : Backed s) where
  -- question 10 in plain numbers
  pub giver_has : is_held s.register s.ledger c ≡ true → (d : ℕ) → span_first c ≤ d → d ≤ span_last s.register → c.amount ≤ holding s c.giver c.point d
  unfolding holds_throughout
  giver_has h d from to =
      let t = all_at (holds_on s.register.year s.register.lines s.ledger (given_of s.register c)) (span_days (span_first c) (span_last s.register)) (d - span_first c) h (omega arith) in
      let e : span_first c + (d - span_first c) ≡ d = omega arith in
      let short : lt_z (holds s c.giver c.point d) (pos c.amount) ≡ false =
      ap (λ (j : ℕ). lt_z (holds s c.giver c.point j) (pos c.amount)) (sym e) ∙ not-true _ t in
      ltb-false _ _ (ap (λ (z : ℤ). lt_z z (pos c.amount)) (sym (k.held c.giver c.point d)) ∙ short)

  -- "if the giver's commitment is below the charge": where point and span are within limits and he holds the amount it is not
  pub charge_backed : c.point < point_count → is_in_year s.register c ≡ true → is_held s.register s.ledger c ≡ true
      → charge_of s.register c ≤ (giver_of s.register c).commitment
  charge_backed named in_year h =
      let y = s.register.year in
      let f = (span_facts y c.arrival (span_first c) (span_last s.register) in_year).fit in
      let least = held_least (thermal_first y) (year_days y) (rate_of s.register.points) c.point (span_first c) (span_last s.register) c.amount
      named f.begins f.ordered (in_days y (span_first c) (span_last s.register) f)
      (holding s c.giver) (giver_has h) in
      omega (arith, least, k.owed c.giver)

-- "In a cession 1 is also given after question 10": never where the register is sound and its commitments are backed
pub never_below : (s : State) (c : Cession) → Sound s → Backed s → cession_number s c ≡ 1 → ⊥
never_below s c sound k h =
    ⊎_elim (λ out. true≢false (sym sound.order ∙ out))
    (λ r.
    let at = r.0.1 in
    let spans = at.1.1.1 in
    omega (arith, charge_backed s c k (fields c at.0).point spans.0 spans.1.1.0, r.1))
    (not_in_order s c h)
