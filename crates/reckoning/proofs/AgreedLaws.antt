-- The register's free amounts and accounts in the terms of a reckoning that agrees with it.
-- Assumes nothing.
use mathlib.Core.Path.{◌≡◌, refl, sym, ap, ap₂, ◌∙◌}
use mathlib.Core.Bool.{Bool, true, false, true≢false}
use mathlib.Core.Logic.{⊎_elim}
use Prim.Native.Nat.{ℕ, ◌+◌, ◌≤◌, ◌<◌}
use native.Mathlib.Omega.{arith}
use borrow.Author.Tests.{eqb-false}
use Rattle.calendar.specs.ThermalYears.{in_thermal_year}
use Rattle.parts.specs.declared.accounts.Account.{Account}
use Rattle.parts.specs.Limits.{user_count, line_count}
use Rattle.parts.specs.Registers.{State, point_at, account_at, absent_user}
use Rattle.amounts.specs.Amounts.{span_days, free_on}
use Rattle.parts.specs.Charges.{charge}
use Rattle.parts.specs.Points.{is_open}
use Rattle.parts.specs.Accounts.{is_on_file}
use Rattle.order.specs.Order.{in_order}
use Rattle.order.proofs.OrderFacts.{ordered, Absent, OnFile, account_is}
use Rattle.spans.specs.Spans.{annual_first, annual_last}
use Rattle.cession_decision.specs.declared.deciding.Cession.{Cession}
use Rattle.cession_decision.specs.CessionQuestions.{charge_of}
use Rattle.reckoning.specs.Reckoning.{Reckoning, free_by, ceded_charge}
use Rattle.reckoning.specs.Reasons.{Covered, LinesLeft, Uncovered, LinesShort}
use Rattle.reckoning.proofs.Agreement.{Agree, at_each}

module _ (s : State) (k : Reckoning) (w : Agree s k) where
  -- question 1 is answered yes
  pub never_disordered : in_order s ≡ false → ⊥
  never_disordered h = true≢false (sym w.sound.order ∙ h)

  -- a point is open by the reckoning exactly when it is in the register
  pub open_by : (p : ℕ) (t : Bool) → is_open (point_at s.register.points p) ≡ t → k.is_open p ≡ t
  open_by p t h = sym (w.opened p) ∙ h

  -- the days of the year are the same
  pub day_by : (d : ℕ) → in_thermal_year s.register.year d ≡ in_thermal_year k.year d
  day_by d = ap (λ (y : ℕ). in_thermal_year y d) w.year

  -- a charge at the point's rate, where its days are told by the year
  pub charge_by : (a p : ℕ) (days : ℕ → ℕ) → charge a (days s.register.year) (point_at s.register.points p).rate ≡ charge a (days k.year) (k.rate p)
  charge_by a p days = ap₂ (λ (y r : ℕ). charge a (days y) r) w.year (w.rate p)

  -- the charge of a cession
  pub charge_ceded : (c : Cession) → charge_of s.register c ≡ ceded_charge k c
  charge_ceded c = charge_by c.amount c.point (λ (y : ℕ). span_days (annual_first c.arrival) (annual_last y))

  -- what the guarantee does not cover
  pub uncovered : (u c d : ℕ) → (account_at s.register.accounts u).guarantee < (account_at s.register.accounts u).commitment + c
      → c ≡ d → Uncovered k u d
  uncovered u c d h e = omega (arith, h, e, w.guarantee u, w.balance u)

  -- what it covers
  pub covered : (u c d : ℕ) → (account_at s.register.accounts u).commitment + c ≤ (account_at s.register.accounts u).guarantee
      → c ≡ d → Covered k u d
  covered u c d h e = omega (arith, h, e, w.guarantee u, w.balance u)

  -- a user who is not on file has no guarantee
  pub unfiled : (u : ℕ) → is_on_file (account_at s.register.accounts u) ≡ false → k.guarantee u ≡ 0
  unfiled u h =
      sym (w.guarantee u)
      ∙ at_each (λ (a : Account). is_on_file a ≡ false → a.guarantee ≡ 0) s.register.accounts user_count absent_user w.sound.sized.accounts (λ e. refl) each u h
    where
      each : (i : ℕ) → i < user_count → is_on_file (account_at s.register.accounts i) ≡ false → (account_at s.register.accounts i).guarantee ≡ 0
      each i l h =
          ⊎_elim (λ (e : Absent (account_at s.register.accounts i)). e.guarantee)
          (λ (e : OnFile (account_at s.register.accounts i)). absurd (eqb-false (account_at s.register.accounts i).on_file 1 h e.filed))
          (account_is (account_at s.register.accounts i) ((ordered s w.sound.order).accounts i l))

  -- too few lines are left
  pub lines_short : (n : ℕ) → line_count < s.register.lines + n → LinesShort k n
  lines_short n h = omega (arith, h, w.lines)

  -- enough are
  pub lines_left_lem : (n : ℕ) → s.register.lines + n ≤ line_count → LinesLeft k n
  lines_left_lem n h = omega (arith, h, w.lines)

  -- what is free at an open point on a day of the year
  pub free_by_lem : (p d : ℕ) → is_open (point_at s.register.points p) ≡ true → in_thermal_year s.register.year d ≡ true → free_on s p d ≡ free_by k p d
  free_by_lem p d h t =
      let e = w.sums p d (open_by p true h) (sym (day_by d) ∙ t) in
      omega (arith, e)
