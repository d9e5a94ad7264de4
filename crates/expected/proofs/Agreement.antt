-- The agreement of a register with a reckoning: what every call keeps, where it begins, and what it says of a list.
-- Assumes nothing.
use mathlib.Core.Path.{◌≡◌, refl, sym, ap, ap₂, ◌∙◌}
use mathlib.Core.Bool.{true, false, true≢false}
use mathlib.Core.Logic.{⊎_elim}
use Prim.Native.Nat.{ℕ, ◌+◌, ◌≤◌}
use native.Mathlib.Omega.{arith}
use borrow.Author.Tests.{lt-ltb, eqb-false}
use Rattle.calendar.specs.ThermalYears.{is_thermal_year, in_thermal_year}
use Rattle.parts.specs.declared.points.Point.{Point}
use Rattle.parts.specs.declared.accounts.Account.{Account}
use Rattle.parts.specs.Limits.{point_count, user_count}
use Rattle.parts.specs.Registers.{State, point_at, account_at, closed_point, absent_user, blank_register}
use Rattle.amounts.specs.Amounts.{span_days, free_on}
use Rattle.parts.specs.Charges.{charge}
use Rattle.parts.specs.Points.{is_open}
use Rattle.parts.specs.Accounts.{is_on_file}
use Rattle.parts.proofs.AnswerLaws.{passed}
use Rattle.register.specs.Fresh.{fresh_state}
use Rattle.register.specs.Reports.{report_questions, report_number}
use Rattle.register.specs.Sound.{Sound}
use Rattle.register.proofs.FreshKept.{fresh_sound}
use Rattle.order.proofs.OrderFacts.{ordered, Absent, OnFile, account_is, commitment_le}
use Rattle.register.proofs.ReportLaws.{report_facts, report_none}
use Rattle.spans.specs.Spans.{annual_first, annual_last}
use Rattle.cession_decision.specs.declared.deciding.Cession.{Cession}
use Rattle.cession_decision.specs.CessionQuestions.{charge_of}
use Rattle.reckoning.proofs.Agreement.{open_below, at_each, blank_at, reported}
use Rattle.expected.specs.Reckoning.{Reckoning, granted_on, free_by, charges, ceded_by, lines_used, begin, ceded_charge}
use Rattle.expected.specs.Demand3.{Balances}

pub record Agree (s : State) (k : Reckoning) : Type 0 where
  pub sound : Sound s
  pub year : s.register.year ≡ k.year
  pub opened : (p : ℕ) → is_open (point_at s.register.points p) ≡ k.is_open p
  pub kind : (p : ℕ) → (point_at s.register.points p).kind ≡ k.kind p
  pub total : (p : ℕ) → (point_at s.register.points p).total ≡ k.total p
  pub rate : (p : ℕ) → (point_at s.register.points p).rate ≡ k.rate p
  pub filed : (u : ℕ) → is_on_file (account_at s.register.accounts u) ≡ k.on_file u
  pub guarantee : (u : ℕ) → (account_at s.register.accounts u).guarantee ≡ k.guarantee u
  pub balance : (u : ℕ) → (account_at s.register.accounts u).commitment + ceded_by k u ≡ charges k u
  pub lines : s.register.lines ≡ lines_used k
  -- granted plus free is the total, at every open point and on every gas-day of the year; at a closed point nothing is granted
  pub sums : (p d : ℕ) → k.is_open p ≡ true → in_thermal_year k.year d ≡ true → granted_on k p d + free_on s p d ≡ k.total p
  pub none : (p d : ℕ) → k.is_open p ≡ false → granted_on k p d ≡ 0

-- ---- at the start
pub agree_fresh : (y : ℕ) → is_thermal_year y ≡ true → Agree (fresh_state y) (begin y)
unfolding blank_register
agree_fresh y h =
    record {
      sound = fresh_sound y h;
      year = refl;
      opened = λ p. ap is_open (blank_at point_count closed_point p);
      kind = λ p. ap (λ (x : Point). x.kind) (blank_at point_count closed_point p);
      total = λ p. ap (λ (x : Point). x.total) (blank_at point_count closed_point p);
      rate = λ p. ap (λ (x : Point). x.rate) (blank_at point_count closed_point p);
      filed = λ u. ap is_on_file (blank_at user_count absent_user u);
      guarantee = λ u. ap (λ (a : Account). a.guarantee) (blank_at user_count absent_user u);
      balance = λ u. ap (λ (a : Account). a.commitment + 0) (blank_at user_count absent_user u);
      lines = refl;
      sums = λ p d o i. absurd (true≢false (sym o));
      none = λ p d o. refl;
    }

-- ---- what it says of a list
module _ (s : State) (k : Reckoning) (a : Agree s k) where
  open_point_lem : (p : ℕ) → k.is_open p ≡ true → is_open (point_at s.register.points p) ≡ true
  open_point_lem p o = a.opened p ∙ o

  -- the report of an open point and a gas-day of the year is answered 0
  reports : (p d : ℕ) → k.is_open p ≡ true → in_thermal_year k.year d ≡ true → report_number s p d ≡ 0
  unfolding report_number
  reports p d o i =
      passed (report_questions s p d)
      (a.sound.order, (lt-ltb _ _ (open_below s.register.points p a.sound.sized.points (open_point_lem p o)), (open_point_lem p o, (ap (λ (y : ℕ). in_thermal_year y d) a.year ∙ i, tt))))

  -- and that of a closed one is not
  closed_report : (p d : ℕ) → k.is_open p ≡ false → report_number s p d ≡ 0 → ⊥
  closed_report p d o z = true≢false (sym (lt-ltb _ _ (report_facts s p d z).open_point_lem) ∙ a.opened p ∙ o)

  -- a commitment is at most the guarantee
  covered : (u : ℕ) → (account_at s.register.accounts u).commitment ≤ (account_at s.register.accounts u).guarantee
  covered =
      at_each (λ (x : Account). x.commitment ≤ x.guarantee) s.register.accounts user_count absent_user a.sound.sized.accounts (omega arith)
      (λ i h. commitment_le (account_at s.register.accounts i) ((ordered s a.sound.order).accounts i h))

  -- who is not on file has no guarantee
  absent_none : (u : ℕ) → is_on_file (account_at s.register.accounts u) ≡ false → (account_at s.register.accounts u).guarantee ≡ 0
  absent_none =
      at_each (λ (x : Account). is_on_file x ≡ false → x.guarantee ≡ 0) s.register.accounts user_count absent_user a.sound.sized.accounts (λ e. refl)
      (λ i l h. ⊎_elim (λ (e : Absent (account_at s.register.accounts i)). e.guarantee)
      (λ (e : OnFile (account_at s.register.accounts i)). absurd (eqb-false (account_at s.register.accounts i).on_file 1 h e.filed))
      (account_is (account_at s.register.accounts i) ((ordered s a.sound.order).accounts i l)))

  pub balances : Balances s k
  balances =
      record {
        order = a.sound.order;
        sums = λ p d o i. (reports p d o i, ap (λ (n : ℕ). granted_on k p d + n) (reported s p d (reports p d o i)) ∙ a.sums p d o i);
        closed = λ p d o. (closed_report p d o, report_none s p d (closed_report p d o));
        commitments = a.balance;
        covered = λ u. omega (arith, covered u, a.guarantee u);
        unfiled = λ u h. sym (a.guarantee u) ∙ absent_none u (a.filed u ∙ h);
      }

-- ---- the register's charges and free amounts, by the reckoning
module _ (s : State) (k : Reckoning) (w : Agree s k) where
  -- a charge at the point's rate, where its days are told by the year
  pub charge_by : (a p : ℕ) (days : ℕ → ℕ) → charge a (days s.register.year) (point_at s.register.points p).rate ≡ charge a (days k.year) (k.rate p)
  charge_by a p days = ap₂ (λ (y r : ℕ). charge a (days y) r) w.year (w.rate p)

  -- the charge of a cession
  pub charge_ceded : (c : Cession) → charge_of s.register c ≡ ceded_charge k c
  charge_ceded c = charge_by c.amount c.point (λ (y : ℕ). span_days (annual_first c.arrival) (annual_last y))

  -- what is free at an open point on a day of the year
  pub free_by_lem : (p d : ℕ) → is_open (point_at s.register.points p) ≡ true → in_thermal_year s.register.year d ≡ true → free_on s p d ≡ free_by k p d
  free_by_lem p d h t =
      let e = w.sums p d (sym (w.opened p) ∙ h) (sym (ap (λ (y : ℕ). in_thermal_year y d) w.year) ∙ t) in
      omega (arith, e)
