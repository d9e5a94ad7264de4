-- The agreement of a register with a reckoning: what every call keeps, where it begins, and what it says of a list.
-- Assumes nothing.
use mathlib.Core.Path.{◌≡◌, refl, sym, ap, ◌∙◌}
use mathlib.Core.Bool.{true, false, true≢false}
use mathlib.Core.List.{List}
use Prim.Native.Nat.{ℕ, ◌+◌, ◌≤◌, ◌<◌}
use native.Mathlib.Decide.{dec_lt}
use native.Mathlib.Omega.{arith}
use lib.ListN.{get_or, replicate, get_or-replicate, length-replicate, length, get_or-eq_default}
use borrow.Author.Tests.{lt-ltb}
use Rattle.calendar.specs.ThermalYears.{is_thermal_year, in_thermal_year}
use Rattle.parts.specs.declared.points.Point.{Point}
use Rattle.parts.specs.declared.accounts.Account.{Account}
use Rattle.parts.specs.Limits.{point_count, user_count}
use Rattle.parts.specs.Registers.{State, point_at, account_at, closed_point, absent_user, blank_register}
use Rattle.amounts.specs.Amounts.{free_on}
use Rattle.parts.specs.Points.{is_open}
use Rattle.parts.proofs.AnswerLaws.{passed, leaves_new}
use Rattle.register.specs.Fresh.{fresh_state}
use Rattle.register.specs.Reports.{report_questions, report_number, report_amount}
use Rattle.register.specs.Sound.{Sound}
use Rattle.register.proofs.FreshKept.{fresh_sound}
use Rattle.order.proofs.OrderFacts.{ordered, commitment_le}
use Rattle.register.proofs.ReportLaws.{report_facts, report_none}
use Rattle.reckoning.specs.Reckoning.{Reckoning, granted_on, charges, ceded_by, lines_used, begin}
use Rattle.reckoning.specs.Demand3.{Balances}

pub record Agree (s : State) (k : Reckoning) : Type 0 where
  pub sound : Sound s
  pub year : s.register.year ≡ k.year
  pub opened : (p : ℕ) → is_open (point_at s.register.points p) ≡ k.is_open p
  pub total : (p : ℕ) → (point_at s.register.points p).total ≡ k.total p
  pub rate : (p : ℕ) → (point_at s.register.points p).rate ≡ k.rate p
  pub guarantee : (u : ℕ) → (account_at s.register.accounts u).guarantee ≡ k.guarantee u
  pub balance : (u : ℕ) → (account_at s.register.accounts u).commitment + ceded_by k u ≡ charges k u
  pub lines : s.register.lines ≡ lines_used k
  -- granted plus free is the total, at every open point and on every gas-day of the year; at a closed point nothing is granted
  pub sums : (p d : ℕ) → k.is_open p ≡ true → in_thermal_year k.year d ≡ true → granted_on k p d + free_on s p d ≡ k.total p
  pub none : (p d : ℕ) → k.is_open p ≡ false → granted_on k p d ≡ 0

-- ---- points and accounts past the last
-- an open point is one of the 32
pub open_below : (ps : List Point) (p : ℕ) → length ps ≡ point_count → is_open (point_at ps p) ≡ true → p < point_count
open_below ps p size e = go (dec_lt p point_count)
  where
    go : Dec (p < point_count) → p < point_count
    go (yes h) = h
    go (no h) =
        absurd (true≢false (sym e ∙ ap is_open (get_or-eq_default ps closed_point (omega (arith, size, h)))))

-- what holds of each of n elements and of the default holds at every index
pub at_each : {A : Type 0} (P : A → Type 0) (l : List A) (n : ℕ) (d : A) → length l ≡ n → P d → ((i : ℕ) → i < n → P (get_or l i d)) → (i : ℕ) → P (get_or l i d)
at_each {A} P l n d size base each i = go (dec_lt i n)
  where
    go : Dec (i < n) → P (get_or l i d)
    go (yes h) = each i h
    go (no h) = let out : length l ≤ i = omega (arith, size, h) in rw (get_or-eq_default l d out) base

-- ---- at the start
pub blank_at : {A : Type 0} (n : ℕ) (x : A) (i : ℕ) → get_or (replicate n x) i x ≡ x
blank_at {A} n x i = at_each (λ (a : A). a ≡ x) (replicate n x) n x (length-replicate n x) refl (λ j h. get_or-replicate n j x x h) i

pub agree_fresh : (y : ℕ) → is_thermal_year y ≡ true → Agree (fresh_state y) (begin y)
unfolding blank_register
agree_fresh y h =
    record {
      sound = fresh_sound y h;
      year = refl;
      opened = λ p. ap is_open (blank_at point_count closed_point p);
      total = λ p. ap (λ (x : Point). x.total) (blank_at point_count closed_point p);
      rate = λ p. ap (λ (x : Point). x.rate) (blank_at point_count closed_point p);
      guarantee = λ u. ap (λ (a : Account). a.guarantee) (blank_at user_count absent_user u);
      balance = λ u. ap (λ (a : Account). a.commitment + 0) (blank_at user_count absent_user u);
      lines = refl;
      sums = λ p d o i. absurd (true≢false (sym o));
      none = λ p d o. refl;
    }

-- ---- what it says of a list
-- an accepted report gives what is free
pub reported : (s : State) (p d : ℕ) → report_number s p d ≡ 0 → report_amount s p d ≡ free_on s p d
unfolding report_amount
reported s p d z = leaves_new (report_number s p d) (free_on s p d) 0 z

module _ (s : State) (k : Reckoning) (a : Agree s k) where
  open_point_lem : (p : ℕ) → k.is_open p ≡ true → is_open (point_at s.register.points p) ≡ true
  open_point_lem p o = a.opened p ∙ o

  -- the report of an open point and a gas-day of the year is answered 0
  reports : (p d : ℕ) → k.is_open p ≡ true → in_thermal_year k.year d ≡ true → report_number s p d ≡ 0
  unfolding report_number
  reports p d o i =
      passed (report_questions s p d)
      (a.sound.order, (lt-ltb _ _ (open_below s.register.points p a.sound.sized.points (open_point_lem p o)), (open_point_lem p o, (ap (λ (y : ℕ). in_thermal_year y d) a.year ∙ i, tt))))

  -- and that of a closed one is not
  closed_report : (p d : ℕ) → k.is_open p ≡ false → report_number s p d ≡ 0 → ⊥
  closed_report p d o z = true≢false (sym (lt-ltb _ _ (report_facts s p d z).open_point_lem) ∙ a.opened p ∙ o)

  -- a commitment is at most the guarantee
  covered : (u : ℕ) → (account_at s.register.accounts u).commitment ≤ (account_at s.register.accounts u).guarantee
  covered =
      at_each (λ (x : Account). x.commitment ≤ x.guarantee) s.register.accounts user_count absent_user a.sound.sized.accounts (omega arith)
      (λ i h. commitment_le (account_at s.register.accounts i) ((ordered s a.sound.order).accounts i h))

  pub balances : Balances s k
  balances =
      record {
        order = a.sound.order;
        sums = λ p d o i. (reports p d o i, ap (λ (n : ℕ). granted_on k p d + n) (reported s p d (reports p d o i)) ∙ a.sums p d o i);
        closed = λ p d o. (closed_report p d o, report_none s p d (closed_report p d o));
        commitments = a.balance;
        covered = λ u. omega (arith, covered u, a.guarantee u);
      }
