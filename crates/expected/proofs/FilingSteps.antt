-- Open point, place guarantee and turn the year, in the register and in the reckoning: they agree again.
-- Assumes nothing.
use mathlib.Core.Path.{◌≡◌, refl, sym, ap, ◌∙◌}
use mathlib.Core.Bool.{Bool, true, false, true≢false}
use mathlib.Core.List.{List}
use Prim.Native.Nat.{ℕ, ◌+◌, ◌-◌, ◌≤◌, ◌<◌}
use native.Mathlib.Decide.{ℕ_discrete, dec_lt}
use native.Mathlib.Omega.{arith}
use lib.ListN.{set, length, get_or-eq_default}
use borrow.Author.Tests.{lt-ltb}
use Rattle.calendar.specs.ThermalYears.{in_thermal_year, thermal_first}
use Rattle.parts.specs.declared.points.Point.{Point}
use Rattle.parts.specs.declared.accounts.Account.{Account}
use Rattle.parts.specs.Limits.{user_count}
use Rattle.parts.specs.Registers.{State, point_at, account_at, closed_point, absent_user, point}
use Rattle.amounts.specs.Amounts.{year_days, free_on}
use Rattle.parts.specs.Points.{is_open}
use Rattle.parts.specs.Accounts.{is_on_file}
use Rattle.amounts.proofs.RangeLaws.{replaced_length}
use Rattle.amounts.proofs.AmountLaws.{capacity_in, row_in, row_out, table_at}
use Rattle.register.specs.Sound.{Sound}
use Rattle.order.proofs.OrderKept.{field_kept}
use Rattle.opening.specs.OpenPoint.{open_number, opened}
use Rattle.placing.specs.PlaceGuarantee.{place_number, pledged, placed}
use Rattle.turning.specs.TurnYear.{turn_number, settled_at, settled_accounts, turned}
use Rattle.opening.proofs.OpenLaws.{OpenFacts, facts as open_facts}
use Rattle.placing.proofs.PlaceLaws.{facts as place-facts}
use Rattle.turning.proofs.TurnLaws.{TurnFacts, facts as turn_facts}
use Rattle.turning.proofs.Kept.{settled_at_lem}
use Rattle.expected.specs.Reckoning.{Reckoning, put, granted_on, ceded_by, with_open, with_guarantee, with_new_year}
use Rattle.reckoning.proofs.Agreement.{open_below}
use Rattle.reckoning.proofs.FilingSteps.{put_same, put_other, set_put, day_place}
use Rattle.expected.proofs.Agreement.{Agree}

-- ---- open point
module _ (s : State) (k : Reckoning) (p kind total rate : ℕ) (a : Agree s k) (z : open_number s p kind total rate ≡ 0) where
  w : OpenFacts s p kind total rate
  w = open_facts s p kind total rate z

  abbrev t : State
  t = opened s p kind total rate

  abbrev ps : List Point
  ps = s.register.points

  abbrev q : Point
  q = point kind total rate

  in_points : p < length ps
  in_points = omega (arith, a.sound.sized.points, w.point_from)

  is_open_now : is_open q ≡ true
  is_open_now = lt-ltb 0 kind (omega (arith, w.point_open.kind.from))

  was_closed : k.is_open p ≡ false
  was_closed = sym (a.opened p) ∙ w.closed

  same_day : (d : ℕ) → in_thermal_year k.year d ≡ true → in_thermal_year s.register.year d ≡ true
  same_day d i = ap (λ (y : ℕ). in_thermal_year y d) a.year ∙ i

  free_here : (d : ℕ) → in_thermal_year s.register.year d ≡ true → free_on t p d ≡ total
  unfolding opened
  free_here d i =
      let e = day_place s.register.year d w.order.year i in
      row_in s.free p (year_days s.register.year) q (d - thermal_first s.register.year) e.1 (omega (arith, w.order.table_length_lem, w.point_from, e.1))
      ∙ capacity_in (year_days s.register.year) q (d - thermal_first s.register.year) e.0

  free_there : (i d : ℕ) → in_thermal_year s.register.year d ≡ true → (i ≡ p → ⊥) → free_on t i d ≡ free_on s i d
  unfolding opened
  free_there i d y ne =
      row_out s.free p (year_days s.register.year) q i (d - thermal_first s.register.year) (day_place s.register.year d w.order.year y).1 ne

  sums_now : (i d : ℕ) → put k.is_open p true i ≡ true → in_thermal_year k.year d ≡ true → granted_on k i d + free_on t i d ≡ put k.total p total i
  sums_now i d o y = go (ℕ_discrete i p)
    where
      go : Dec (i ≡ p) → granted_on k i d + free_on t i d ≡ put k.total p total i
      go (yes e) =
          let now : free_on t i d ≡ total = ap (λ (j : ℕ). free_on t j d) e ∙ free_here d (same_day d y) in
          let no : granted_on k i d ≡ 0 = a.none i d (ap k.is_open e ∙ was_closed) in
          let sum : granted_on k i d + free_on t i d ≡ total = omega (arith, now, no) in
          sum ∙ sym (put_same k.total p total i e)
      go (no ne) =
          ap (λ (n : ℕ). granted_on k i d + n) (free_there i d (same_day d y) ne)
          ∙ a.sums i d (sym (put_other k.is_open p true i ne) ∙ o) y
          ∙ sym (put_other k.total p total i ne)

  none_now : (i d : ℕ) → put k.is_open p true i ≡ false → granted_on k i d ≡ 0
  none_now i d o = go (ℕ_discrete i p)
    where
      go : Dec (i ≡ p) → granted_on k i d ≡ 0
      go (yes e) = absurd (true≢false (sym (put_same k.is_open p true i e) ∙ o))
      go (no ne) = a.none i d (sym (put_other k.is_open p true i ne) ∙ o)

  opened_now : (i : ℕ) → is_open (point_at (set ps p q) i) ≡ put k.is_open p true i
  opened_now i =
      set_put is_open ps closed_point p q k.is_open in_points a.opened i ∙ ap (λ (b : Bool). put k.is_open p b i) is_open_now

  pub agree_open : Sound t → Agree t (with_open k p kind total rate)
  unfolding opened
  agree_open sound =
      record {
        sound = sound;
        year = a.year;
        opened = opened_now;
        kind = set_put (λ (x : Point). x.kind) ps closed_point p q k.kind in_points a.kind;
        total = set_put (λ (x : Point). x.total) ps closed_point p q k.total in_points a.total;
        rate = set_put (λ (x : Point). x.rate) ps closed_point p q k.rate in_points a.rate;
        filed = a.filed;
        guarantee = a.guarantee;
        balance = a.balance;
        lines = a.lines;
        sums = sums_now;
        none = none_now;
      }

-- ---- place guarantee
module _ (s : State) (k : Reckoning) (u g : ℕ) (a : Agree s k) (z : place_number s u g ≡ 0) where
  abbrev us : List Account
  us = s.register.accounts

  abbrev x : Account
  x = pledged (account_at us u) g

  in_accounts : u < length us
  in_accounts = omega (arith, a.sound.sized.accounts, (place-facts s u g z).user)

  pub agree_place : Sound (placed s u g) → Agree (placed s u g) (with_guarantee k u g)
  unfolding placed
  agree_place sound =
      record {
        sound = sound;
        year = a.year;
        opened = a.opened;
        kind = a.kind;
        total = a.total;
        rate = a.rate;
        filed = set_put is_on_file us absent_user u x k.on_file in_accounts a.filed;
        guarantee = set_put (λ (b : Account). b.guarantee) us absent_user u x k.guarantee in_accounts a.guarantee;
        balance = λ i. ap (λ (n : ℕ). n + ceded_by k i) (field_kept (λ b. b.commitment) us u x refl i) ∙ a.balance i;
        lines = a.lines;
        sums = a.sums;
        none = a.none;
      }

-- ---- turn the year
module _ (s : State) (k : Reckoning) (y : ℕ) (a : Agree s k) (z : turn_number s y ≡ 0) where
  turning : TurnFacts s y
  turning = turn_facts s y z

  abbrev vs : List Account
  vs = s.register.accounts

  -- what a settled account keeps, and what becomes of its commitment
  settled_as : {B : Type 0} (F : Account → B) (g : ℕ → B) → ((i : ℕ) → i < user_count → F (settled_at vs i) ≡ g i) → ((i : ℕ) → account_at vs i ≡ absent_user → F absent_user ≡ g i)
      → (i : ℕ) → F (account_at (settled_accounts vs) i) ≡ g i
  unfolding settled_accounts
  settled_as F g named past i = go (dec_lt i user_count)
    where
      go : Dec (i < user_count) → F (account_at (settled_accounts vs) i) ≡ g i
      go (yes h) = ap F (settled_at_lem vs i a.sound.sized.accounts h) ∙ named i h
      go (no h) =
          let out : length vs ≤ i = omega (arith, a.sound.sized.accounts, h) in
          let out-now : length (settled_accounts vs) ≤ i = omega (arith, replaced_length vs 0 user_count (settled_at vs), out) in
          ap F (get_or-eq_default (settled_accounts vs) absent_user out-now) ∙ past i (get_or-eq_default vs absent_user out)

  -- "commitments 0; [..] guarantees remain", and who is on file
  settled_zero : (i : ℕ) → (account_at (settled_accounts vs) i).commitment ≡ 0
  settled_zero = settled_as (λ (b : Account). b.commitment) (λ i. 0) (λ i h. refl) (λ i e. refl)

  settled_guarantee : (i : ℕ) → (account_at (settled_accounts vs) i).guarantee ≡ (account_at vs i).guarantee
  settled_guarantee =
      settled_as (λ (b : Account). b.guarantee) (λ i. (account_at vs i).guarantee) (λ i h. refl) (λ i e. sym (ap (λ (b : Account). b.guarantee) e))

  settled_filed : (i : ℕ) → is_on_file (account_at (settled_accounts vs) i) ≡ is_on_file (account_at vs i)
  settled_filed = settled_as is_on_file (λ i. is_on_file (account_at vs i)) (λ i h. refl) (λ i e. sym (ap is_on_file e))

  -- "totals free again"
  free_again : (p d : ℕ) → k.is_open p ≡ true → in_thermal_year y d ≡ true → free_on (turned s y) p d ≡ k.total p
  unfolding turned
  free_again p d o i =
      let e = day_place y d turning.year i in
      table_at s.free (year_days y) s.register.points p (d - thermal_first y) turning.order.table_length_lem
      (open_below s.register.points p a.sound.sized.points (a.opened p ∙ o)) e.1
      ∙ capacity_in (year_days y) (point_at s.register.points p) (d - thermal_first y) e.0
      ∙ a.total p

  pub agree_turn : Sound (turned s y) → Agree (turned s y) (with_new_year k y)
  unfolding turned
  agree_turn sound =
      record {
        sound = sound;
        year = refl;
        opened = a.opened;
        kind = a.kind;
        total = a.total;
        rate = a.rate;
        filed = λ u. settled_filed u ∙ a.filed u;
        guarantee = λ u. settled_guarantee u ∙ a.guarantee u;
        balance = λ u. omega (arith, settled_zero u);
        lines = refl;
        sums = λ p d o i. omega (arith, free_again p d o i);
        none = λ p d o. refl;
      }
