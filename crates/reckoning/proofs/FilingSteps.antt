-- Open point, place guarantee and turn the year, in the register and in the reckoning: they agree again.
-- Assumes nothing.
use mathlib.Core.Path.{◌≡◌, refl, sym, ap, ◌∙◌, subst}
use mathlib.Core.Bool.{Bool, true, false, true≢false}
use mathlib.Core.List.{List}
use Prim.Native.Nat.{ℕ, ◌+◌, ◌-◌, ◌≤◌, ◌<◌}
use native.Mathlib.Decide.{ℕ_discrete, dec_lt}
use native.Mathlib.Omega.{arith}
use lib.ListN.{get_or, set, length, get_or-eq_default}
use lib.Seq.{get_or-set_same, get_or-set_other}
use borrow.Author.Tests.{eq-eqb, ne_eqb, lt-ltb}
use Rattle.calendar.specs.ThermalYears.{is_thermal_year, in_thermal_year, thermal_first}
use Rattle.parts.specs.declared.points.Point.{Point}
use Rattle.parts.specs.declared.accounts.Account.{Account}
use Rattle.parts.specs.Limits.{user_count, row_length}
use Rattle.parts.specs.Registers.{State, point_at, account_at, closed_point, absent_user, point}
use Rattle.amounts.specs.Amounts.{year_days, free_on}
use Rattle.parts.specs.Points.{is_open}
use Rattle.amounts.proofs.RangeLaws.{replaced_length}
use Rattle.amounts.proofs.AmountLaws.{capacity_in, row_in, row_out, table_at}
use Rattle.parts.proofs.AnswerLaws.{leaves_new}
use Rattle.amounts.proofs.CalendarLaws.{year_facts, day_within}
use Rattle.register.specs.Sound.{Sound}
use Rattle.order.proofs.OrderKept.{field_kept}
use Rattle.opening.specs.OpenPoint.{open_number, opened, open_after}
use Rattle.placing.specs.PlaceGuarantee.{place_number, pledged, placed, place_after}
use Rattle.turning.specs.TurnYear.{turn_number, settled_at, settled_accounts, turned, turn_after}
use Rattle.opening.proofs.OpenLaws.{OpenFacts, facts as open_facts}
use Rattle.placing.proofs.PlaceLaws.{facts as place-facts}
use Rattle.turning.proofs.TurnLaws.{TurnFacts, facts as turn_facts}
use Rattle.turning.proofs.Kept.{turn_keeps, settled_at_lem}
use Rattle.opening.proofs.Kept.{open_keeps}
use Rattle.placing.proofs.Kept.{place_keeps}
use Rattle.reckoning.specs.Reckoning.{Reckoning, put, granted_on, ceded_by, with_open, with_guarantee, with_new_year}
use Rattle.reckoning.proofs.Agreement.{Agree, open_below}

-- a function with another value at one place
pub put_same : {A : Type 0} (f : ℕ → A) (i : ℕ) (v : A) (j : ℕ) → j ≡ i → put f i v j ≡ v
put_same f i v j e = rw (eq-eqb j i e)

pub put_other : {A : Type 0} (f : ℕ → A) (i : ℕ) (v : A) (j : ℕ) → (j ≡ i → ⊥) → put f i v j ≡ f j
put_other f i v j ne = rw (ne_eqb j i ne)

-- one element replaced in a list, and its value in what was reckoned of each element
pub set_put : {X A : Type 0} (F : X → A) (l : List X) (d : X) (p : ℕ) (x : X) (f : ℕ → A) → p < length l → ((j : ℕ) → F (get_or l j d) ≡ f j)
    → (i : ℕ) → F (get_or (set l p x) i d) ≡ put f p (F x) i
set_put {X} {A} F l d p x f b same i = go (ℕ_discrete i p)
  where
    go : Dec (i ≡ p) → F (get_or (set l p x) i d) ≡ put f p (F x) i
    go (yes e) = ap (λ (j : ℕ). F (get_or (set l p x) j d)) e ∙ ap F (get_or-set_same l p x d b) ∙ sym (put_same f p (F x) i e)
    go (no ne) = ap F (get_or-set_other l p i x d ne) ∙ same i ∙ sym (put_other f p (F x) i ne)

-- the k-th day from 1 October is one of the year and lies in the row of its point
pub day_place : (y d : ℕ) → is_thermal_year y ≡ true → in_thermal_year y d ≡ true → (d - thermal_first y < year_days y) × (d - thermal_first y < row_length)
day_place y d t i =
    let w = day_within y d i in
    let f = year_facts y t in
    (omega (arith, w.from, w.to), omega (arith, w.from, w.to, f.most))

-- ---- open point
module _ (s : State) (k : Reckoning) (p kind total rate : ℕ) (a : Agree s k) (z : open_number s p kind total rate ≡ 0) where
  w : OpenFacts s p kind total rate
  w = open_facts s p kind total rate z

  abbrev t : State
  t = opened s p kind total rate

  abbrev ps : List Point
  ps = s.register.points

  abbrev q : Point
  q = point kind total rate

  after_is : open_after s p kind total rate ≡ t
  unfolding open_after
  after_is = leaves_new (open_number s p kind total rate) t s z

  in_points : p < length ps
  in_points = omega (arith, a.sound.sized.points, w.point_from)

  is_open_now : is_open q ≡ true
  is_open_now = lt-ltb 0 kind (omega (arith, w.point_open.kind.from))

  was_closed : k.is_open p ≡ false
  was_closed = sym (a.opened p) ∙ w.closed

  same_day : (d : ℕ) → in_thermal_year k.year d ≡ true → in_thermal_year s.register.year d ≡ true
  same_day d i = ap (λ (y : ℕ). in_thermal_year y d) a.year ∙ i

  free_here : (d : ℕ) → in_thermal_year s.register.year d ≡ true → free_on t p d ≡ total
  unfolding opened
  free_here d i =
      let e = day_place s.register.year d w.order.year i in
      row_in s.free p (year_days s.register.year) q (d - thermal_first s.register.year) e.1 (omega (arith, w.order.table_length_lem, w.point_from, e.1))
      ∙ capacity_in (year_days s.register.year) q (d - thermal_first s.register.year) e.0

  free_there : (i d : ℕ) → in_thermal_year s.register.year d ≡ true → (i ≡ p → ⊥) → free_on t i d ≡ free_on s i d
  unfolding opened
  free_there i d y ne =
      row_out s.free p (year_days s.register.year) q i (d - thermal_first s.register.year) (day_place s.register.year d w.order.year y).1 ne

  sums_now : (i d : ℕ) → put k.is_open p true i ≡ true → in_thermal_year k.year d ≡ true → granted_on k i d + free_on t i d ≡ put k.total p total i
  sums_now i d o y = go (ℕ_discrete i p)
    where
      go : Dec (i ≡ p) → granted_on k i d + free_on t i d ≡ put k.total p total i
      go (yes e) =
          let now : free_on t i d ≡ total = ap (λ (j : ℕ). free_on t j d) e ∙ free_here d (same_day d y) in
          let no : granted_on k i d ≡ 0 = a.none i d (ap k.is_open e ∙ was_closed) in
          let sum : granted_on k i d + free_on t i d ≡ total = omega (arith, now, no) in
          sum ∙ sym (put_same k.total p total i e)
      go (no ne) =
          ap (λ (n : ℕ). granted_on k i d + n) (free_there i d (same_day d y) ne)
          ∙ a.sums i d (sym (put_other k.is_open p true i ne) ∙ o) y
          ∙ sym (put_other k.total p total i ne)

  none_now : (i d : ℕ) → put k.is_open p true i ≡ false → granted_on k i d ≡ 0
  none_now i d o = go (ℕ_discrete i p)
    where
      go : Dec (i ≡ p) → granted_on k i d ≡ 0
      go (yes e) = absurd (true≢false (sym (put_same k.is_open p true i e) ∙ o))
      go (no ne) = a.none i d (sym (put_other k.is_open p true i ne) ∙ o)

  opened_now : (i : ℕ) → is_open (point_at (set ps p q) i) ≡ put k.is_open p true i
  opened_now i =
      set_put is_open ps closed_point p q k.is_open in_points a.opened i ∙ ap (λ (b : Bool). put k.is_open p b i) is_open_now

  opened_agrees : Sound t → Agree t (with_open k p total rate)
  unfolding opened
  opened_agrees sound =
      record {
        sound = sound;
        year = a.year;
        opened = opened_now;
        total = set_put (λ (x : Point). x.total) ps closed_point p q k.total in_points a.total;
        rate = set_put (λ (x : Point). x.rate) ps closed_point p q k.rate in_points a.rate;
        guarantee = a.guarantee;
        balance = a.balance;
        lines = a.lines;
        sums = sums_now;
        none = none_now;
      }

  pub agree_open : Agree (open_after s p kind total rate) (with_open k p total rate)
  agree_open =
      subst (λ (x : State). Agree x (with_open k p total rate)) (sym after_is)
      (opened_agrees (subst Sound after_is (open_keeps s p kind total rate a.sound)))

-- ---- place guarantee
module _ (s : State) (k : Reckoning) (u g : ℕ) (a : Agree s k) (z : place_number s u g ≡ 0) where
  abbrev us : List Account
  us = s.register.accounts

  abbrev x : Account
  x = pledged (account_at us u) g

  placed_is : place_after s u g ≡ placed s u g
  unfolding place_after
  placed_is = leaves_new (place_number s u g) (placed s u g) s z

  in_accounts : u < length us
  in_accounts = omega (arith, a.sound.sized.accounts, (place-facts s u g z).user)

  placed_agrees : Sound (placed s u g) → Agree (placed s u g) (with_guarantee k u g)
  unfolding placed
  placed_agrees sound =
      record {
        sound = sound;
        year = a.year;
        opened = a.opened;
        total = a.total;
        rate = a.rate;
        guarantee = set_put (λ (b : Account). b.guarantee) us absent_user u x k.guarantee in_accounts a.guarantee;
        balance = λ i. ap (λ (n : ℕ). n + ceded_by k i) (field_kept (λ b. b.commitment) us u x refl i) ∙ a.balance i;
        lines = a.lines;
        sums = a.sums;
        none = a.none;
      }

  pub agree_place : Agree (place_after s u g) (with_guarantee k u g)
  agree_place =
      subst (λ (t : State). Agree t (with_guarantee k u g)) (sym placed_is)
      (placed_agrees (subst Sound placed_is (place_keeps s u g a.sound)))

-- ---- turn the year
module _ (s : State) (k : Reckoning) (y : ℕ) (a : Agree s k) (z : turn_number s y ≡ 0) where
  turning : TurnFacts s y
  turning = turn_facts s y z

  abbrev vs : List Account
  vs = s.register.accounts

  turned_is : turn_after s y ≡ turned s y
  unfolding turn_after
  turned_is = leaves_new (turn_number s y) (turned s y) s z

  -- "commitments 0; [..] guarantees remain"
  settled : (i : ℕ) → ((account_at (settled_accounts vs) i).commitment ≡ 0) × ((account_at (settled_accounts vs) i).guarantee ≡ (account_at vs i).guarantee)
  unfolding settled_accounts
  settled i = go (dec_lt i user_count)
    where
      go : Dec (i < user_count) → ((account_at (settled_accounts vs) i).commitment ≡ 0) × ((account_at (settled_accounts vs) i).guarantee ≡ (account_at vs i).guarantee)
      go (yes h) =
          let e = settled_at_lem vs i a.sound.sized.accounts h in
          (ap (λ (b : Account). b.commitment) e, ap (λ (b : Account). b.guarantee) e)
      go (no h) =
          let out : length vs ≤ i = omega (arith, a.sound.sized.accounts, h) in
          let out-now : length (settled_accounts vs) ≤ i = omega (arith, replaced_length vs 0 user_count (settled_at vs), out) in
          let e : account_at (settled_accounts vs) i ≡ absent_user = get_or-eq_default (settled_accounts vs) absent_user out-now in
          let f : account_at vs i ≡ absent_user = get_or-eq_default vs absent_user out in
          (ap (λ (b : Account). b.commitment) e, ap (λ (b : Account). b.guarantee) e ∙ sym (ap (λ (b : Account). b.guarantee) f))

  -- "totals free again"
  free_again : (p d : ℕ) → k.is_open p ≡ true → in_thermal_year y d ≡ true → free_on (turned s y) p d ≡ k.total p
  unfolding turned
  free_again p d o i =
      let e = day_place y d turning.year i in
      table_at s.free (year_days y) s.register.points p (d - thermal_first y) turning.order.table_length_lem
      (open_below s.register.points p a.sound.sized.points (a.opened p ∙ o)) e.1
      ∙ capacity_in (year_days y) (point_at s.register.points p) (d - thermal_first y) e.0
      ∙ a.total p

  turned_agrees : Sound (turned s y) → Agree (turned s y) (with_new_year k y)
  unfolding turned
  turned_agrees sound =
      record {
        sound = sound;
        year = refl;
        opened = a.opened;
        total = a.total;
        rate = a.rate;
        guarantee = λ u. (settled u).1 ∙ a.guarantee u;
        balance = λ u. omega (arith, (settled u).0);
        lines = refl;
        sums = λ p d o i. omega (arith, free_again p d o i);
        none = λ p d o. refl;
      }

  pub agree_turn : Agree (turn_after s y) (with_new_year k y)
  agree_turn =
      subst (λ (t : State). Agree t (with_new_year k y)) (sym turned_is)
      (turned_agrees (subst Sound turned_is (turn_keeps s y a.sound)))
