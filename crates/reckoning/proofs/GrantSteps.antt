-- A grant that is booked, and the request, in the register and in the reckoning: they agree again.
-- Assumes nothing.
use mathlib.Core.Path.{◌≡◌, refl, sym, ap, ◌∙◌, subst}
use mathlib.Core.Bool.{Bool, true, false, cond, true≢false}
use mathlib.Core.List.{List}
use Prim.Native.Nat.{ℕ, ◌+◌, ◌≤◌, ◌<◌}
use native.Mathlib.Omega.{arith}
use lib.Dec.{eqb}
use borrow.Author.Tests.{eqb-true, eqb-false, eq-eqb, lt-ltb}
use Rattle.days.specs.Days.{between}
use Rattle.calendar.specs.ThermalYears.{in_thermal_year}
use Rattle.days.proofs.Ranges.{and_left, and_right, within, is_between}
use Rattle.std.proofs.lemmas.Bool.{and_from as both}
use Rattle.parts.specs.declared.points.Point.{Point}
use Rattle.parts.specs.declared.accounts.Account.{Account}
use Rattle.parts.specs.Registers.{State, point_at, account_at}
use Rattle.amounts.specs.Amounts.{free_on}
use Rattle.parts.specs.Points.{is_open}
use Rattle.parts.specs.Charges.{charge}
use Rattle.conferral.specs.declared.bookings.Grant.{Grant}
use Rattle.conferral.specs.Bookings.{days_of, charge_of}
use Rattle.conferral.proofs.BookedLaws.{BookedIn}
use Rattle.products.specs.declared.products.Request.{Request}
use Rattle.products.specs.Products.{first_of, last_of}
use Rattle.request_decision.specs.RequestQuestions.{grant_of}
use Rattle.requests.specs.RequestCapacity.{request_number, request_amount, request_after}
use Rattle.requests.proofs.AnswerLaws.{facts}
use Rattle.requests.proofs.ConferredLaws.{request_booked}
use Rattle.reckoning.specs.Calls.{request_capacity, answer}
use Rattle.reckoning.specs.Reckoning.{GrantEntry, Reckoning, grant_covers, granted_on, charges, ceded_by, grant_to, entered}
use Rattle.reckoning.proofs.Agreement.{Agree, open_below}

-- a grant of the reckoning that does not cover a day at a point
pub not_covering : (g : GrantEntry) (p d : ℕ) → grant_covers g p d ≡ false → p ≡ g.point → g.first ≤ d → d ≤ g.last → ⊥
not_covering g p d h e from to =
    true≢false (sym (both (eqb g.point p) (between g.first g.last d) (eq-eqb _ _ (sym e)) (is_between g.first g.last d from to)) ∙ h)

-- t is s with a grant booked, whose point is open
module _ (s : State) (k : Reckoning) (g : Grant) (t : State) (a : Agree s k) (b : BookedIn s g t) (o : 0 < (point_at s.register.points g.point).kind) where
  -- the grant as the reckoning has it
  abbrev entry : GrantEntry
  entry =
      record {
        user = g.user;
        point = g.point;
        first = g.days.first;
        last = g.days.last;
        amount = g.amount;
        charged = charge g.amount (days_of g) (k.rate g.point);
      }

  same_charge : charge_of s.register g ≡ entry.charged
  same_charge = ap (charge g.amount (days_of g)) (a.rate g.point)

  granted_open : k.is_open g.point ≡ true
  granted_open = sym (a.opened g.point) ∙ lt-ltb _ _ o

  -- the commitments
  balance_now : (u : ℕ) → (account_at t.register.accounts u).commitment + ceded_by k u ≡ cond (eqb g.user u) entry.charged 0 + charges k u
  balance_now u = go (eqb g.user u) refl
    where
      go : (e : Bool) → eqb g.user u ≡ e → (account_at t.register.accounts u).commitment + ceded_by k u ≡ cond e entry.charged 0 + charges k u
      go true e =
          let same = eqb-true _ _ e in
          let now : (account_at t.register.accounts u).commitment ≡ (account_at s.register.accounts u).commitment + charge_of s.register g =
          ap (λ (i : ℕ). (account_at t.register.accounts i).commitment) (sym same) ∙ b.commitment ∙ ap (λ (i : ℕ). (account_at s.register.accounts i).commitment + charge_of s.register g) same in
          omega (arith, now, same_charge, a.balance u)
      go false e =
          let now : (account_at t.register.accounts u).commitment ≡ (account_at s.register.accounts u).commitment =
          ap (λ (x : Account). x.commitment) (b.other_user u (λ q. eqb-false _ _ e (sym q))) in
          omega (arith, now, a.balance u)

  -- the free amounts
  sums_now : (p d : ℕ) → k.is_open p ≡ true → in_thermal_year k.year d ≡ true → cond (grant_covers entry p d) g.amount 0 + granted_on k p d + free_on t p d ≡ k.total p
  sums_now p d open-here i = go (grant_covers entry p d) refl
    where
      go : (e : Bool) → grant_covers entry p d ≡ e → cond e g.amount 0 + granted_on k p d + free_on t p d ≡ k.total p
      go true e =
          let same = eqb-true _ _ (and_left (eqb g.point p) (between g.days.first g.days.last d) e) in
          let w = within g.days.first g.days.last d (and_right (eqb g.point p) (between g.days.first g.days.last d) e) in
          let now : free_on t p d + g.amount ≡ free_on s p d =
          ap (λ (q : ℕ). free_on t q d + g.amount) (sym same) ∙ b.day d w.from w.to ∙ ap (λ (q : ℕ). free_on s q d) same in
          omega (arith, now, a.sums p d open-here i)
      go false e =
          let now = b.other_day p d (open_below s.register.points p a.sound.sized.points (a.opened p ∙ open-here)) (ap (λ (y : ℕ). in_thermal_year y d) a.year ∙ i) (not_covering entry p d e) in
          omega (arith, now, a.sums p d open-here i)

  -- nothing at a closed point: the grant's own is open
  none_now : (p d : ℕ) → k.is_open p ≡ false → cond (grant_covers entry p d) g.amount 0 + granted_on k p d ≡ 0
  none_now p d closed = go (grant_covers entry p d) refl
    where
      go : (e : Bool) → grant_covers entry p d ≡ e → cond e g.amount 0 + granted_on k p d ≡ 0
      go true e =
          let same = eqb-true _ _ (and_left (eqb g.point p) (between g.days.first g.days.last d) e) in
          absurd (true≢false (sym granted_open ∙ ap k.is_open same ∙ closed))
      go false e = omega (arith, a.none p d closed)

  pub agree_grant : Agree t (grant_to k g.user g.point g.days.first g.days.last g.amount)
  unfolding grant_to
  agree_grant =
      record {
        sound = b.sound;
        year = b.year ∙ a.year;
        opened = λ p. ap (λ (ps : List Point). is_open (point_at ps p)) b.points ∙ a.opened p;
        total = λ p. ap (λ (ps : List Point). (point_at ps p).total) b.points ∙ a.total p;
        rate = λ p. ap (λ (ps : List Point). (point_at ps p).rate) b.points ∙ a.rate p;
        guarantee = λ u. b.guarantees u ∙ a.guarantee u;
        balance = λ u. omega (arith, balance_now u);
        lines = omega (arith, b.lines, a.lines);
        sums = sums_now;
        none = none_now;
      }

-- ---- the request
module _ (s : State) (k : Reckoning) (q : Request) (a : Agree s k) (z : request_number s q ≡ 0) where
  pub agree_request : Agree (request_after s q) (entered k (request_capacity q) (answer s (request_capacity q)))
  agree_request =
      subst (λ (y : ℕ). Agree (request_after s q) (grant_to k q.user q.point (first_of y q.arrival q.product) (last_of y q.arrival q.product) (request_amount s q)))
      a.year
      (agree_grant s k (grant_of s.register q (request_amount s q)) (request_after s q) a (request_booked s q z a.sound) (facts s q z).open_point_lem)
