-- Each call answered 0 leaves commitments that are backed by what is held, where they were before.
-- Assumes nothing.
use mathlib.Core.Path.{◌≡◌, refl, sym, ap, ap₂, ◌∙◌, subst}
use mathlib.Core.Bool.{Bool, true, false, cond, ◌&&◌, true≢false}
use mathlib.Core.Logic.{◌⊎◌, inl, inr, ⊎_elim}
use mathlib.Core.List.{List}
use Prim.Native.Nat.{ℕ, zero, suc, ◌+◌, ◌-◌, ◌≤◌, ◌<◌}
use native.Mathlib.Decide.{ℕ_discrete, dec_le}
use native.Mathlib.Omega.{arith}
use lib.Dec.{eqb}
use lib.IntN.{ℤ, pos, ◌+ℤ◌, ◌-ℤ◌, +ℤ-neg_ℤ_cancel}
use lib.ListN.{set}
use lib.Seq.{get_or-set_other}
use lib.Signed.{mag}
use borrow.Author.Tests.{eqb-true, eqb-false, eq-eqb, lt-ltb}
use Rattle.days.specs.Days.{between}
use Rattle.calendar.specs.ThermalYears.{thermal_first}
use Rattle.days.proofs.Ranges.{and_left, and_right, within, is_between}
use Rattle.std.proofs.lemmas.Bool.{and_from as both}
use Rattle.parts.specs.declared.points.Point.{Point}
use Rattle.parts.specs.declared.accounts.Account.{Account}
use Rattle.parts.specs.Limits.{user_count}
use Rattle.parts.specs.Registers.{State, point_at, account_at, absent_user, closed_point, point}
use Rattle.amounts.specs.Amounts.{year_days}
use Rattle.parts.specs.Points.{is_open}
use Rattle.amounts.proofs.RangeLaws.{replaced_length}
use Rattle.parts.proofs.AnswerLaws.{leaves_new}
use Rattle.ledger.specs.declared.ledger.Line.{Line}
use Rattle.ledger.specs.Ledger.{line_at, line_last}
use Rattle.register.specs.Sound.{Sound}
use Rattle.order.proofs.OrderFacts.{ordered, line_facts}
use Rattle.order.proofs.OrderKept.{field_kept}
use Rattle.opening.specs.OpenPoint.{open_number, opened, open_after}
use Rattle.placing.specs.PlaceGuarantee.{place_number, pledged, placed, place_after}
use Rattle.turning.specs.TurnYear.{turn_number, settled_at, settled_accounts, turned, turn_after}
use Rattle.opening.proofs.OpenLaws.{facts as open_facts}
use Rattle.turning.proofs.Kept.{settled_at_lem}
use Rattle.conferral.specs.declared.bookings.Grant.{Grant}
use Rattle.conferral.specs.Bookings.{line_of, booked, charge_of as grant_charge}
use Rattle.spans.proofs.SpanLaws.{FitFacts, span_facts}
use Rattle.conferral.proofs.RoomLaws.{LimitFacts}
use Rattle.conferral.proofs.BookedLaws.{Bookable, BookedIn, booked_in}
use Rattle.holdings.specs.Holdings.{signed_sum, is_his, covers_day, part_of, part_at, held_on}
use Rattle.holdings.proofs.SumLaws.{sum_more, sum_same}
use Rattle.products.specs.declared.products.Request.{Request}
use Rattle.request_decision.specs.RequestQuestions.{grant_of as grant_requested}
use Rattle.requests.specs.RequestCapacity.{request_number, request_amount, request_after}
use Rattle.requests.proofs.AnswerLaws.{granted_room, accepted_amount}
use Rattle.requests.proofs.ConferredLaws.{request_booked}
use Rattle.shares.specs.Batches.{Batch, lines_of, grant_of}
use Rattle.shares.specs.Shares.{share_of}
use Rattle.batches.specs.ConferBatch.{batch_number, booked_if, booked_lines, batch_after}
use Rattle.batches.proofs.AnswerLaws.{accepted_after}
use Rattle.batches.proofs.BookedLaws.{bookable_line}
use Rattle.cession_decision.specs.declared.deciding.Cession.{Cession}
use Rattle.cession_decision.specs.CessionQuestions.{span_first, span_last, charge_of}
use Rattle.cessions.specs.CedeCapacity.{cession_number, cession_after}
use Rattle.cessions.proofs.AnswerLaws.{CessionFacts, facts}
use Rattle.cessions.proofs.CededLaws.{CededIn, cession_ceded}
use Rattle.cessions.proofs.MovedLaws.{holds, held_other, giver_holds, receiver_holds}
use Rattle.reckoning.proofs.Agreement.{at_each}
use Rattle.std.proofs.lemmas.Bool.{cond-true, cond-false}
use Rattle.reckoning.proofs.BackingSums.{held_same, held_rates, held_more}
use Rattle.reckoning.proofs.Backing.{holding, rate_of, charge_in_year, Backed, as_number, in_days, backed_empty, giver_has}

-- ---- lines of other points
-- a signed sum of nothing but zeros
signed_zeros : (n : ℕ) (g : ℕ → ℤ) → ((k : ℕ) → k < n → g k ≡ pos 0) → signed_sum n g ≡ pos 0
unfolding signed_sum
signed_zeros zero g e = refl
signed_zeros (suc n) g e = ap₂ ◌+ℤ◌ (signed_zeros n g (λ k l. e k (omega arith))) (e n (omega arith))

part_elsewhere : (y u p d : ℕ) (l : Line) → (l.point ≡ p → ⊥) → part_of y u p d l ≡ pos 0
part_elsewhere y u p d l ne = go (is_his u p l && covers_day y d l) refl
  where
    go : (t : Bool) → (is_his u p l && covers_day y d l) ≡ t → cond t l.amount (pos 0) ≡ pos 0
    go true e =
        absurd (ne (eqb-true _ _ (and_right (eqb l.user u) (eqb l.point p) (and_left (is_his u p l) (covers_day y d l) e))))
    go false e = refl

-- "each line with [..] an open point": nothing is held at a closed one
pub closed_none : (s : State) → Sound s → (u p d : ℕ) → is_open (point_at s.register.points p) ≡ false → holds s u p d ≡ pos 0
unfolding held_on
closed_none s sound u p d closed =
    signed_zeros s.register.lines (part_at s.register.year s.ledger u p d)
    (λ i l. part_elsewhere s.register.year u p d (line_at s.ledger i)
    (λ same. true≢false (sym (opens i l) ∙ ap (λ (j : ℕ). is_open (point_at s.register.points j)) same ∙ closed)))
  where
    opens : (i : ℕ) → i < s.register.lines → is_open (point_at s.register.points (line_at s.ledger i).point) ≡ true
    opens i l =
        lt-ltb _ _ (line_facts s.register.year s.register.points s.register.accounts (line_at s.ledger i) ((ordered s sound.order).lines i l)).open_point_lem

-- ---- open point
module _ (s : State) (p kind total rate : ℕ) (sound : Sound s) (z : open_number s p kind total rate ≡ 0) (k : Backed s) where
  abbrev ps : List Point
  ps = s.register.points

  abbrev q : Point
  q = point kind total rate

  -- the other rates stay, and here nothing is held
  same_or_none : (u i : ℕ) → (rate_of (set ps p q) i ≡ rate_of ps i) ⊎ ((d : ℕ) → holding s u i d ≡ 0)
  same_or_none u i = go (ℕ_discrete i p)
    where
      go : Dec (i ≡ p) → (rate_of (set ps p q) i ≡ rate_of ps i) ⊎ ((d : ℕ) → holding s u i d ≡ 0)
      go (yes e) =
          inr (λ d. ap mag (closed_none s sound u i d (ap (λ (j : ℕ). is_open (point_at ps j)) e ∙ (open_facts s p kind total rate z).closed)))
      go (no ne) = inl (ap (λ (x : Point). x.rate) (get_or-set_other ps p i q closed_point ne))

  pub opened_backed : Backed (opened s p kind total rate)
  unfolding opened
  opened_backed =
      record {
        held = k.held;
        owed = λ u. k.owed u ∙ sym (held_rates (thermal_first s.register.year) (year_days s.register.year) (rate_of ps) (rate_of (set ps p q)) (holding s u) (same_or_none u));
      }

  pub backed_open : Backed (open_after s p kind total rate)
  unfolding open_after
  backed_open = subst Backed (sym (leaves_new (open_number s p kind total rate) (opened s p kind total rate) s z)) opened_backed

-- ---- place guarantee: "the commitment stays"
module _ (s : State) (u g : ℕ) (k : Backed s) where
  pub placed_backed : Backed (placed s u g)
  unfolding placed
  placed_backed =
      record {
        held = k.held;
        owed = λ i. field_kept (λ a. a.commitment) s.register.accounts u (pledged (account_at s.register.accounts u) g) refl i ∙ k.owed i;
      }

  pub backed_place : place_number s u g ≡ 0 → Backed (place_after s u g)
  unfolding place_after
  backed_place z = subst Backed (sym (leaves_new (place_number s u g) (placed s u g) s z)) placed_backed

-- ---- turn the year: "ledger empty, commitments 0"
module _ (s : State) (y : ℕ) (sound : Sound s) where
  abbrev us : List Account
  us = s.register.accounts

  settled_zero : (i : ℕ) → (account_at (settled_accounts us) i).commitment ≡ 0
  unfolding settled_accounts
  settled_zero =
      at_each (λ (a : Account). a.commitment ≡ 0) (settled_accounts us) user_count absent_user
      (replaced_length us 0 user_count (settled_at us) ∙ sound.sized.accounts) refl
      (λ i h. ap (λ (a : Account). a.commitment) (settled_at_lem us i sound.sized.accounts h))

  pub turned_backed : Backed (turned s y)
  unfolding turned
  turned_backed = backed_empty (turned s y) refl settled_zero

  pub backed_turn : turn_number s y ≡ 0 → Backed (turn_after s y)
  unfolding turn_after
  backed_turn z = subst Backed (sym (leaves_new (turn_number s y) (turned s y) s z)) turned_backed

-- ---- what year and points that stay leave of a charge
as_before : (s t : State) (u : ℕ) → t.register.year ≡ s.register.year → t.register.points ≡ s.register.points
    → charge_in_year t.register.year t.register.points (holding t u) ≡ charge_in_year s.register.year s.register.points (holding t u)
as_before s t u year points = ap₂ (λ (y : ℕ) (ps : List Point). charge_in_year y ps (holding t u)) year points

-- ---- a grant that is booked
-- a choice between a number and nothing, signed
signed_choice : (b : Bool) (n : ℕ) → cond b (pos n) (pos 0) ≡ pos (cond b n 0)
signed_choice true n = refl
signed_choice false n = refl

module _ (s : State) (g : Grant) (t : State) (b : BookedIn s g t) (w : LimitFacts s.register.year g) (k : Backed s) where
  abbrev y : ℕ
  y = s.register.year

  abbrev n : ℕ
  n = s.register.lines

  -- the grant is the user's at the point, and covers the day
  abbrev covered : ℕ → ℕ → ℕ → Bool
  covered u p d = is_his u p (line_of g) && between g.days.first g.days.last d

  last_day_lem : line_last y (line_of g) ≡ g.days.last
  last_day_lem = sym (ap₂ line_last b.year b.line) ∙ b.line_ends

  old_lines : (u p d : ℕ) → signed_sum n (part_at y t.ledger u p d) ≡ holds s u p d
  unfolding held_on
  old_lines u p d =
      sum_same n (part_at y t.ledger u p d) (part_at y s.ledger u p d) (λ i l. ap (part_of y u p d) (b.other_line i (λ e. omega (arith, e, l))))

  new_line : (u p d : ℕ) → part_at y t.ledger u p d n ≡ pos (cond (covered u p d) g.amount 0)
  new_line u p d =
      ap (part_of y u p d) b.line
      ∙ ap (λ (e : ℕ). cond (is_his u p (line_of g) && between g.days.first e d) (pos g.amount) (pos 0)) last_day_lem
      ∙ signed_choice (covered u p d) g.amount

  -- "one line is written": what is held grows by it
  grown : (u p d : ℕ) → holds t u p d ≡ pos (holding s u p d + cond (covered u p d) g.amount 0)
  unfolding held_on
  grown u p d =
      ap₂ (λ (x m : ℕ). signed_sum m (part_at x t.ledger u p d)) b.year b.lines
      ∙ sum_more n (part_at y t.ledger u p d)
      ∙ ap₂ ◌+ℤ◌ (old_lines u p d ∙ k.held u p d) (new_line u p d)

  pub holding_now : (u p d : ℕ) → holding t u p d ≡ holding s u p d + cond (covered u p d) g.amount 0
  holding_now u p d = ap mag (grown u p d)

  more : (d : ℕ) → g.days.first ≤ d → d ≤ g.days.last → holding t g.user g.point d ≡ holding s g.user g.point d + g.amount
  more d from to =
      let c = cond-true (covered g.user g.point d) g.amount 0
      (both _ _ (both _ _ (eq-eqb g.user g.user refl) (eq-eqb g.point g.point refl)) (is_between g.days.first g.days.last d from to)) in
      omega (arith, holding_now g.user g.point d, c)

  same : (u p d : ℕ) → (u ≡ g.user → p ≡ g.point → g.days.first ≤ d → d ≤ g.days.last → ⊥) → holding t u p d ≡ holding s u p d
  same u p d out = go (covered u p d) refl
    where
      go : (x : Bool) → covered u p d ≡ x → holding t u p d ≡ holding s u p d
      go true e =
          let his = and_left (is_his u p (line_of g)) (between g.days.first g.days.last d) e in
          let v = within g.days.first g.days.last d (and_right (is_his u p (line_of g)) (between g.days.first g.days.last d) e) in
          absurd (out (sym (eqb-true _ _ (and_left (eqb g.user u) (eqb g.point p) his))) (sym (eqb-true _ _ (and_right (eqb g.user u) (eqb g.point p) his))) v.from v.to)
      go false e = omega (arith, holding_now u p d, cond-false (covered u p d) g.amount 0 e)

  -- "its charge joins the commitment"
  owed_now : (u : ℕ) → (account_at t.register.accounts u).commitment ≡ charge_in_year y s.register.points (holding t u)
  owed_now u = go (ℕ_discrete u g.user)
    where
      grew : charge_in_year y s.register.points (holding t g.user) ≡ charge_in_year y s.register.points (holding s g.user) + grant_charge s.register g
      grew =
          held_more (thermal_first y) (year_days y) (rate_of s.register.points) g.point g.days.first g.days.last g.amount w.point w.fit.begins w.fit.ordered (in_days y g.days.first g.days.last w.fit)
          (holding s g.user) (holding t g.user) more (λ p d out. same g.user p d (λ e. out))

      go : Dec (u ≡ g.user) → (account_at t.register.accounts u).commitment ≡ charge_in_year y s.register.points (holding t u)
      go (yes e) =
          subst (λ (i : ℕ). (account_at t.register.accounts i).commitment ≡ charge_in_year y s.register.points (holding t i)) (sym e)
          (omega (arith, b.commitment, k.owed g.user, grew))
      go (no ne) =
          ap (λ (a : Account). a.commitment) (b.other_user u ne)
          ∙ k.owed u
          ∙ sym (held_same (thermal_first y) (year_days y) (rate_of s.register.points) (holding s u) (holding t u) (λ p d. same u p d (λ e. absurd (ne e))))

  pub backed_grant : Backed t
  backed_grant =
      record {
        held = λ u p d. as_number (holds t u p d) _ (grown u p d);
        owed = λ u. owed_now u ∙ sym (as_before s t u b.year b.points);
      }

-- ---- request
pub backed_request : (s : State) (q : Request) → Sound s → request_number s q ≡ 0 → Backed s → Backed (request_after s q)
backed_request s q sound z k =
    backed_grant s (grant_requested s.register q (request_amount s q)) (request_after s q) (request_booked s q z sound)
    (subst (λ (n : ℕ). LimitFacts s.register.year (grant_requested s.register q n)) (sym (accepted_amount s q z)) (granted_room s q z).limits)
    k

-- ---- batch
module _ (s : State) (b : Batch) (m n : ℕ) (sound : Sound s) (z : batch_number s b m n ≡ 0) (k : Backed s) where
  abbrev given : ℕ → Grant
  given i = grant_of s.register b i (share_of s b i)

  -- one line more
  line_backed : (t : State) (i : ℕ) → Sound t × Backed t → (0 < share_of s b i → Bookable t (given i)) → Sound (booked_if t (given i)) × Backed (booked_if t (given i))
  line_backed t i w fits = go (eqb (share_of s b i) 0) refl
    where
      go : (e : Bool) → eqb (share_of s b i) 0 ≡ e → Sound (cond e t (booked t (given i))) × Backed (cond e t (booked t (given i)))
      go true e = w
      go false e =
          let fit = fits (omega (arith, eqb-false (share_of s b i) 0 e)) in
          let done = booked_in t (given i) w.0 fit in
          (done.sound, backed_grant t (given i) (booked t (given i)) done fit.room.limits w.1)

  pub backed_lines : (i : ℕ) → i ≤ lines_of b → Sound (booked_lines s b i) × Backed (booked_lines s b i)
  unfolding booked_lines
  backed_lines zero h = (sound, k)
  backed_lines (suc i) h = line_backed (booked_lines s b i) i (backed_lines i (omega arith)) (bookable_line s b m n sound z i h)

  pub backed_batch : Backed (batch_after s b m n)
  backed_batch = subst Backed (sym (accepted_after s b m n z)) (backed_lines (lines_of b) (omega arith)).1

-- ---- cession
-- a difference of numbers that is a number
signed_less : (a b : ℕ) → b ≤ a → pos a -ℤ pos b ≡ pos (a - b)
signed_less a b h =
    let e : a ≡ a - b + b = omega arith in
    ap (λ (m : ℕ). pos m -ℤ pos b) e ∙ +ℤ-neg_ℤ_cancel (pos (a - b)) (pos b)

-- a point and a day are those of a span at a point, or not
span_or_not : (q a e p d : ℕ) → ((p ≡ q) × ((a ≤ d) × (d ≤ e))) ⊎ (p ≡ q → a ≤ d → d ≤ e → ⊥)
span_or_not q a e p d = go (ℕ_discrete p q) (dec_le a d) (dec_le d e)
  where
    go : Dec (p ≡ q) → Dec (a ≤ d) → Dec (d ≤ e) → ((p ≡ q) × ((a ≤ d) × (d ≤ e))) ⊎ (p ≡ q → a ≤ d → d ≤ e → ⊥)
    go (yes i) (yes f) (yes l) = inl (i, (f, l))
    go (no i) f l = inr (λ p q r. i p)
    go (yes i) (no f) l = inr (λ p q r. f q)
    go (yes i) (yes f) (no l) = inr (λ p q r. l r)

module _ (s : State) (c : Cession) (sound : Sound s) (z : cession_number s c ≡ 0) (k : Backed s) where
  abbrev after_it : State
  after_it = cession_after s c

  abbrev begins : ℕ
  begins = span_first c

  abbrev ends : ℕ
  ends = span_last s.register

  done : CededIn s c after_it
  done = cession_ceded s c sound z

  known : CessionFacts s c
  known = facts s c z

  fit : FitFacts s.register.year begins ends
  fit = (span_facts s.register.year c.arrival begins ends known.in_year).fit

  abbrev charged : (ℕ → ℕ → ℕ) → ℕ
  charged h = charge_in_year s.register.year s.register.points h

  -- the giver held the amount, so that he holds at least nothing
  module _ (d : ℕ) (from : begins ≤ d) (to : d ≤ ends) where
    pub enough : c.amount ≤ holding s c.giver c.point d
    enough = giver_has s c k known.held d from to

    pub giver_now : holds after_it c.giver c.point d ≡ pos (holding s c.giver c.point d - c.amount)
    giver_now =
        giver_holds s c sound z d from to
        ∙ ap (λ (x : ℤ). x -ℤ pos c.amount) (k.held c.giver c.point d)
        ∙ signed_less (holding s c.giver c.point d) c.amount enough

    pub receiver_now : holds after_it c.receiver c.point d ≡ pos (holding s c.receiver c.point d + c.amount)
    receiver_now =
        receiver_holds s c sound z d from to ∙ ap (λ (x : ℤ). x +ℤ pos c.amount) (k.held c.receiver c.point d)

  pub other_now : (u p d : ℕ) → (u ≡ c.giver → p ≡ c.point → begins ≤ d → d ≤ ends → ⊥) → (u ≡ c.receiver → p ≡ c.point → begins ≤ d → d ≤ ends → ⊥)
      → holds after_it u p d ≡ pos (holding s u p d)
  other_now u p d g r = held_other s c sound z u p d g r ∙ k.held u p d

  -- ---- nobody holds less than nothing
  in_span : (u d : ℕ) → begins ≤ d → d ≤ ends → holds after_it u c.point d ≡ pos (holding after_it u c.point d)
  in_span u d from to = go (ℕ_discrete u c.giver) (ℕ_discrete u c.receiver)
    where
      go : Dec (u ≡ c.giver) → Dec (u ≡ c.receiver) → holds after_it u c.point d ≡ pos (holding after_it u c.point d)
      go (yes e) r =
          subst (λ (i : ℕ). holds after_it i c.point d ≡ pos (holding after_it i c.point d)) (sym e) (as_number _ _ (giver_now d from to))
      go (no g) (yes e) =
          subst (λ (i : ℕ). holds after_it i c.point d ≡ pos (holding after_it i c.point d)) (sym e) (as_number _ _ (receiver_now d from to))
      go (no g) (no r) = as_number _ _ (other_now u c.point d (λ e p f l. g e) (λ e p f l. r e))

  held_now : (u p d : ℕ) → holds after_it u p d ≡ pos (holding after_it u p d)
  held_now u p d =
      ⊎_elim
      (λ i. subst (λ (q : ℕ). holds after_it u q d ≡ pos (holding after_it u q d)) (sym i.0) (in_span u d i.1.0 i.1.1))
      (λ out. as_number _ _ (other_now u p d (λ e. out) (λ e. out)))
      (span_or_not c.point begins ends p d)

  -- ---- "The charge moves between the commitments"
  stays : (u p d : ℕ) → (p ≡ c.point → begins ≤ d → d ≤ ends → ⊥) → holding after_it u p d ≡ holding s u p d
  stays u p d out = ap mag (other_now u p d (λ e. out) (λ e. out))

  moves : (h g : ℕ → ℕ → ℕ) → ((d : ℕ) → begins ≤ d → d ≤ ends → g c.point d ≡ h c.point d + c.amount)
      → ((p d : ℕ) → (p ≡ c.point → begins ≤ d → d ≤ ends → ⊥) → g p d ≡ h p d) → charged g ≡ charged h + charge_of s.register c
  moves =
      held_more (thermal_first s.register.year) (year_days s.register.year) (rate_of s.register.points) c.point begins ends c.amount
      known.fields.point fit.begins fit.ordered (in_days s.register.year begins ends fit)

  giver_owes : (account_at after_it.register.accounts c.giver).commitment ≡ charged (holding after_it c.giver)
  giver_owes =
      let less = moves (holding after_it c.giver) (holding s c.giver)
      (λ d from to. omega (arith, ap mag (giver_now d from to), enough d from to))
      (λ p d out. sym (stays c.giver p d out)) in
      omega (arith, done.giver, k.owed c.giver, less)

  receiver_owes : (account_at after_it.register.accounts c.receiver).commitment ≡ charged (holding after_it c.receiver)
  receiver_owes =
      let more = moves (holding s c.receiver) (holding after_it c.receiver) (λ d from to. ap mag (receiver_now d from to)) (stays c.receiver) in
      omega (arith, done.receiver, k.owed c.receiver, more)

  owed_after : (u : ℕ) → (account_at after_it.register.accounts u).commitment ≡ charged (holding after_it u)
  owed_after u = go (ℕ_discrete u c.giver) (ℕ_discrete u c.receiver)
    where
      go : Dec (u ≡ c.giver) → Dec (u ≡ c.receiver) → (account_at after_it.register.accounts u).commitment ≡ charged (holding after_it u)
      go (yes e) r = subst (λ (i : ℕ). (account_at after_it.register.accounts i).commitment ≡ charged (holding after_it i)) (sym e) giver_owes
      go (no g) (yes e) = subst (λ (i : ℕ). (account_at after_it.register.accounts i).commitment ≡ charged (holding after_it i)) (sym e) receiver_owes
      go (no g) (no r) =
          ap (λ (a : Account). a.commitment) (done.other_user u g r)
          ∙ k.owed u
          ∙ sym (held_same (thermal_first s.register.year) (year_days s.register.year) (rate_of s.register.points) (holding s u) (holding after_it u) (λ p d. ap mag (other_now u p d (λ e q f l. g e) (λ e q f l. r e))))

  pub backed_cession : Backed (cession_after s c)
  backed_cession =
      record {
        held = held_now;
        owed = λ u. owed_after u ∙ sym (as_before s after_it u done.year done.points);
      }
