-- What an accepted request grants and does, and that every request leaves a sound register sound.
-- Assumes nothing.
use mathlib.Core.Path.{◌≡◌, refl, sym, ap, ◌∙◌, subst}
use mathlib.Core.Bool.{true, not, ◌||◌}
use mathlib.Core.Logic.{⊎_elim, ◌⊎◌, inl, inr}
use Prim.Native.Nat.{ℕ, ◌+◌, ◌-◌, ◌≤◌, ◌<◌}
use native.Mathlib.Decide.{ℕ_discrete}
use native.Mathlib.Omega.{arith}
use lib.Dec.{eqb}
use lib.ListN.{get_or}
use borrow.Author.Tests.{eq-eqb}
use Rattle.days.specs.Days.{between}
use Rattle.calendar.specs.ThermalYears.{is_thermal_year, thermal_month_first}
use Rattle.days.proofs.Ranges.{Within, within}
use Rattle.parts.specs.Registers.{State}
use Rattle.ledger.specs.Ledger.{line_last}
use Rattle.amounts.specs.Amounts.{entry_of, free_on}
use Rattle.order.specs.Order.{opens_month, is_month_first}
use Rattle.register.specs.Sound.{Sound}
use Rattle.parts.proofs.TestLaws.{some_of}
use Rattle.amounts.proofs.RangeLaws.{least_at, least_is}
use Rattle.amounts.proofs.CalendarLaws.{thermal_year}
use Rattle.ledger.proofs.LineLaws.{annual_last_lem, month_last, day_last}
use Rattle.conferral.specs.declared.bookings.Grant.{Grant}
use Rattle.conferral.specs.Bookings.{line_of}
use Rattle.spans.proofs.SpanLaws.{SpanFacts, span_facts}
use Rattle.conferral.proofs.BookedLaws.{Bookable, BookedIn, booked_in}
use Rattle.products.specs.declared.products.Product.{Product}
use Rattle.products.specs.declared.products.Product.TheVariants.{Annual, Month, Day}
use Rattle.products.specs.declared.products.Request.{Request}
use Rattle.products.specs.Products.{kind_of, first_of, last_of, month_ok}
use Rattle.request_decision.specs.RequestQuestions.{span_first, span_last, days_asked, span_place, amount_granted, grant_of}
use Rattle.requests.specs.RequestCapacity.{request_number, request_amount, request_after}
use Rattle.requests.proofs.AnswerLaws.{RequestFacts, facts, granted_le, granted_from, granted_room, accepted_amount, accepted_after, refused_after}

-- ---- the line of a product
opens_month_lem : (y m : ℕ) → between 1 12 m ≡ true → is_month_first y (thermal_month_first y m) ≡ true
unfolding is_month_first
opens_month_lem y m h =
    let w = within 1 12 m h in
    let e : m ≡ m - 1 + 1 = omega (arith, w.from) in
    some_of (opens_month y (thermal_month_first y m)) 12 (m - 1) (omega (arith, w.from, w.to)) (eq-eqb _ _ (ap (thermal_month_first y) e))

month_line : (y a : ℕ) (k : Product) → month_ok k ≡ true → (not (eqb (kind_of k) 2) || is_month_first y (first_of y a k)) ≡ true
month_line y a Annual h = refl
month_line y a (Month m) h = opens_month_lem y m h
month_line y a (Day d) h = refl

-- "its last day is implied": that of the product
line_ends : (y a : ℕ) (k : Product) (g : Grant) → is_thermal_year y ≡ true → month_ok k ≡ true → g.kind ≡ kind_of k → g.days.first ≡ first_of y a k → line_last y (line_of g) ≡ last_of y a k
line_ends y a Annual g t h e f = annual_last_lem y (line_of g) e
line_ends y a (Month m) g t h e f = month_last y m (line_of g) (record { year = thermal_year y t; month = within 1 12 m h }) e f
line_ends y a (Day d) g t h e f = day_last y (line_of g) e ∙ f

-- ---- what is granted
module _ (s : State) (q : Request) (z : request_number s q ≡ 0) where
  abbrev granted : ℕ
  granted = amount_granted s.register s.free q

  known : RequestFacts s q
  known = facts s q z

  span : SpanFacts s.register.year q.arrival (span_first s.register q) (span_last s.register q)
  span = span_facts s.register.year q.arrival (span_first s.register q) (span_last s.register q) known.in_year

  place_has : (k : ℕ) → k < days_asked s.register q → granted ≤ get_or s.free (span_place s.register q + k) 0
  unfolding amount_granted
  place_has k h = least_at s.free (span_place s.register q) q.amount (days_asked s.register q) k h

  -- the place of the k-th day of the span
  place_of : (k : ℕ) → span_place s.register q + k ≡ entry_of s.register.year q.point (span_first s.register q + k)
  place_of k = omega (arith, span.fit.begins)

  -- more than nothing, and not more than was asked
  pub granted_some : Within 1 q.amount (request_amount s q)
  granted_some = rw (accepted_amount s q z) (record { from = granted_from s q z; to = granted_le s q })

  -- no day of the span has less free
  pub granted_least : (d : ℕ) → span_first s.register q ≤ d → d ≤ span_last s.register q → request_amount s q ≤ free_on s q.point d
  granted_least d from to =
      let k = d - span_first s.register q in
      let e : span_place s.register q + (d - span_first s.register q) ≡ entry_of s.register.year q.point d = omega (arith, span.fit.begins, from) in
      rw (accepted_amount s q z, ← e) (place_has k (omega (arith, from, to)))

  -- "Granted is the asked amount, or the smallest free amount of the span if that is less.": what one day has
  pub granted_or_day : (request_amount s q ≡ q.amount)
      ⊎ ((d : ℕ) × ((span_first s.register q ≤ d) × ((d ≤ span_last s.register q) × (free_on s q.point d ≡ request_amount s q))))
  unfolding amount_granted
  granted_or_day =
      let e = accepted_amount s q z in
      ⊎_elim (λ a. inl (e ∙ a))
      (λ t. inr (span_first s.register q + t.0, (omega arith, (omega (arith, t.1.0, span.fit.ordered), ap (λ (j : ℕ). get_or s.free j 0) (sym (place_of t.0)) ∙ t.1.1 ∙ sym e))))
      (least_is s.free (span_place s.register q) q.amount (days_asked s.register q))

  -- a cut was due: "Cut means granted less than asked"
  pub cut_due : request_amount s q < q.amount
      → (d : ℕ) × ((span_first s.register q ≤ d) × ((d ≤ span_last s.register q) × (free_on s q.point d ≡ request_amount s q)))
  cut_due h = ⊎_elim (λ e. absurd (omega (arith, h, e))) (λ d. d) granted_or_day

  -- ---- what it does
  request_bookable : Bookable s (grant_of s.register q (request_amount s q))
  request_bookable =
      rw (accepted_amount s q z)
      (record {
        room = granted_room s q z;
        filed = known.filed;
        open_point_lem = known.open_point_lem;
        month = month_line s.register.year q.arrival q.product known.fields.month;
        last = line_ends s.register.year q.arrival q.product (grant_of s.register q granted) span.year known.fields.month refl refl;
        free = place_has;
      })

  -- an accepted request books what it answers: each day of the span is lowered by it, its charge joins the commitment, its line is
  -- written and ends with the span, and every other number is unchanged; and the register is sound again
  pub request_booked : Sound s → BookedIn s (grant_of s.register q (request_amount s q)) (request_after s q)
  request_booked sound =
      subst (BookedIn s (grant_of s.register q (request_amount s q))) (sym (accepted_after s q z)) (booked_in s (grant_of s.register q (request_amount s q)) sound request_bookable)

-- ---- every request, whatever it is answered, leaves a sound register sound
pub request_keeps : (s : State) (q : Request) → Sound s → Sound (request_after s q)
request_keeps s q sound = go (ℕ_discrete (request_number s q) 0)
  where
    go : Dec (request_number s q ≡ 0) → Sound (request_after s q)
    go (yes z) = (request_booked s q z sound).sound
    go (no n) = subst Sound (refused_after s q n) sound
