-- Laws of the request's questions: what the code's steps rest on.
-- Assumes nothing.
use mathlib.Core.Path.{◌≡◌, refl, sym, ap, ◌∙◌}
use mathlib.Core.Bool.{Bool, true, false, ◌&&◌}
use mathlib.Core.List.{List}
use Prim.Native.Nat.{ℕ, zero, suc, ◌+◌, ◌<◌, min}
use native.Mathlib.Omega.{arith}
use lib.Dec.{ltb}
use lib.ListN.{get_or}
use borrow.Author.Tests.{ltb-true, ltb-false, lt-ltb, le-ltb}
use Rattle.std.specs.Prelude.{Some, None, Result, Ok, Err}
use Rattle.calendar.specs.declared.thermal_years.Span.{Span}
use Rattle.days.specs.Days.{between}
use Rattle.days.proofs.Ranges.{and_left, and_right, Within, within}
use Rattle.calendar.proofs.SpanLaws.{chosen, unchosen}
use Rattle.parts.specs.declared.answers.Refusal.{Refusal}
use Rattle.parts.specs.declared.registers.Register.{Register}
use Rattle.parts.specs.Registers.{State}
use Rattle.parts.specs.Limits.{point_count, user_count, most_amount}
use Rattle.parts.specs.Tests.{all_below}
use Rattle.amounts.specs.Ranges.{least_of}
use Rattle.amounts.specs.Amounts.{span_days, entry_in}
use Rattle.parts.specs.Answers.{Question, number_of}
use Rattle.amounts.proofs.CalendarLaws.{day_in_lem}
use Rattle.amounts.proofs.AmountLaws.{entry_in_lem}
use Rattle.conferral.specs.declared.bookings.Grant.{Grant}
use Rattle.conferral.specs.Bookings.{covers, is_covered}
use Rattle.spans.proofs.SpanLaws.{SpanFacts, span_facts}
use Rattle.conferral.proofs.RoomLaws.{LimitFacts, covered_is}
use Rattle.products.specs.declared.products.Product.{Product}
use Rattle.products.specs.declared.products.Product.TheVariants.{Annual, Month, Day}
use Rattle.products.specs.declared.products.Request.{Request}
use Rattle.products.specs.Products.{kind_of, month_ok, is_in_year}
use Rattle.request_decision.specs.RequestQuestions.{request_fields, span_first, span_last, span_of, days_asked, span_place, account_of, grant_of, charge_asked, is_free, free_throughout, amount_granted}
use Rattle.products.specs.Products.{span_answer}
use Rattle.request_decision.specs.Decisions.{Decides}
use Rattle.request_decision.specs.Steps.{Spanned}

-- ---- question 2
pub record FieldFacts (q : Request) : Type 0 where
  pub point : q.point < point_count
  pub user : q.user < user_count
  pub amount : Within 1 most_amount q.amount
  pub month : month_ok q.product ≡ true

pub fields : (q : Request) → request_fields q ≡ true → FieldFacts q
fields q h =
    let a = ltb q.point point_count in
    let b = ltb q.user user_count in
    let d = between 1 most_amount q.amount in
    let m = month_ok q.product in
    let abd = and_left (a && b && d) m h in
    let ab = and_left (a && b) d abd in
    record {
      point = ltb-true _ _ (and_left a b ab);
      user = ltb-true _ _ (and_right a b ab);
      amount = within 1 most_amount q.amount (and_right (a && b) d abd);
      month = and_right (a && b && d) m h;
    }

-- the kind of its line
kind_within : (k : Product) → Within 1 3 (kind_of k)
kind_within Annual = record { from = omega arith; to = omega arith }
kind_within (Month m) = record { from = omega arith; to = omega arith }
kind_within (Day d) = record { from = omega arith; to = omega arith }

-- ---- question 8
module _ (r : Register) (q : Request) where
  pub spanned : (days : Span) → span_answer r.year q.arrival q.product ≡ Some days → Spanned r q days
  unfolding span_answer
  spanned days e =
      let m = month_ok q.product in
      let y = is_in_year r.year q.arrival q.product in
      let t = chosen (m && y) (span_of r q) days e in
      record { is = t.1; fits = and_right m y t.0 }

  pub no_span : month_ok q.product ≡ true → span_answer r.year q.arrival q.product ≡ None → is_in_year r.year q.arrival q.product ≡ false
  unfolding span_answer
  no_span m e =
      let y = is_in_year r.year q.arrival q.product in
      sym (ap (λ (t : Bool). t && y) m) ∙ unchosen (month_ok q.product && y) (span_of r q) e

  pub span_in : (days : Span) → Spanned r q days → SpanFacts r.year q.arrival days.first days.last
  span_in days w = rw w.is (span_facts r.year q.arrival (span_first r q) (span_last r q) w.fits)

  -- ---- question 11
  -- the grant of what is asked, or of less, is within limits
  pub grant_limits : (amount : ℕ) → FieldFacts q → is_in_year r.year q.arrival q.product ≡ true → Within 1 most_amount amount → LimitFacts r.year (grant_of r q amount)
  grant_limits amount w h m =
      let s = span_facts r.year q.arrival (span_first r q) (span_last r q) h in
      record { year = s.year; fit = s.fit; user = w.user; point = w.point; kind = kind_within q.product; amount = m }

  -- so the code's test is the question
  pub asks_cover : (g : Grant) → FieldFacts q → is_in_year r.year q.arrival q.product ≡ true → g ≡ grant_of r q q.amount
      → is_covered r g ≡ covers (account_of r q) (charge_asked r q)
  asks_cover g w h e = ap (is_covered r) e ∙ covered_is r (grant_of r q q.amount) (grant_limits q.amount w h w.amount)

-- ---- question 12
some_min : (a b : ℕ) → ltb 0 (min a b) ≡ (ltb 0 a && ltb 0 b)
some_min a b = go (ltb 0 a) refl (ltb 0 b) refl
  where
    go : (t : Bool) → ltb 0 a ≡ t → (u : Bool) → ltb 0 b ≡ u → ltb 0 (min a b) ≡ (t && u)
    go true p true e = lt-ltb 0 (min a b) (omega (arith, ltb-true 0 a p, ltb-true 0 b e))
    go true p false e = le-ltb 0 (min a b) (omega (arith, ltb-false 0 b e))
    go false p u e = le-ltb 0 (min a b) (omega (arith, ltb-false 0 a p))

-- the smallest is more than nothing exactly where something is free on every day
some_least : (l : List ℕ) (at n m : ℕ) → 0 < m → ltb 0 (least_of l at n m) ≡ all_below n (is_free l at)
unfolding least_of all_below
some_least l at zero m h = lt-ltb 0 m h
some_least l at (suc n) m h =
    some_min (least_of l at n m) (get_or l (at + n) 0) ∙ ap (λ (t : Bool). t && is_free l at n) (some_least l at n m h)

module _ (r : Register) (f : List ℕ) (q : Request) where
  -- the amount granted, as the code finds it
  pub granted_is : (days : Span) (place : ℕ) → Spanned r q days → place ≡ entry_in r.year q.point days.first
      → least_of f place (span_days days.first days.last) q.amount ≡ amount_granted r f q
  unfolding amount_granted
  granted_is days place w e =
      let s = span_in r q days w in
      let in_year = day_in_lem r.year days.first s.year s.fit.begins (omega (arith, s.fit.ordered, s.fit.ends)) in
      let at = e ∙ entry_in_lem r.year q.point days.first in_year in
      rw (at, w.is)

  pub granted_free : 0 < q.amount → ltb 0 (amount_granted r f q) ≡ free_throughout r f q
  unfolding amount_granted
  granted_free h = some_least f (span_place r q) (days_asked r q) q.amount h

-- ---- decisions
-- what a decision says of some questions it says of others that give the same number
pub decides_too : (qs rs : List Question) (s : State) (q : Request) (d : Result Grant Refusal) → number_of qs ≡ number_of rs → Decides qs s q d → Decides rs s q d
decides_too qs rs s q (Ok g) e h = (sym e ∙ h.0, h.1)
decides_too qs rs s q (Err why) e h = h ∙ e
