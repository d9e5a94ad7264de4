-- Laws of the cession's questions: what the code's steps rest on.
-- Assumes nothing.
use mathlib.Core.Path.{◌≡◌, sym, ◌∙◌}
use mathlib.Core.Bool.{true, false, not, ◌&&◌}
use mathlib.Core.List.{List}
use Prim.Native.Nat.{ℕ, ◌<◌}
use native.Mathlib.Omega.{arith}
use lib.Dec.{ltb, eqb}
use borrow.Author.Tests.{ltb-true, eqb-false, not-true}
use Rattle.std.specs.Prelude.{Some, None, Result, Ok, Err}
use Rattle.calendar.specs.declared.thermal_years.Span.{Span}
use Rattle.days.specs.Days.{between}
use Rattle.days.proofs.Ranges.{and_left, and_right, Within, within}
use Rattle.calendar.proofs.SpanLaws.{chosen, unchosen}
use Rattle.parts.specs.declared.answers.Refusal.{Refusal}
use Rattle.parts.specs.declared.registers.Register.{Register}
use Rattle.parts.specs.Limits.{point_count, user_count, most_amount}
use Rattle.parts.specs.Answers.{Question, number_of}
use Rattle.spans.specs.Spans.{arrives, annual_answer}
use Rattle.conferral.specs.Bookings.{charge_within}
use Rattle.spans.proofs.SpanLaws.{span_facts, arrival_year}
use Rattle.conferral.proofs.RoomLaws.{charge_within_lem}
use Rattle.holdings.specs.Holdings.{LinesIn, held_answer, is_throughout}
use Rattle.holdings.proofs.HeldLaws.{held_answer_lem}
use Rattle.cession_decision.specs.declared.deciding.Cession.{Cession}
use Rattle.cession_decision.specs.declared.deciding.Handover.{Handover}
use Rattle.cession_decision.specs.CessionQuestions.{cession_fields, span_first, span_last, span_of, is_in_year, given_of, is_held, charge_of}
use Rattle.cession_decision.specs.Decisions.{Decides}
use Rattle.cession_decision.specs.Steps.{span_answer, Spanned}

-- ---- question 2
pub record FieldFacts (c : Cession) : Type 0 where
  pub point : c.point < point_count
  pub giver : c.giver < user_count
  pub receiver : c.receiver < user_count
  pub apart : c.giver ≡ c.receiver → ⊥
  pub amount : Within 1 most_amount c.amount

pub fields : (c : Cession) → cession_fields c ≡ true → FieldFacts c
fields c h =
    let p = ltb c.point point_count in
    let g = ltb c.giver user_count in
    let r = ltb c.receiver user_count in
    let n = not (eqb c.giver c.receiver) in
    let m = between 1 most_amount c.amount in
    let named = and_left (p && (g && r) && n) m h in
    let within-counts = and_left (p && (g && r)) n named in
    let users = and_right p (g && r) within-counts in
    record {
      point = ltb-true _ _ (and_left p (g && r) within-counts);
      giver = ltb-true _ _ (and_left g r users);
      receiver = ltb-true _ _ (and_right g r users);
      apart = eqb-false _ _ (not-true _ (and_right (p && (g && r)) n named));
      amount = within 1 most_amount c.amount (and_right (p && (g && r) && n) m h);
    }

-- ---- question 8
pub no_arrival : (y a : ℕ) → arrives y a ≡ false → None ≡ span_answer y a
unfolding span_answer
no_arrival y a h = rw h

pub arrived_span : (y a : ℕ) → arrives y a ≡ true → annual_answer y a ≡ span_answer y a
unfolding span_answer annual_answer
arrived_span y a h = rw (h, arrival_year y a h)

module _ (r : Register) (c : Cession) where
  pub spanned : (days : Span) → span_answer r.year c.arrival ≡ Some days → Spanned r c days
  unfolding span_answer
  spanned days e =
      let t = chosen (is_in_year r c) (span_of r c) days e in
      record { is = t.1; fits = t.0 }

  pub no_span : span_answer r.year c.arrival ≡ None → is_in_year r c ≡ false
  unfolding span_answer
  no_span e = unchosen (is_in_year r c) (span_of r c) e

  -- ---- question 10
  -- whether the giver holds the amount, from the days of the span
  pub held_asks : (days : Span) → Spanned r c days → (ls : List ℕ) → LinesIn r.year r.lines ls
      → is_throughout (held_answer r.year r.lines ls (record { user = c.giver; point = c.point; first = days.first; last = days.last; amount = c.amount })) ≡ is_held r ls c
  held_asks days w ls l = rw w.is (held_answer_lem r.year r.lines ls l (given_of r c))

  -- ---- the charge
  -- that of a grant to the receiver, whatever its kind
  pub charge_is : (days : Span) (kind : ℕ) → FieldFacts c → Spanned r c days → Within 1 3 kind
      → charge_within r (record { user = c.receiver; point = c.point; kind = kind; days = days; amount = c.amount }) ≡ charge_of r c
  charge_is days kind f w k =
      let s = span_facts r.year c.arrival (span_first c) (span_last r) w.fits in
      rw w.is
      (charge_within_lem r (record { user = c.receiver; point = c.point; kind = kind; days = span_of r c; amount = c.amount })
      (record { year = s.year; fit = s.fit; user = f.receiver; point = f.point; kind = k; amount = f.amount }))

  -- and so of an annual one, as the code finds it
  pub charge_annual : (days : Span) → cession_fields c ≡ true → Spanned r c days
      → charge_within r (record { user = c.receiver; point = c.point; kind = 1; days = days; amount = c.amount }) ≡ charge_of r c
  charge_annual days h w = charge_is days 1 (fields c h) w (record { from = omega arith; to = omega arith })

-- ---- decisions
-- what a decision says of some questions it says of others that give the same number
pub decides_too : (qs rs : List Question) (r : Register) (c : Cession) (d : Result Handover Refusal) → number_of qs ≡ number_of rs → Decides qs r c d → Decides rs r c d
decides_too qs rs r c (Ok h) e d = (sym e ∙ d.0, d.1)
decides_too qs rs r c (Err why) e d = d ∙ e
