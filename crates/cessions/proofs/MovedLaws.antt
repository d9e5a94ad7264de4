-- What users hold after a cession: on each gas-day of the span the giver the amount less and the receiver the amount more, and
-- otherwise what they held.
-- Assumes nothing.
use mathlib.Core.Path.{◌≡◌, refl, sym, ap, ap₂, ◌∙◌}
use mathlib.Core.Bool.{Bool, true, false, cond, ◌&&◌}
use Prim.Native.Nat.{ℕ, ◌+◌, ◌≤◌}
use native.Mathlib.Omega.{arith}
use lib.Dec.{eqb}
use lib.IntN.{ℤ, pos, ◌+ℤ◌, ◌-ℤ◌, +ℤ_idr}
use borrow.Author.Tests.{eqb-true, eq-eqb}
use Rattle.days.proofs.Ranges.{and_left, and_right, within, is_between}
use Rattle.std.proofs.lemmas.Bool.{and_from as both}
use Rattle.parts.specs.Registers.{State}
use Rattle.ledger.specs.declared.ledger.Line.{Line}
use Rattle.ledger.specs.Ledger.{line_last}
use Rattle.register.specs.Sound.{Sound}
use Rattle.ledger.proofs.LineLaws.{annual_last_lem}
use Rattle.holdings.specs.Holdings.{signed_sum, is_his, covers_day, part_of, part_at, held_on}
use Rattle.holdings.proofs.SumLaws.{sum_more, sum_same}
use Rattle.cession_decision.specs.declared.deciding.Cession.{Cession}
use Rattle.cession_decision.specs.CessionQuestions.{span_first, span_last}
use Rattle.cession_decision.proofs.CessionLaws.{FieldFacts}
use Rattle.cessions.specs.CedeCapacity.{minus_line, plus_line, cession_number, cession_after}
use Rattle.cessions.proofs.AnswerLaws.{facts}
use Rattle.cessions.proofs.CededLaws.{CededIn, cession_ceded}

-- what a user holds at a point on a gas-day
abbrev pub holds : State → ℕ → ℕ → ℕ → ℤ
holds s user point d = held_on s.register.year s.register.lines s.ledger user point d

-- ---- what one line adds
module _ (y user point d : ℕ) (l : Line) where
  part_in_lem : l.user ≡ user → l.point ≡ point → l.first ≤ d → d ≤ line_last y l → part_of y user point d l ≡ l.amount
  part_in_lem u p from to =
      let on-it : (is_his user point l && covers_day y d l) ≡ true =
      both _ _ (both _ _ (eq-eqb _ _ u) (eq-eqb _ _ p)) (is_between l.first (line_last y l) d from to) in
      ap (λ (t : Bool). cond t l.amount (pos 0)) on-it

  part_out : (l.user ≡ user → l.point ≡ point → l.first ≤ d → d ≤ line_last y l → ⊥) → part_of y user point d l ≡ pos 0
  part_out out = go (is_his user point l && covers_day y d l) refl
    where
      go : (t : Bool) → (is_his user point l && covers_day y d l) ≡ t → cond t l.amount (pos 0) ≡ pos 0
      go false e = refl
      go true e =
          let his = and_left (is_his user point l) (covers_day y d l) e in
          let w = within l.first (line_last y l) d (and_right (is_his user point l) (covers_day y d l) e) in
          absurd (out (eqb-true _ _ (and_left (eqb l.user user) (eqb l.point point) his)) (eqb-true _ _ (and_right (eqb l.user user) (eqb l.point point) his)) w.from w.to)

-- ---- after a cession
module _ (s : State) (c : Cession) (sound : Sound s) (z : cession_number s c ≡ 0) where
  abbrev t : State
  t = cession_after s c

  abbrev y : ℕ
  y = s.register.year

  abbrev n : ℕ
  n = s.register.lines

  done : CededIn s c t
  done = cession_ceded s c sound z

  given : FieldFacts c
  given = (facts s c z).fields

  minus_last : line_last y (minus_line c) ≡ span_last s.register
  minus_last = annual_last_lem y (minus_line c) refl

  plus_last : line_last y (plus_line c) ≡ span_last s.register
  plus_last = annual_last_lem y (plus_line c) refl

  -- the two new lines are added to what was held
  module _ (user point d : ℕ) where
    abbrev parts : ℕ → ℤ
    parts = part_at y t.ledger user point d

    two : t.register.lines ≡ n + 1 + 1
    two = omega (arith, done.lines)

    old : signed_sum n parts ≡ signed_sum n (part_at y s.ledger user point d)
    old = sum_same n parts (part_at y s.ledger user point d) (λ k l. ap (part_of y user point d) (done.other_line k (λ e. omega (arith, e, l)) (λ e. omega (arith, e, l))))

    held_after : holds t user point d ≡ holds s user point d +ℤ part_of y user point d (minus_line c) +ℤ part_of y user point d (plus_line c)
    unfolding held_on
    held_after =
        ap₂ (λ (x k : ℕ). signed_sum k (part_at x t.ledger user point d)) done.year two
        ∙ sum_more (n + 1) parts
        ∙ ap₂ ◌+ℤ◌ (sum_more n parts ∙ ap₂ ◌+ℤ◌ old (ap (part_of y user point d) done.minus)) (ap (part_of y user point d) done.plus)

    -- whoever is not a party to it, and everyone at another point or on a day outside the span, holds what he held
    pub held_other : (user ≡ c.giver → point ≡ c.point → span_first c ≤ d → d ≤ span_last s.register → ⊥)
        → (user ≡ c.receiver → point ≡ c.point → span_first c ≤ d → d ≤ span_last s.register → ⊥)
        → holds t user point d ≡ holds s user point d
    held_other g r =
        held_after
        ∙ ap₂ (λ (a b : ℤ). holds s user point d +ℤ a +ℤ b)
        (part_out y user point d (minus_line c) (λ u p from to. g (sym u) (sym p) from (omega (arith, to, minus_last))))
        (part_out y user point d (plus_line c) (λ u p from to. r (sym u) (sym p) from (omega (arith, to, plus_last))))
        ∙ +ℤ_idr (holds s user point d +ℤ pos 0)
        ∙ +ℤ_idr (holds s user point d)

  module _ (d : ℕ) (from : span_first c ≤ d) (to : d ≤ span_last s.register) where
    -- the giver holds the amount less
    pub giver_holds : holds t c.giver c.point d ≡ holds s c.giver c.point d -ℤ pos c.amount
    giver_holds =
        held_after c.giver c.point d
        ∙ ap₂ (λ (a b : ℤ). holds s c.giver c.point d +ℤ a +ℤ b)
        (part_in_lem y c.giver c.point d (minus_line c) refl refl from (omega (arith, to, minus_last)))
        (part_out y c.giver c.point d (plus_line c) (λ u p f l. given.apart (sym u)))
        ∙ +ℤ_idr (holds s c.giver c.point d -ℤ pos c.amount)

    -- and the receiver the amount more
    pub receiver_holds : holds t c.receiver c.point d ≡ holds s c.receiver c.point d +ℤ pos c.amount
    receiver_holds =
        held_after c.receiver c.point d
        ∙ ap₂ (λ (a b : ℤ). holds s c.receiver c.point d +ℤ a +ℤ b)
        (part_out y c.receiver c.point d (minus_line c) (λ u p f l. given.apart u))
        (part_in_lem y c.receiver c.point d (plus_line c) refl refl from (omega (arith, to, plus_last)))
        ∙ ap (λ (a : ℤ). a +ℤ pos c.amount) (+ℤ_idr (holds s c.receiver c.point d))
