-- What an answer tells: an accepted cession passed every question, and a refused one leaves what there was. `decided` and
-- `refused` are what the code's decision comes to.
-- Assumes nothing.
use mathlib.Core.Path.{◌≡◌, refl, sym, ◌∙◌}
use mathlib.Core.Bool.{true}
use mathlib.Core.List.{List}
use Prim.Native.Nat.{ℕ, ◌+◌, ◌≤◌, ◌<◌}
use native.Mathlib.Omega.{arith}
use lib.IntN.{pos, neg_ℤ}
use borrow.Author.Tests.{ltb-true, leb-true, eqb-true}
use Rattle.days.proofs.Ranges.{and_left, and_right}
use Rattle.std.specs.Prelude.{Ok, Err}
use Rattle.parts.specs.declared.answers.Refusal.{Refusal}
use Rattle.ledger.specs.declared.ledger.Line.{Line}
use Rattle.parts.specs.declared.registers.Register.{Register}
use Rattle.parts.specs.Limits.{line_count}
use Rattle.parts.specs.Registers.{State, state, with_lines}
use Rattle.parts.specs.Accounts.{is_on_file}
use Rattle.parts.specs.Answers.{number_of_refusal, Passes}
use Rattle.order.proofs.OrderFacts.{InOrder, ordered}
use Rattle.parts.proofs.AnswerLaws.{passes, passed, refusal_number, leaves_new, leaves_old}
use Rattle.cession_decision.specs.declared.deciding.Cession.{Cession}
use Rattle.cession_decision.specs.declared.deciding.Handover.{Handover}
use Rattle.cession_decision.specs.CessionQuestions.{point_of, giver_of, receiver_of, is_in_year, is_in_time, is_held, charge_of, cession_questions}
use Rattle.cession_decision.specs.Decisions.{handover_of, Decides}
use Rattle.cession_decision.proofs.CessionLaws.{FieldFacts, fields}
use Rattle.cessions.specs.CedeCapacity.{charge_moved, annual_line, with_two_lines, cession_number, cession_amount, ceded, cession_after}

module _ (s : State) (c : Cession) where
  -- "each other call of the list is answered 0 exactly when it passes all questions put to it"
  pub answered_passes : cession_number s c ≡ 0 → Passes (cession_questions s c)
  unfolding cession_number
  answered_passes h = passes (cession_questions s c) refl h

  pub passes_answered : Passes (cession_questions s c) → cession_number s c ≡ 0
  unfolding cession_number
  passes_answered h = passed (cession_questions s c) h

  -- what an accepted cession tells
  pub record CessionFacts : Type 0 where
    pub order : InOrder s
    pub fields : FieldFacts c
    pub open_point_lem : 0 < (point_of s.register c).kind
    pub filed_giver : (giver_of s.register c).on_file ≡ 1
    pub filed_receiver : (receiver_of s.register c).on_file ≡ 1
    pub in_year : is_in_year s.register c ≡ true
    pub in_time : is_in_time c ≡ true
    pub held : is_held s.register s.ledger c ≡ true
    pub giver_charge : charge_of s.register c ≤ (giver_of s.register c).commitment
    pub covered : (receiver_of s.register c).commitment + charge_of s.register c ≤ (receiver_of s.register c).guarantee
    pub lines : s.register.lines + 2 ≤ line_count

  pub facts : cession_number s c ≡ 0 → CessionFacts
  facts h =
      let a = answered_passes h in
      let giver = is_on_file (giver_of s.register c) in
      let receiver = is_on_file (receiver_of s.register c) in
      let b = a.1.1.1.1 in
      record {
        order = ordered s a.0;
        fields = fields c a.1.0;
        open_point_lem = ltb-true _ _ a.1.1.0;
        filed_giver = eqb-true _ _ (and_left giver receiver a.1.1.1.0);
        filed_receiver = eqb-true _ _ (and_right giver receiver a.1.1.1.0);
        in_year = b.0;
        in_time = b.1.0;
        held = b.1.1.0;
        giver_charge = leb-true _ _ b.1.1.1.0;
        covered = leb-true _ _ b.1.1.1.1.0;
        lines = leb-true _ _ b.1.1.1.1.1.0;
      }

  -- it cedes the amount named
  pub accepted_amount : cession_number s c ≡ 0 → cession_amount s c ≡ c.amount
  unfolding cession_amount
  accepted_amount z = leaves_new (cession_number s c) c.amount 0 z

  pub accepted_after : cession_number s c ≡ 0 → cession_after s c ≡ ceded s c
  unfolding cession_after
  accepted_after z = leaves_new (cession_number s c) (ceded s c) s z

  pub decided_zero : (h : Handover) → Decides (cession_questions s c) s.register c (Ok h) → cession_number s c ≡ 0
  unfolding cession_number
  decided_zero h d = d.0

  -- what an accepted cession tells, by the code's decision
  pub decided_facts : (h : Handover) → Decides (cession_questions s c) s.register c (Ok h) → CessionFacts
  decided_facts h d = facts (decided_zero h d)

  -- the register and the ledger as the code leaves them
  pub ceded_as : (h : Handover) (minus plus : Line) (rv : Register) (m : List ℕ) → h ≡ handover_of s.register c
      → minus ≡ annual_line c.giver c.point h.first (neg_ℤ (pos c.amount))
      → plus ≡ annual_line c.receiver c.point h.first (pos c.amount)
      → m ≡ with_two_lines s.ledger s.register.lines minus plus
      → rv ≡ with_lines (charge_moved s.register c h.charge) (s.register.lines + 2)
      → state rv s.free m ≡ ceded s c
  unfolding ceded
  ceded_as h minus plus rv m eh less more written moved = rw (moved, written, less, more, eh)

  pub decided : (h : Handover) (t : State) → Decides (cession_questions s c) s.register c (Ok h) → t ≡ ceded s c
      → (0 ≡ cession_number s c) × ((c.amount ≡ cession_amount s c) × (t ≡ cession_after s c))
  decided h t d e =
      let z = decided_zero h d in
      (sym z, (sym (accepted_amount z), e ∙ sym (accepted_after z)))

  -- a refused cession leaves what there was, and cedes nothing
  pub refused_amount : (cession_number s c ≡ 0 → ⊥) → 0 ≡ cession_amount s c
  unfolding cession_amount
  refused_amount h = sym (leaves_old (cession_number s c) c.amount 0 h)

  pub refused_after : (cession_number s c ≡ 0 → ⊥) → s ≡ cession_after s c
  unfolding cession_after
  refused_after h = sym (leaves_old (cession_number s c) (ceded s c) s h)

  pub refused : (why : Refusal) → Decides (cession_questions s c) s.register c (Err why)
      → (number_of_refusal why ≡ cession_number s c) × ((0 ≡ cession_amount s c) × (s ≡ cession_after s c))
  unfolding cession_number
  refused why d =
      let no : cession_number s c ≡ 0 → ⊥ = λ z. omega (arith, refusal_number why, d ∙ z) in
      (d, (refused_amount no, refused_after no))
