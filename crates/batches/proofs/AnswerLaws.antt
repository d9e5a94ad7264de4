-- What an answer to a batch tells, and what a refused one leaves.
-- Assumes nothing.
use mathlib.Core.Path.{◌≡◌, refl, sym}
use mathlib.Core.Bool.{true, ◌&&◌}
use Prim.Native.Nat.{ℕ, ◌+◌, ◌≤◌, ◌<◌}
use lib.Dec.{eqb}
use lib.ListN.{length}
use borrow.Author.Tests.{ltb-true, leb-true, eq-eqb}
use Rattle.calendar.specs.ThermalYears.{is_thermal_year}
use Rattle.days.proofs.Ranges.{Within}
use Rattle.std.proofs.lemmas.Bool.{and_from as both}
use Rattle.parts.specs.Limits.{point_count, line_count, table_length}
use Rattle.parts.specs.Registers.{State, point_at}
use Rattle.parts.specs.Answers.{Passes}
use Rattle.parts.proofs.AnswerLaws.{passes, passed, leaves_new, leaves_old}
use Rattle.order.proofs.OrderFacts.{InOrder, ordered}
use Rattle.shares.specs.Batches.{Batch, lines_of}
use Rattle.shares.specs.ShareLines.{most_lines, batch_fields, can_share}
use Rattle.shares.proofs.CanShareLaws.{field_facts}
use Rattle.batches.specs.ConferBatch.{batch_questions, batch_number, booked_lines, batch_after}

module _ (s : State) (b : Batch) (m n : ℕ) where
  -- "each other call of the list is answered 0 exactly when it passes all questions put to it (a batch: those put to it as a whole)"
  pub answered_passes : batch_number s b m n ≡ 0 → Passes (batch_questions s b m n)
  unfolding batch_number
  answered_passes h = passes (batch_questions s b m n) refl h

  pub passes_answered : Passes (batch_questions s b m n) → batch_number s b m n ≡ 0
  unfolding batch_number
  passes_answered h = passed (batch_questions s b m n) h

  -- what an accepted batch tells
  pub record BatchFacts : Type 0 where
    pub order : InOrder s
    pub point : b.point < point_count
    pub lines : Within 1 most_lines (lines_of b)
    pub asked_length : length b.asked ≡ lines_of b
    pub shares_length : m ≡ lines_of b
    pub numbers_length : n ≡ lines_of b
    pub open_point_lem : 0 < (point_at s.register.points b.point).kind
    pub left : s.register.lines + lines_of b ≤ line_count

  pub facts : batch_number s b m n ≡ 0 → BatchFacts
  facts h =
      let a = answered_passes h in
      let w = field_facts b m n a.1.0 in
      record {
        order = ordered s a.0;
        point = w.point;
        lines = w.lines;
        asked_length = w.asked_length;
        shares_length = w.shares_length;
        numbers_length = w.numbers_length;
        open_point_lem = ltb-true _ _ a.1.1.0;
        left = leb-true _ _ a.1.1.1.0;
      }

  -- it can be shared out
  pub can_share_lem : batch_number s b m n ≡ 0 → can_share s.register s.free b m n ≡ true
  can_share_lem h =
      let year = is_thermal_year s.register.year in
      let table = eqb (length s.free) table_length in
      let w = (facts h).order in
      both (year && table) (batch_fields b m n) (both year table w.year (eq-eqb _ _ w.table_length_lem)) (answered_passes h).1.0

  -- its lines are booked
  pub accepted_after : batch_number s b m n ≡ 0 → batch_after s b m n ≡ booked_lines s b (lines_of b)
  unfolding batch_after
  accepted_after z = leaves_new (batch_number s b m n) (booked_lines s b (lines_of b)) s z

  -- a refused batch leaves what there was
  pub refused_after : (batch_number s b m n ≡ 0 → ⊥) → s ≡ batch_after s b m n
  unfolding batch_after
  refused_after h = sym (leaves_old (batch_number s b m n) (booked_lines s b (lines_of b)) s h)
