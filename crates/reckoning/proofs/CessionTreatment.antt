-- How cessions are treated, by the reckoning of the calls before them.
-- Assumes nothing.
use mathlib.Core.Path.{◌≡◌, refl, sym, ap, ◌∙◌}
use mathlib.Core.Bool.{Bool, true, false, ◌&&◌}
use mathlib.Core.Logic.{◌⊎◌, inl, inr}
use Prim.Native.Nat.{ℕ}
use native.Mathlib.Omega.{arith}
use Rattle.parts.specs.Registers.{State}
use Rattle.parts.specs.Accounts.{is_on_file}
use Rattle.spans.specs.Spans.{annual_first, annual_last, span_ok}
use Rattle.cession_decision.specs.declared.deciding.Cession.{Cession}
use Rattle.cession_decision.specs.CessionQuestions.{giver_of, receiver_of, both_on_file, is_in_year, charge_of, cession_questions}
use Rattle.cessions.specs.CedeCapacity.{cession_number}
use Rattle.cessions.proofs.AnswerLaws.{answered_passes, passes_answered, facts, accepted_amount, refused_amount, refused_after}
use Rattle.cessions.proofs.RefusalLaws.{refused_by, not_covered, ledger_full}
use Rattle.reckoning.specs.Calls.{cede_capacity, answer}
use Rattle.reckoning.specs.Reckoning.{Reckoning, ceded_charge}
use Rattle.reckoning.specs.Reasons.{CessionGrounds}
use Rattle.reckoning.specs.Demand3.{Treated}
use Rattle.reckoning.proofs.Agreement.{Agree}
use Rattle.reckoning.proofs.CallLaws.{answered, altered}
use Rattle.reckoning.proofs.NumberLaws.{among}
use Rattle.reckoning.proofs.Backing.{Backed, never_below}
use Rattle.reckoning.proofs.AgreedLaws.{open_by, charge_ceded, covered, uncovered, unfiled, lines_left_lem, lines_short}

module _ (s : State) (k : Reckoning) (w : Agree s k) (backed : Backed s) (c : Cession) where
  -- one of the two is not on file
  unfiled_either : both_on_file s.register c ≡ false → (k.guarantee c.giver ≡ 0) ⊎ (k.guarantee c.receiver ≡ 0)
  unfiled_either h = go (is_on_file (giver_of s.register c)) refl h
    where
      go : (b : Bool) → is_on_file (giver_of s.register c) ≡ b → (b && is_on_file (receiver_of s.register c)) ≡ false → (k.guarantee c.giver ≡ 0) ⊎ (k.guarantee c.receiver ≡ 0)
      go true e n = inr (unfiled s k w c.receiver n)
      go false e n = inl (unfiled s k w c.giver e)

  -- question 8, by the reckoning's year
  span_by : {b : Bool} → is_in_year s.register c ≡ b → span_ok k.year c.arrival (annual_first c.arrival) (annual_last k.year) ≡ b
  span_by h = sym (ap (λ (y : ℕ). span_ok y c.arrival (annual_first c.arrival) (annual_last y)) w.year) ∙ h

  cession_grounds : cession_number s c ≡ 0 → CessionGrounds k c
  cession_grounds z =
      let a = answered_passes s c z in
      let f = facts s c z in
      record {
        two = a.1.0;
        three = open_by s k w c.point true a.1.1.0;
        eight = span_by f.in_year;
        nine = f.in_time;
        eleven = covered s k w c.receiver (charge_of s.register c) (ceded_charge k c) f.covered (charge_ceded s k w c);
        thirteen = lines_left_lem s k w 2 f.lines;
      }

  pub cession_treated : Treated s k (cede_capacity c) (answer s (cede_capacity c))
  unfolding cession_number
  cession_treated =
      record {
        accepted = answered s (cede_capacity c);
        does = altered s (cede_capacity c);
        refused = λ n. (sym (refused_after s c n), (sym (refused_amount s c n), (refl, refl)));
        rule = λ h. accepted_amount s c (passes_answered s c h);
        grounds = cession_grounds;
        reasons =
            record {
              only = among (cession_questions s c);
              one = never_below s c w.sound backed;
              two = λ h. (refused_by s c 1 refl (omega arith) h).1;
              three = λ h. open_by s k w c.point false (refused_by s c 2 refl (omega arith) h).1.1;
              five = λ h. unfiled_either (refused_by s c 3 refl (omega arith) h).1.1.1;
              eight = λ h. span_by (refused_by s c 4 refl (omega arith) h).1.1.1.1;
              nine = λ h. (refused_by s c 5 refl (omega arith) h).1.1.1.1.1;
              eleven = λ h. uncovered s k w c.receiver (charge_of s.register c) (ceded_charge k c) (not_covered s c h) (charge_ceded s k w c);
              thirteen = λ h. lines_short s k w 2 (ledger_full s c h);
            };
      }
