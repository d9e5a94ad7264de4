-- How openings, guarantees and turns of the year are treated, by the reckoning of the calls before them.
-- Assumes nothing.
use mathlib.Core.Path.{refl, sym}
use mathlib.Core.Bool.{true, false}
use Prim.Native.Nat.{ℕ}
use native.Mathlib.Omega.{arith}
use borrow.Author.Tests.{leb-true, leb-false, ltb-true, ltb-false, not-true, not-false}
use Rattle.parts.specs.Registers.{State, account_at}
use Rattle.parts.proofs.AnswerLaws.{passes}
use Rattle.parts.proofs.QuestionLaws.{refused_at}
use Rattle.opening.specs.OpenPoint.{open_questions, open_number, open_after}
use Rattle.placing.specs.PlaceGuarantee.{place_questions, place_number, place_after}
use Rattle.turning.specs.TurnYear.{turn_questions, turn_number, turn_after}
use Rattle.opening.proofs.OpenLaws.{open_old}
use Rattle.placing.proofs.PlaceLaws.{place_old}
use Rattle.turning.proofs.TurnLaws.{turn_old}
use Rattle.reckoning.specs.Calls.{open_point, place_guarantee, turn_year, answer}
use Rattle.reckoning.specs.Reckoning.{Reckoning}
use Rattle.reckoning.specs.Demand3.{Treated}
use Rattle.reckoning.proofs.Agreement.{Agree}
use Rattle.reckoning.proofs.CallLaws.{answered, altered}
use Rattle.reckoning.proofs.NumberLaws.{among}
use Rattle.reckoning.proofs.AgreedLaws.{never_disordered, open_by}

module _ (s : State) (k : Reckoning) (w : Agree s k) where
  pub open_treated : (p kind total rate : ℕ) → Treated s k (open_point p kind total rate) (answer s (open_point p kind total rate))
  unfolding open_number open_after
  open_treated p kind total rate =
      let qs = open_questions s p kind total rate in
      record {
        accepted = answered s (open_point p kind total rate);
        does = altered s (open_point p kind total rate);
        refused = λ n. (sym (open_old s p kind total rate n), (refl, (refl, refl)));
        rule = λ h. refl;
        grounds = λ z. let a = passes qs refl z in record { two = a.1.0; four = open_by s k w p false (not-true _ a.1.1.0) };
        reasons =
            record {
              only = among qs;
              one = λ h. never_disordered s k w (refused_at qs 0 refl (omega arith) h);
              two = λ h. (refused_at qs 1 refl (omega arith) h).1;
              four = λ h. open_by s k w p true (not-false _ (refused_at qs 2 refl (omega arith) h).1.1);
            };
      }

  pub place_treated : (u g : ℕ) → Treated s k (place_guarantee u g) (answer s (place_guarantee u g))
  unfolding place_number place_after
  place_treated u g =
      let qs = place_questions s u g in
      record {
        accepted = answered s (place_guarantee u g);
        does = altered s (place_guarantee u g);
        refused = λ n. (sym (place_old s u g n), (refl, (refl, refl)));
        rule = λ h. refl;
        grounds = λ z. let a = passes qs refl z in record { two = a.1.0; six = omega (arith, leb-true (account_at s.register.accounts u).commitment g a.1.1.0, w.balance u) };
        reasons =
            record {
              only = among qs;
              one = λ h. never_disordered s k w (refused_at qs 0 refl (omega arith) h);
              two = λ h. (refused_at qs 1 refl (omega arith) h).1;
              six = λ h. omega (arith, leb-false (account_at s.register.accounts u).commitment g (refused_at qs 2 refl (omega arith) h).1.1, w.balance u);
            };
      }

  pub turn_treated : (y : ℕ) → Treated s k (turn_year y) (answer s (turn_year y))
  unfolding turn_number turn_after
  turn_treated y =
      let qs = turn_questions s y in
      record {
        accepted = answered s (turn_year y);
        does = altered s (turn_year y);
        refused = λ n. (sym (turn_old s y n), (refl, (refl, refl)));
        rule = λ h. refl;
        grounds = λ z. let a = passes qs refl z in record { two = a.1.0; fifteen = omega (arith, ltb-true s.register.year y a.1.1.0, w.year) };
        reasons =
            record {
              only = among qs;
              one = λ h. never_disordered s k w (refused_at qs 0 refl (omega arith) h);
              two = λ h. (refused_at qs 1 refl (omega arith) h).1;
              fifteen = λ h. omega (arith, ltb-false s.register.year y (refused_at qs 2 refl (omega arith) h).1.1, w.year);
            };
      }
