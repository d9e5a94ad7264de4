-- How batches are treated, by the reckoning of the calls before them.
-- Assumes nothing.
use mathlib.Core.Path.{◌≡◌, refl, sym, ap, ◌∙◌, subst}
use mathlib.Core.Bool.{Bool, true, false, cond}
use mathlib.Core.List.{List, [], ◌∷◌}
use Prim.Native.Nat.{ℕ, ◌≤◌, ◌<◌}
use native.Mathlib.Decide.{ℕ_discrete}
use native.Mathlib.Omega.{arith}
use lib.Dec.{eqb}
use lib.ListN.{get_or, length}
use borrow.Author.Tests.{lt-ltb, eqb-true, eqb-false, ne_eqb}
use Rattle.days.proofs.Ranges.{is_between}
use Rattle.std.proofs.lemmas.Bool.{and_from as both}
use Rattle.parts.specs.Limits.{user_count, most_amount}
use Rattle.amounts.specs.Ranges.{sum_below}
use Rattle.parts.specs.Registers.{State}
use Rattle.amounts.specs.Amounts.{year_days}
use Rattle.parts.specs.Answers.{leaves}
use Rattle.parts.proofs.AnswerLaws.{leaves_new, leaves_old}
use Rattle.amounts.proofs.RangeLaws.{sum_same}
use Rattle.shares.specs.Batches.{Batch, lines_of, user_of, asked_of, charge_asked, line_questions, line_number}
use Rattle.shares.specs.Shares.{free_of_year, counted_at, sum_asked, pro_quota, share_of, number_if, number_of_line, list_of}
use Rattle.shares.specs.ShareLines.{shares_of, numbers_of}
use Rattle.batches.specs.ConferBatch.{batch_questions, batch_number}
use Rattle.batches.proofs.AnswerLaws.{answered_passes, passes_answered, facts, refused_after}
use Rattle.shares.proofs.ShareLaws.{line_facts, share_sum, free_of_year_le, free_of_year_is, list_at, list_length}
use Rattle.shares.proofs.RefusalLaws.{line_refused_by, line_repeated, line_not_covered, line_nothing_free, line_answered}
use Rattle.batches.proofs.RefusalLaws.{refused_by, ledger_full}
use Rattle.reckoning.specs.Calls.{Answer, confer_batch, answer}
use Rattle.reckoning.specs.Reckoning.{Reckoning}
use Rattle.reckoning.specs.Reasons.{FairShares, line_passed, asked_if_passed, line_charge, LineGrounds, BatchGrounds, Uncovered, one_of, LineReasons}
use Rattle.reckoning.specs.Demand3.{Treated}
use Rattle.reckoning.proofs.Agreement.{Agree}
use Rattle.reckoning.proofs.CallLaws.{answered, altered}
use Rattle.reckoning.proofs.NumberLaws.{among, among_lines}
use Rattle.reckoning.proofs.AgreedLaws.{never_disordered, open_by, day_by, charge_by, covered, uncovered, unfiled, lines_left_lem, lines_short, free_by_lem}

-- ---- the number of a line, by its share
-- 0 and 12 are what a line is given that passed its questions
passed_by : (number share : ℕ) → (number_if number share ≡ 12 → number ≡ 0) → line_passed (number_if number share) ≡ eqb number 0
passed_by number share only = go (eqb number 0) refl (eqb share 0) only
  where
    go : (x : Bool) → eqb number 0 ≡ x → (y : Bool) → (cond x (cond y 12 0) number ≡ 12 → number ≡ 0) → line_passed (cond x (cond y 12 0) number) ≡ x
    go true e true f = refl
    go true e false f = refl
    go false e y f = rw (e, ne_eqb number 12 (λ h. eqb-false number 0 e (f h)))

-- any other was given by its questions
by_question : (number share x : ℕ) → number_if number share ≡ x → eqb x 0 ≡ false → eqb x 12 ≡ false → number ≡ x
by_question number share x h some other = go (eqb number 0) (eqb share 0) h
  where
    go : (t u : Bool) → cond t (cond u 12 0) number ≡ x → number ≡ x
    go true true e = absurd (eqb-false x 12 other (sym e))
    go true false e = absurd (eqb-false x 0 some (sym e))
    go false u e = e

module _ (s : State) (b : Batch) (m n : ℕ) where
  abbrev given : Answer
  given = answer s (confer_batch b m n)

  -- the smallest free amount of the year, and the sum of what the lines that pass asked for
  abbrev F : ℕ
  F = free_of_year s b.point

  abbrev S : ℕ
  S = sum_asked s.register b

  -- ---- what the two lists hold
  list_given : batch_number s b m n ≡ 0 → (g : ℕ → ℕ) (i : ℕ) → i < lines_of b → get_or (leaves (batch_number s b m n) (list_of (lines_of b) g) []) i 0 ≡ g i
  list_given z g i l =
      ap (λ (x : List ℕ). get_or x i 0) (leaves_new (batch_number s b m n) (list_of (lines_of b) g) [] z) ∙ list_at (lines_of b) g i l

  list_long : batch_number s b m n ≡ 0 → (g : ℕ → ℕ) → length (leaves (batch_number s b m n) (list_of (lines_of b) g) []) ≡ lines_of b
  list_long z g = ap length (leaves_new (batch_number s b m n) (list_of (lines_of b) g) [] z) ∙ list_length (lines_of b) g

  number_given : batch_number s b m n ≡ 0 → (i : ℕ) → i < lines_of b → get_or given.numbers i 0 ≡ number_of_line s b i
  unfolding numbers_of
  number_given z = list_given z (number_of_line s b)

  share_given : batch_number s b m n ≡ 0 → (i : ℕ) → i < lines_of b → get_or given.shares i 0 ≡ share_of s b i
  unfolding shares_of
  share_given z = list_given z (share_of s b)

  -- a line has a number other than 0 in an accepted batch only
  line_accepted : (i x : ℕ) → eqb x 0 ≡ false → get_or given.numbers i 0 ≡ x → batch_number s b m n ≡ 0
  line_accepted i x some h = go (ℕ_discrete (batch_number s b m n) 0)
    where
      go : Dec (batch_number s b m n ≡ 0) → batch_number s b m n ≡ 0
      go (yes z) = z
      go (no r) = absurd (eqb-false x 0 some (sym h ∙ ap (λ (l : List ℕ). get_or l i 0) (leaves_old (batch_number s b m n) (numbers_of s b) [] r)))

  -- so it is that of the definition; and, if it is not 12 either, the number of the question that the line failed
  number_is : (i x : ℕ) → i < lines_of b → eqb x 0 ≡ false → get_or given.numbers i 0 ≡ x → number_of_line s b i ≡ x
  number_is i x l some h = sym (number_given (line_accepted i x some h) i l) ∙ h

  question_is : (i x : ℕ) → i < lines_of b → eqb x 0 ≡ false → eqb x 12 ≡ false → get_or given.numbers i 0 ≡ x → line_number s.register b i ≡ x
  unfolding number_of_line
  question_is i x l some other h = by_question (line_number s.register b i) (share_of s b i) x (number_is i x l some h) some other

  -- ---- what each line gets
  module _ (z : batch_number s b m n ≡ 0) where
    passed_is : (i : ℕ) → i < lines_of b → line_passed (get_or given.numbers i 0) ≡ eqb (line_number s.register b i) 0
    unfolding number_of_line
    passed_is i l =
        ap line_passed (number_given z i l)
        ∙ passed_by (line_number s.register b i) (share_of s b i) (λ h. (line_nothing_free s b i h).0)

    sum_is : S ≡ sum_below (lines_of b) (asked_if_passed b given)
    unfolding sum_asked
    sum_is =
        sum_same (counted_at s.register b) (asked_if_passed b given) (lines_of b)
        (λ i l. ap (λ (t : Bool). cond t (asked_of b i) 0) (sym (passed_is i l)))

    share_is : (i : ℕ) → i < lines_of b → get_or given.shares i 0 ≡ cond (line_passed (get_or given.numbers i 0)) (pro_quota F S (asked_of b i)) 0
    unfolding share_of
    share_is i l = share_given z i l ∙ ap (λ (t : Bool). cond t (pro_quota F S (asked_of b i)) 0) (sym (passed_is i l))

    sum_shares : sum_below (lines_of b) (λ i. get_or given.shares i 0) ≤ F
    sum_shares = rw (sum_same (λ i. get_or given.shares i 0) (share_of s b) (lines_of b) (share_given z)) (share_sum s b)

  -- ---- by the reckoning
  module _ (k : Reckoning) (w : Agree s k) where
    fair_shares : batch_number s b m n ≡ 0 → FairShares k b given F S
    unfolding shares_of numbers_of
    fair_shares z =
        let opened = (answered_passes s b m n z).1.1.0 in
        let d = free_of_year_is s b.point (facts s b m n z).order.year in
        record {
          smallest = λ e h. let t = day_by s k w e ∙ h in omega (arith, free_of_year_le s b.point e t, free_by_lem s k w b.point e opened t);
          reached = (d.0, (sym (day_by s k w d.0) ∙ d.1.0, sym (free_by_lem s k w b.point d.0 opened d.1.0) ∙ d.1.1));
          sum = sum_is z;
          share = share_is z;
          together = sum_shares z;
          served = λ i l h. subst (λ (x : ℕ). 0 < x) (sym (share_given z i l)) (line_answered s b i (sym (number_given z i l) ∙ h)).1;
          long = (list_long z (share_of s b), list_long z (number_of_line s b));
        }

    line_uncovered : (i : ℕ) → line_number s.register b i ≡ 11 → Uncovered k (user_of b i) (line_charge k b i)
    line_uncovered i h =
        uncovered s k w (user_of b i) (charge_asked s.register b i) (line_charge k b i) (line_not_covered s.register b i h) (charge_by s k w (asked_of b i) b.point year_days)

    line_grounds : batch_number s b m n ≡ 0 → (i : ℕ) → i < lines_of b → line_passed (get_or given.numbers i 0) ≡ true → LineGrounds k b i
    line_grounds z i l h =
        let number = eqb-true (line_number s.register b i) 0 (sym (passed_is z i l) ∙ h) in
        let f = line_facts s.register b i number in
        record {
          two = both _ _ (lt-ltb (user_of b i) user_count f.user) (is_between 1 most_amount (asked_of b i) f.asked.from f.asked.to);
          eleven = covered s k w (user_of b i) (charge_asked s.register b i) (line_charge k b i) f.covered (charge_by s k w (asked_of b i) b.point year_days);
          fourteen = f.first_named;
        }

    batch_grounds : batch_number s b m n ≡ 0 → BatchGrounds k b m n given
    batch_grounds z =
        let a = answered_passes s b m n z in
        record {
          two = a.1.0;
          three = open_by s k w b.point true a.1.1.0;
          thirteen = lines_left_lem s k w (lines_of b) (facts s b m n z).left;
          lines = line_grounds z;
        }

    -- 0 in a refused batch, which has no numbers of lines
    line_only : (i : ℕ) → i < lines_of b → one_of (get_or given.numbers i 0) (0 ∷ 12 ∷ 2 ∷ 14 ∷ 5 ∷ 11 ∷ []) ≡ true
    unfolding number_of_line line_number
    line_only i l = go (ℕ_discrete (batch_number s b m n) 0)
      where
        go : Dec (batch_number s b m n ≡ 0) → one_of (get_or given.numbers i 0) (0 ∷ 12 ∷ 2 ∷ 14 ∷ 5 ∷ 11 ∷ []) ≡ true
        go (yes z) =
            ap (λ (x : ℕ). one_of x (0 ∷ 12 ∷ 2 ∷ 14 ∷ 5 ∷ 11 ∷ [])) (number_given z i l)
            ∙ among_lines (line_number s.register b i) (share_of s b i) (2 ∷ 14 ∷ 5 ∷ 11 ∷ []) (among (line_questions s.register b i))
        go (no r) =
            ap (λ (x : List ℕ). one_of (get_or x i 0) (0 ∷ 12 ∷ 2 ∷ 14 ∷ 5 ∷ 11 ∷ [])) (leaves_old (batch_number s b m n) (numbers_of s b) [] r)

    line_reasons : (i : ℕ) → i < lines_of b → LineReasons k b given i (get_or given.numbers i 0)
    line_reasons i l =
        record {
          only = line_only i l;
          two = λ h. line_refused_by s.register b i 0 refl (omega arith) (question_is i 2 l refl refl h);
          five = λ h. unfiled s k w (user_of b i) (line_refused_by s.register b i 2 refl (omega arith) (question_is i 5 l refl refl h)).1.1;
          eleven = λ h. line_uncovered i (question_is i 11 l refl refl h);
          twelve = λ h. share_given (line_accepted i 12 refl h) i l ∙ (line_nothing_free s b i (number_is i 12 l refl h)).1;
          fourteen = λ h. line_repeated s.register b i (question_is i 14 l refl refl h);
        }

    pub batch_treated : Treated s k (confer_batch b m n) given
    unfolding batch_number
    batch_treated =
        record {
          accepted = answered s (confer_batch b m n);
          does = altered s (confer_batch b m n);
          refused = λ r. (sym (refused_after s b m n r), (refl, (leaves_old (batch_number s b m n) (shares_of s b) [] r, leaves_old (batch_number s b m n) (numbers_of s b) [] r)));
          rule = λ h. (F, (S, fair_shares (passes_answered s b m n h)));
          grounds = batch_grounds;
          reasons =
              record {
                only = among (batch_questions s b m n);
                one = λ h. never_disordered s k w (refused_by s b m n 0 refl (omega arith) h);
                three = λ h. open_by s k w b.point false (refused_by s b m n 2 refl (omega arith) h).1.1;
                two = λ h. (refused_by s b m n 1 refl (omega arith) h).1;
                thirteen = λ h. lines_short s k w (lines_of b) (ledger_full s b m n h);
                lines = line_reasons;
              };
        }
