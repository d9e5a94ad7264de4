-- How requests are treated, by the reckoning of the calls before them.
-- Assumes nothing.
use mathlib.Core.Path.{◌≡◌, refl, sym, ap, ◌∙◌, subst}
use mathlib.Core.Bool.{Bool, true, false, true≢false}
use Prim.Native.Nat.{ℕ, ◌≤◌, ◌<◌}
use native.Mathlib.Omega.{arith}
use Rattle.parts.specs.Registers.{State}
use Rattle.amounts.specs.Amounts.{span_days, free_on}
use Rattle.parts.specs.Points.{is_open}
use Rattle.amounts.proofs.CalendarLaws.{day_in_lem}
use Rattle.spans.proofs.SpanLaws.{span_facts}
use Rattle.products.specs.declared.products.Product.{Product}
use Rattle.products.specs.declared.products.Request.{Request}
use Rattle.products.specs.Products.{first_of, last_of, is_offered, is_in_year, is_in_time}
use Rattle.request_decision.specs.RequestQuestions.{span_first, span_last, point_of, charge_asked, request_questions}
use Rattle.requests.specs.RequestCapacity.{request_number, request_amount}
use Rattle.requests.proofs.AnswerLaws.{answered_passes, passes_answered, facts, refused_amount, refused_after}
use Rattle.requests.proofs.RefusalLaws.{refused_by, not_covered, nothing_free, ledger_full}
use Rattle.requests.proofs.ConferredLaws.{granted_some, granted_least, cut_due}
use Rattle.reckoning.specs.Calls.{request_capacity, answer}
use Rattle.reckoning.specs.Reckoning.{Reckoning}
use Rattle.reckoning.specs.Reasons.{InSpan, free_for, Fair, RequestGrounds, NothingFree, request_charge}
use Rattle.reckoning.specs.Demand3.{Treated}
use Rattle.reckoning.proofs.Agreement.{Agree}
use Rattle.reckoning.proofs.CallLaws.{answered, altered}
use Rattle.reckoning.proofs.NumberLaws.{among}
use Rattle.reckoning.proofs.AgreedLaws.{never_disordered, open_by, charge_by, covered, uncovered, unfiled, lines_left_lem, lines_short, free_by_lem}

-- a span by its year
abbrev InSpanOf : Request → ℕ → ℕ → Type 0
InSpanOf q d y = (first_of y q.arrival q.product ≤ d) × (d ≤ last_of y q.arrival q.product)

module _ (s : State) (k : Reckoning) (w : Agree s k) (q : Request) where
  span_from_lem : (d : ℕ) → InSpan k q d → InSpanOf q d s.register.year
  span_from_lem d h = subst (InSpanOf q d) (sym w.year) h

  span_to : (d : ℕ) → InSpanOf q d s.register.year → InSpan k q d
  span_to d h = subst (InSpanOf q d) w.year h

  -- what is free on a day of the span, where questions 3 and 8 are answered yes
  module _ (opened : is_open (point_of s.register q) ≡ true) (fits : is_in_year s.register.year q.arrival q.product ≡ true) where
    free_in : (d : ℕ) → InSpanOf q d s.register.year → free_on s q.point d ≡ free_for k q d
    free_in d h =
        let y = s.register.year in
        let f = span_facts y q.arrival (span_first s.register q) (span_last s.register q) fits in
        free_by_lem s k w q.point d opened
        (day_in_lem y d f.year (omega (arith, f.fit.begins, h.0)) (omega (arith, f.fit.ends, h.1)))

    -- an amount that some day of the span has free
    day_by : (a : ℕ) → (d : ℕ) × ((span_first s.register q ≤ d) × ((d ≤ span_last s.register q) × (free_on s q.point d ≡ a)))
        → (d : ℕ) × (InSpan k q d × (free_for k q d ≡ a))
    day_by a t =
        let h : InSpanOf q t.0 s.register.year = (t.1.0, t.1.1.0) in
        (t.0, (span_to t.0 h, sym (free_in t.0 h) ∙ t.1.1.1))

  -- ---- what is granted
  module _ (z : request_number s q ≡ 0) where
    opened : is_open (point_of s.register q) ≡ true
    opened = (answered_passes s q z).1.1.0

    fits : is_in_year s.register.year q.arrival q.product ≡ true
    fits = (answered_passes s q z).1.1.1.1.1.0

    -- no day of the span has less free
    least : (d : ℕ) → InSpan k q d → request_amount s q ≤ free_for k q d
    least d h =
        let i = span_from_lem d h in
        omega (arith, granted_least s q z d i.0 i.1, free_in opened fits d i)

    -- and where it is cut one day has just that
    least_is : request_amount s q < q.amount → (d : ℕ) × (InSpan k q d × (free_for k q d ≡ request_amount s q))
    least_is h = day_by opened fits (request_amount s q) (cut_due s q z h)

    fair : Fair k q (request_amount s q)
    fair =
        record {
          cut_if = λ d i h. omega (arith, least d i, h);
          cut_only_if = λ h. let t = least_is h in (t.0, (t.1.0, omega (arith, t.1.1, h)));
          smallest = λ h. least;
          reached = least_is;
          whole = λ n. let g = granted_some s q z in omega (arith, g.to, n);
          some = (granted_some s q z).from;
        }

  -- ---- what a refusal means
  charge_asked_lem : charge_asked s.register q ≡ request_charge k q
  charge_asked_lem =
      charge_by s k w q.amount q.point (λ (y : ℕ). span_days (first_of y q.arrival q.product) (last_of y q.arrival q.product))

  -- a test of arrival and product, by the reckoning's year
  year_by : (test : ℕ → ℕ → Product → Bool) {b : Bool} → test s.register.year q.arrival q.product ≡ b → test k.year q.arrival q.product ≡ b
  year_by test h = sym (ap (λ (y : ℕ). test y q.arrival q.product) w.year) ∙ h

  none_free : request_number s q ≡ 12 → NothingFree k q
  none_free h =
      let t = refused_by s q 8 refl (omega arith) h in
      day_by t.1.1.0 t.1.1.1.1.1.0 0 (nothing_free s q h)

  request_grounds : request_number s q ≡ 0 → RequestGrounds k q
  request_grounds z =
      let a = answered_passes s q z in
      record {
        two = a.1.0;
        three = open_by s k w q.point true (opened z);
        eight = year_by is_in_year (fits z);
        nine = year_by is_in_time a.1.1.1.1.1.1.0;
        eleven = covered s k w q.user (charge_asked s.register q) (request_charge k q) (facts s q z).covered charge_asked_lem;
        twelve = λ d h. omega (arith, least z d h, (granted_some s q z).from);
        thirteen = lines_left_lem s k w 1 (omega (arith, (facts s q z).line));
      }

  pub request_treated : Treated s k (request_capacity q) (answer s (request_capacity q))
  unfolding request_number
  request_treated =
      record {
        accepted = answered s (request_capacity q);
        does = altered s (request_capacity q);
        refused = λ n. (sym (refused_after s q n), (sym (refused_amount s q n), (refl, refl)));
        rule = λ h. fair (passes_answered s q h);
        grounds = request_grounds;
        reasons =
            record {
              only = among (request_questions s q);
              one = λ h. never_disordered s k w (refused_by s q 0 refl (omega arith) h);
              two = λ h. (refused_by s q 1 refl (omega arith) h).1;
              three = λ h. open_by s k w q.point false (refused_by s q 2 refl (omega arith) h).1.1;
              five = λ h. unfiled s k w q.user (refused_by s q 3 refl (omega arith) h).1.1.1;
              seven = λ h annual. true≢false (sym (ap (is_offered (point_of s.register q)) annual) ∙ (refused_by s q 4 refl (omega arith) h).1.1.1.1);
              eight = λ h. year_by is_in_year (refused_by s q 5 refl (omega arith) h).1.1.1.1.1;
              nine = λ h. year_by is_in_time (refused_by s q 6 refl (omega arith) h).1.1.1.1.1.1;
              eleven = λ h. uncovered s k w q.user (charge_asked s.register q) (request_charge k q) (not_covered s q h) charge_asked_lem;
              twelve = none_free;
              thirteen = λ h. lines_short s k w 1 (omega (arith, ledger_full s q h));
            };
      }
