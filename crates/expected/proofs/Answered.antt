-- Each call on a register that agrees with a reckoning is answered what the reckoning expects.
-- Assumes nothing.
use mathlib.Core.Path.{◌≡◌, refl, ap, ap₂, ◌∙◌}
use mathlib.Core.Bool.{Bool, true, not, ◌&&◌}
use Prim.Native.Nat.{ℕ, ◌+◌, ◌<◌}
use native.Mathlib.Omega.{arith}
use lib.Dec.{leb, ltb, eqb}
use lib.IntN.{ℤ, pos}
use lib.ListN.{get_or, replicate}
use lib.Signed.{lt_z}
use borrow.Author.Tests.{le-leb, lt-ltb}
use Rattle.calendar.specs.ThermalYears.{is_thermal_year, in_thermal_year, thermal_first}
use Rattle.parts.specs.Limits.{line_count}
use Rattle.parts.specs.Tests.{all_below}
use Rattle.parts.specs.Registers.{State, point_at, account_at}
use Rattle.parts.specs.Answers.{number_of}
use Rattle.parts.specs.Points.{is_open}
use Rattle.parts.proofs.TestLaws.{all_same}
use Rattle.amounts.specs.Ranges.{least_of}
use Rattle.expected.specs.Smallest.{smallest_of}
use Rattle.amounts.specs.Amounts.{span_days, year_days, entry_at, entry_of, free_on}
use Rattle.amounts.proofs.CalendarLaws.{year_facts, day_in_lem}
use Rattle.amounts.proofs.RangeLaws.{replaced_same, sum_same}
use Rattle.expected.proofs.SmallestLaws.{smallest_same, least_smallest}
use Rattle.register.specs.Reports.{report_questions, report_number, report_amount}
use Rattle.order.proofs.OrderFacts.{ordered}
use Rattle.register.proofs.ReportLaws.{report_facts}
use Rattle.spans.specs.Spans.{annual_first, annual_last, span_ok}
use Rattle.spans.proofs.SpanLaws.{FitFacts, span_facts}
use Rattle.opening.specs.OpenPoint.{open_questions, open_number}
use Rattle.placing.specs.PlaceGuarantee.{place_questions, place_number}
use Rattle.turning.specs.TurnYear.{turn_questions, turn_number}
use Rattle.conferral.specs.Bookings.{covers, lines_left}
use Rattle.holdings.specs.Holdings.{holds_on, holds_throughout}
use Rattle.products.specs.declared.products.Product.{Product}
use Rattle.products.specs.declared.products.Product.TheVariants.{Annual, Month, Day}
use Rattle.products.specs.declared.products.Request.{Request}
use Rattle.products.specs.Products.{first_of, last_of, is_offered, is_in_year, is_in_time}
use Rattle.request_decision.specs.RequestQuestions.{span_first, span_last, days_asked, span_place, point_of, charge_asked, is_free, free_throughout, request_questions, amount_granted}
use Rattle.requests.specs.RequestCapacity.{request_number, request_amount}
use Rattle.requests.proofs.AnswerLaws.{answered_passes}
use Rattle.shares.specs.Batches.{Batch, lines_of, user_of, asked_of, line_questions, line_number}
use Rattle.shares.specs.Shares.{free_of_year, counted, counted_at, sum_asked, share_if, share_of, number_if, number_of_line, list_of}
use Rattle.shares.specs.ShareLines.{shares_of, numbers_of}
use Rattle.batches.specs.ConferBatch.{batch_questions, batch_number}
use Rattle.batches.proofs.AnswerLaws.{answered_passes as batch-passes}
use Rattle.cession_decision.specs.declared.deciding.Cession.{Cession}
use Rattle.cession_decision.specs.CessionQuestions.{given_of, is_held, charge_of, cession_questions}
use Rattle.cessions.specs.CedeCapacity.{cession_number, cession_amount}
use Rattle.cession_decision.proofs.CessionLaws.{fields}
use Rattle.cessions.proofs.MovedLaws.{holds}
use Rattle.expected.specs.Calls.{Call, open_point, place_guarantee, request_capacity, confer_batch, cede_capacity, turn_year, told, answer}
use Rattle.expected.specs.Reckoning.{Reckoning, free_by, charges, ceded_by, received_on, ceded_on, ceded_charge}
use Rattle.expected.specs.Expected.{open_questions_by, place_questions_by, turn_questions_by, covers_by, lines_left_by, is_offered_by, charge_asked_by, free_throughout_by, request_questions_by, amount_granted_by, batch_questions_by, line_questions_by, line_number_by, free_of_year_by, sum_asked_by, share_of_by, number_of_line_by, holds_on_by, is_held_by, cession_questions_by, expected, report_questions_by, report_number_by, report_amount_by}
use Rattle.expected.proofs.Agreement.{Agree, charge_by, charge_ceded, free_by_lem}
use Rattle.expected.proofs.AlikeLaws.{Alike, no_more, next, sure, same_left, same_told, same_batch, same_leb, not_less}
use Rattle.reckoning.proofs.Backing.{holding, Backed, charge_backed}
use Rattle.expected.proofs.Invariant.{HeldBy}

module _ (s : State) (k : Reckoning) (w : Agree s k) where
  abbrev y : ℕ
  y = s.register.year

  -- ---- tests
  -- question 7
  offered_by : (p : ℕ) (product : Product) → is_offered (point_at s.register.points p) product ≡ is_offered_by k p product
  offered_by p Annual = refl
  offered_by p (Month m) = ap (λ (n : ℕ). not (eqb n 1)) (w.kind p)
  offered_by p (Day d) = ap (λ (n : ℕ). not (eqb n 1)) (w.kind p)

  -- question 11
  covers_by_lem : (u c d : ℕ) → c ≡ d → covers (account_at s.register.accounts u) c ≡ covers_by k u d
  covers_by_lem u c d e =
      same_leb ((account_at s.register.accounts u).commitment + c) (account_at s.register.accounts u).guarantee (charges k u + d) (k.guarantee u + ceded_by k u)
      (λ h. omega (arith, h, e, w.guarantee u, w.balance u)) (λ h. omega (arith, h, e, w.guarantee u, w.balance u))

  -- question 13
  lines_by : (n : ℕ) → lines_left s.register n ≡ lines_left_by k n
  lines_by n = ap (λ (m : ℕ). leb (m + n) line_count) w.lines

  -- the free amounts of a span of the year at an open point
  free_run : (p first last : ℕ) → is_open (point_at s.register.points p) ≡ true → is_thermal_year y ≡ true → FitFacts y first last
      → (i : ℕ) → i < span_days first last → get_or s.free (entry_of y p first + i) 0 ≡ free_by k p (first + i)
  free_run p first last opened year fit i l =
      let place : entry_of y p first + i ≡ entry_of y p (first + i) = omega (arith, fit.begins) in
      ap (λ (j : ℕ). get_or s.free j 0) place
      ∙ free_by_lem s k w p (first + i) opened (day_in_lem y (first + i) year (omega (arith, fit.begins)) (omega (arith, fit.ends, l)))

  -- ---- open point, place guarantee, turn the year
  open_alike : (p kind total rate : ℕ) → Alike (open_questions s p kind total rate) (open_questions_by k p kind total rate)
  open_alike p kind total rate = sure w.sound.order (next refl (λ f. next (ap not (w.opened p)) (λ o. no_more)))

  open_answered : (p kind total rate : ℕ) → answer s (open_point p kind total rate) ≡ expected k (open_point p kind total rate)
  unfolding open_number
  open_answered p kind total rate = ap (λ (n : ℕ). told n 0) (open_alike p kind total rate).same

  place_alike : (u g : ℕ) → Alike (place_questions s u g) (place_questions_by k u g)
  place_alike u g =
      sure w.sound.order
      (next refl (λ f. next
      (same_leb (account_at s.register.accounts u).commitment g (charges k u) (g + ceded_by k u) (λ h. omega (arith, h, w.balance u)) (λ h. omega (arith, h, w.balance u)))
      (λ c. no_more)))

  place_answered : (u g : ℕ) → answer s (place_guarantee u g) ≡ expected k (place_guarantee u g)
  unfolding place_number
  place_answered u g = ap (λ (n : ℕ). told n 0) (place_alike u g).same

  turn_alike : (x : ℕ) → Alike (turn_questions s x) (turn_questions_by k x)
  turn_alike x = sure w.sound.order (next refl (λ f. next (ap (λ (n : ℕ). ltb n x) w.year) (λ l. no_more)))

  turn_answered : (x : ℕ) → answer s (turn_year x) ≡ expected k (turn_year x)
  unfolding turn_number
  turn_answered x = ap (λ (n : ℕ). told n 0) (turn_alike x).same

  -- ---- request
  module _ (q : Request) where
    charge_same : charge_asked s.register q ≡ charge_asked_by k q
    charge_same =
        charge_by s k w q.amount q.point (λ (x : ℕ). span_days (first_of x q.arrival q.product) (last_of x q.arrival q.product))

    module _ (opened : is_open (point_of s.register q) ≡ true) (fits : is_in_year y q.arrival q.product ≡ true) where
      run : (i : ℕ) → i < days_asked s.register q → get_or s.free (span_place s.register q + i) 0 ≡ free_by k q.point (span_first s.register q + i)
      run =
          let f = span_facts y q.arrival (span_first s.register q) (span_last s.register q) fits in
          free_run q.point (span_first s.register q) (span_last s.register q) opened f.year f.fit

      -- question 12
      free_same : free_throughout s.register s.free q ≡ free_throughout_by k q
      free_same =
          all_same (is_free s.free (span_place s.register q)) (λ i. ltb 0 (free_by k q.point (span_first s.register q + i))) (days_asked s.register q) (λ i l. ap (ltb 0) (run i l))
          ∙ ap (λ (x : ℕ). all_below (span_days (first_of x q.arrival q.product) (last_of x q.arrival q.product)) (λ i. ltb 0 (free_by k q.point (first_of x q.arrival q.product + i)))) w.year

      granted_same : amount_granted s.register s.free q ≡ amount_granted_by k q
      unfolding amount_granted
      granted_same =
          least_smallest s.free (span_place s.register q) q.amount (days_asked s.register q)
          ∙ smallest_same q.amount (λ i. get_or s.free (span_place s.register q + i) 0) (λ i. free_by k q.point (span_first s.register q + i)) (days_asked s.register q) run
          ∙ ap (λ (x : ℕ). smallest_of q.amount (λ i. free_by k q.point (first_of x q.arrival q.product + i)) (span_days (first_of x q.arrival q.product) (last_of x q.arrival q.product))) w.year

    request_alike : Alike (request_questions s q) (request_questions_by k q)
    request_alike =
        sure w.sound.order
        (next refl (λ two. next (w.opened q.point) (λ three. next (w.filed q.user) (λ five.
        next (offered_by q.point q.product) (λ seven.
        next (ap (λ (x : ℕ). is_in_year x q.arrival q.product) w.year) (λ eight.
        next (ap (λ (x : ℕ). is_in_time x q.arrival q.product) w.year) (λ nine.
        next (covers_by_lem q.user (charge_asked s.register q) (charge_asked_by k q) charge_same) (λ eleven.
        next (free_same three eight) (λ twelve. next (lines_by 1) (λ thirteen. no_more))))))))))

    request_answered : answer s (request_capacity q) ≡ expected k (request_capacity q)
    unfolding request_number request_amount
    request_answered =
        same_told (request_number s q) (number_of (request_questions_by k q)) (amount_granted s.register s.free q) (amount_granted_by k q) request_alike.same
        (λ z. let a = answered_passes s q z in granted_same a.1.1.0 a.1.1.1.1.1.0)

  -- ---- batch
  -- F
  module _ (p : ℕ) (opened : is_open (point_at s.register.points p) ≡ true) where
    year_run : (i : ℕ) → i < year_days y → get_or s.free (entry_at p 0 + i) 0 ≡ free_by k p (thermal_first y + i)
    year_run i l =
        let year = (ordered s w.sound.order).year in
        let place : entry_at p 0 + i ≡ entry_of y p (thermal_first y + i) = omega arith in
        ap (λ (j : ℕ). get_or s.free j 0) place
        ∙ free_by_lem s k w p (thermal_first y + i) opened (day_in_lem y (thermal_first y + i) year (omega arith) (omega (arith, l)))

    pub free_year : free_of_year s p ≡ free_of_year_by k p
    unfolding free_of_year
    free_year =
        let first : entry_at p 0 ≡ entry_at p 0 + 0 = omega arith in
        let some = (year_facts y (ordered s w.sound.order).year).least in
        ap (λ (m : ℕ). least_of s.free (entry_at p 0) (year_days y) m) (ap (λ (j : ℕ). get_or s.free j 0) first ∙ year_run 0 (omega (arith, some)))
        ∙ least_smallest s.free (entry_at p 0) (free_by k p (thermal_first y + 0)) (year_days y)
        ∙ smallest_same (free_by k p (thermal_first y + 0)) (λ i. get_or s.free (entry_at p 0 + i) 0) (λ i. free_by k p (thermal_first y + i)) (year_days y) year_run
        ∙ ap (λ (x : ℕ). smallest_of (free_by k p (thermal_first x + 0)) (λ i. free_by k p (thermal_first x + i)) (year_days x)) w.year

  module _ (b : Batch) where
    line_alike : (i : ℕ) → Alike (line_questions s.register b i) (line_questions_by k b i)
    line_alike i =
        next refl (λ two. next refl (λ fourteen. next (w.filed (user_of b i)) (λ five.
        next (covers_by_lem (user_of b i) _ _ (charge_by s k w (asked_of b i) b.point year_days)) (λ eleven. no_more))))

    line_same : (i : ℕ) → line_number s.register b i ≡ line_number_by k b i
    unfolding line_number
    line_same i = (line_alike i).same

    sum_asked_lem : sum_asked s.register b ≡ sum_asked_by k b
    unfolding sum_asked
    sum_asked_lem =
        sum_same (counted_at s.register b) (λ i. counted (line_number_by k b i) (asked_of b i)) (lines_of b) (λ i l. ap (λ (n : ℕ). counted n (asked_of b i)) (line_same i))

    list_same : (f g : ℕ → ℕ) → ((i : ℕ) → f i ≡ g i) → list_of (lines_of b) f ≡ list_of (lines_of b) g
    unfolding list_of
    list_same f g e = replaced_same (replicate (lines_of b) 0) 0 (lines_of b) f g (λ i l. e i)

    module _ (opened : is_open (point_at s.register.points b.point) ≡ true) where
      share_same : (i : ℕ) → share_of s b i ≡ share_of_by k b i
      unfolding share_of
      share_same i =
          ap₂ (λ (F S : ℕ). share_if F S (line_number s.register b i) (asked_of b i)) (free_year b.point opened) sum_asked_lem
          ∙ ap (λ (n : ℕ). share_if (free_of_year_by k b.point) (sum_asked_by k b) n (asked_of b i)) (line_same i)

      number_same : (i : ℕ) → number_of_line s b i ≡ number_of_line_by k b i
      unfolding number_of_line
      number_same i = ap₂ number_if (line_same i) (share_same i)

    module _ (m n : ℕ) where
      batch_alike : Alike (batch_questions s b m n) (batch_questions_by k b m n)
      batch_alike =
          sure w.sound.order
          (next refl (λ two. next (w.opened b.point) (λ three. next (lines_by (lines_of b)) (λ thirteen. no_more))))

      batch_answered : answer s (confer_batch b m n) ≡ expected k (confer_batch b m n)
      unfolding batch_number shares_of numbers_of
      batch_answered =
          same_batch (batch_number s b m n) (number_of (batch_questions_by k b m n)) (shares_of s b) (list_of (lines_of b) (share_of_by k b)) (numbers_of s b) (list_of (lines_of b) (number_of_line_by k b)) batch_alike.same
          (λ z. list_same (share_of s b) (share_of_by k b) (share_same (opened z)))
          (λ z. list_same (number_of_line s b) (number_of_line_by k b) (number_same (opened z)))
        where
          opened : batch_number s b m n ≡ 0 → is_open (point_at s.register.points b.point) ≡ true
          opened z = (batch-passes s b m n z).1.1.0

  -- ---- cession
  module _ (backed : Backed s) (h : HeldBy s k) where
    -- what is held on a day
    pub holds_same : (u p amount d : ℕ) → not (lt_z (holds s u p d) (pos amount)) ≡ holds_on_by k u p amount d
    holds_same u p amount d =
        ap (λ (z : ℤ). not (lt_z z (pos amount))) (backed.held u p d)
        ∙ not_less (holding s u p d) amount
        ∙ same_leb amount (holding s u p d) (amount + ceded_on k u p d) (received_on k u p d)
        (λ e. omega (arith, e, h u p d)) (λ e. omega (arith, e, h u p d))

  module _ (backed : Backed s) (h : HeldBy s k) (c : Cession) where
    abbrev gives : ℕ → Bool
    gives i = holds_on_by k c.giver c.point c.amount (annual_first c.arrival + i)

    -- question 10
    held_same : is_held s.register s.ledger c ≡ is_held_by k c
    unfolding holds_throughout
    held_same =
        all_same (holds_on y s.register.lines s.ledger (given_of s.register c)) gives (span_days (annual_first c.arrival) (annual_last y))
        (λ i l. holds_same backed h c.giver c.point c.amount (annual_first c.arrival + i))
        ∙ ap (λ (x : ℕ). all_below (span_days (annual_first c.arrival) (annual_last x)) gives) w.year

    cession_alike : Alike (cession_questions s c) (cession_questions_by k c)
    cession_alike =
        sure w.sound.order
        (next refl (λ two. next (w.opened c.point) (λ three. next (ap₂ ◌&&◌ (w.filed c.giver) (w.filed c.receiver)) (λ five.
        next (ap (λ (x : ℕ). span_ok x c.arrival (annual_first c.arrival) (annual_last x)) w.year) (λ eight.
        next refl (λ nine. next held_same (λ ten.
        sure (le-leb _ _ (charge_backed s c backed (fields c two).point eight ten))
        (next (covers_by_lem c.receiver (charge_of s.register c) (ceded_charge k c) (charge_ceded s k w c)) (λ eleven. next (lines_by 2) (λ thirteen. no_more))))))))))

    cession_answered : answer s (cede_capacity c) ≡ expected k (cede_capacity c)
    unfolding cession_number cession_amount
    cession_answered =
        same_told (cession_number s c) (number_of (cession_questions_by k c)) c.amount c.amount cession_alike.same (λ z. refl)

  -- ---- the report
  report_alike : (p d : ℕ) → Alike (report_questions s p d) (report_questions_by k p d)
  report_alike p d =
      sure w.sound.order (next refl (λ two. next (w.opened p) (λ three. next (ap (λ (x : ℕ). in_thermal_year x d) w.year) (λ eight. no_more))))

  pub report_number_lem : (p d : ℕ) → report_number s p d ≡ report_number_by k p d
  unfolding report_number
  report_number_lem p d = (report_alike p d).same

  pub report_amount_lem : (p d : ℕ) → report_amount s p d ≡ report_amount_by k p d
  unfolding report_amount
  report_amount_lem p d =
      same_left (report_number s p d) (report_number_by k p d) (free_on s p d) (free_by k p d) 0 (report_number_lem p d)
      (λ z. let f = report_facts s p d z in free_by_lem s k w p d (lt-ltb _ _ f.open_point_lem) f.day)

-- ---- any call
pub as_expected : (s : State) (k : Reckoning) (c : Call) → Agree s k → Backed s → HeldBy s k → answer s c ≡ expected k c
as_expected s k (open_point p kind total rate) w b h = open_answered s k w p kind total rate
as_expected s k (place_guarantee u g) w b h = place_answered s k w u g
as_expected s k (request_capacity q) w b h = request_answered s k w q
as_expected s k (confer_batch e m n) w b h = batch_answered s k w e m n
as_expected s k (cede_capacity c) w b h = cession_answered s k w b h c
as_expected s k (turn_year y) w b h = turn_answered s k w y
