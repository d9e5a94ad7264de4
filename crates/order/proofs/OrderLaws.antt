-- Laws of question 1 for the loops that compute it.
-- Assumes nothing.
use mathlib.Core.Path.{◌≡◌, refl, sym, ap, ap₂, ◌∙◌, subst}
use mathlib.Core.Bool.{Bool, true, false, not, ◌&&◌, ◌||◌, false≢true, and_comm, or-true, or-false}
use mathlib.Core.List.{List, [], ◌∷◌}
use Prim.Native.Nat.{ℕ, ◌+◌, ◌*◌, ◌-◌, ◌/◌, ◌≤◌, ◌<◌}
use native.Mathlib.Decide.{ℕ_discrete}
use native.Mathlib.Omega.{arith}
use lib.Dec.{leb, ltb, eqb}
use lib.ListN.{get_or, set, length, take, drop, replicate, get_or-replicate, length-drop}
use Rattle.std.proofs.lemmas.List.{length-take, get_or-take, get_or-drop}
use lib.Seq.{get_or-set_same, get_or-set_other}
use borrow.Author.Tests.{ltb-true, leb-true, eqb-true, eq-eqb, ne_eqb}
use Rattle.days.specs.Days.{between}
use Rattle.calendar.specs.ThermalYears.{is_thermal_year, YearSpan, is_thermal_month, thermal_first, thermal_last, thermal_month_first, calendar_year, calendar_month}
use Rattle.std.specs.Prelude.{Some, None}
use Rattle.calendar.specs.declared.thermal_years.Span.{Span}
use Rattle.calendar.specs.Answers.{year_answer}
use Rattle.calendar.proofs.SpanLaws.{year_span, no_year}
use Rattle.days.proofs.Ranges.{and_left, and_right, Within, within, is_between, ThermalMonth}
use Rattle.std.proofs.lemmas.Bool.{and_from as both}
use Rattle.days.proofs.DateLaws.{month_least}
use Rattle.calendar.proofs.ThermalYearLaws.{month_days, thermal_month_from, thermal_month_to}
use Rattle.parts.specs.declared.points.Point.{Point}
use Rattle.parts.specs.declared.accounts.Account.{Account}
use Rattle.ledger.specs.declared.ledger.Line.{Line}
use Rattle.parts.specs.declared.registers.Register.{Register}
use Rattle.parts.specs.Limits.{point_count, user_count, line_length, line_count, row_length, table_length, ledger_length}
use Rattle.parts.specs.Tests.{all_below, some_below, every}
use Rattle.parts.specs.Registers.{State, point_at, account_at}
use Rattle.ledger.specs.Ledger.{no_line, line_at}
use Rattle.amounts.specs.Amounts.{span_days, year_days, entry_at, capacity}
use Rattle.parts.specs.Points.{is_open}
use Rattle.parts.specs.Accounts.{is_on_file}
use Rattle.order.specs.Order.{amount_ok, amount_fits, row_ok, opens_month, is_month_first, names_ok, line_tests, line_ok, line_test, lines_ok, lengths_ok, points_ok, accounts_ok, table_ok, order_tests, in_order}
use Rattle.order.specs.Steps.{at_most, Marked, field_tests, named_tests}
use Rattle.ledger.proofs.LedgerLaws.{line_out}
use Rattle.parts.proofs.TestLaws.{and_false, every_at, every_false, all_more, all_same, all_fails, some_none, some_more}
use Rattle.amounts.proofs.CalendarLaws.{YearFacts, year_facts, thermal_year}
use Rattle.amounts.proofs.AmountLaws.{capacity_in}

-- ---- the free amounts

-- a row: its first 365 amounts, lent by themselves, against the total, and the 366th
pub row_is : (days : ℕ) (f : List ℕ) (i : ℕ) (p : Point) → 365 ≤ days → row_length * i + row_length ≤ length f
    → (all_below (length (take (row_length * i + 365 - row_length * i) (drop (row_length * i) f))) (at_most (take (row_length * i + 365 - row_length * i) (drop (row_length * i) f)) p.total)
    && leb (get_or f (row_length * i + 365) 0) (capacity days p 365)) ≡ row_ok days f i p
row_is days f i p h b =
    ap (λ (x : Bool). x && amount_fits days f i p 365)
    (ap (λ (n : ℕ). all_below n (at_most row p.total)) size
    ∙ all_same (at_most row p.total) (amount_fits days f i p) 365
    (λ k l. ap₂ leb (entry k l) (sym (capacity_in days p k (omega arith)))))
    ∙ sym (all_more (amount_fits days f i p) 365)
  where
    row : List ℕ
    row = take (row_length * i + 365 - row_length * i) (drop (row_length * i) f)

    size : length row ≡ 365
    size = omega (arith, length-take {A = ℕ}, length-drop {A = ℕ})

    entry : (k : ℕ) → k < 365 → get_or row k 0 ≡ get_or f (entry_at i k) 0
    entry k l = get_or-take (row_length * i + 365 - row_length * i) (drop (row_length * i) f) k 0 (omega arith) ∙ get_or-drop (row_length * i) f k 0

-- ---- the months' firsts

-- a month's first lies in its year
module _ (y n : ℕ) (h : is_thermal_year y ≡ true) (b : n < 12) where
  a_month : ThermalMonth y (n + 1)
  a_month = record { year = thermal_year y h; month = record { from = omega arith; to = omega arith } }

  pub is_thermal_month_lem : is_thermal_month y (n + 1) ≡ true
  is_thermal_month_lem = both (is_thermal_year y) (between 1 12 (n + 1)) h (is_between 1 12 (n + 1) (omega arith) (omega arith))

  pub first_from : thermal_first y ≤ thermal_month_first y (n + 1)
  unfolding a_month
  first_from = thermal_month_from y (n + 1) a_month

  pub first_to : thermal_month_first y (n + 1) ≤ thermal_last y
  unfolding a_month
  first_to =
      omega (arith, thermal_month_to y (n + 1) a_month, month_days y (n + 1), month_least (calendar_year y (n + 1)) (calendar_month (n + 1)))

-- no month marked yet
pub marked_none : (y : ℕ) → is_thermal_year y ≡ true → Marked y 0 (replicate row_length false)
marked_none y h d lo hi =
    get_or-replicate row_length (d - thermal_first y) false false (omega (arith, lo, hi, (year_facts y h).most))
    ∙ sym (some_none (opens_month y d))

-- one more
pub marked_more : (y n first last opens : ℕ) (marks : List Bool) → YearSpan y first last → n < 12 → length marks ≡ row_length
    → opens ≡ thermal_month_first y (n + 1) → Marked y n marks → Marked y (n + 1) (set marks (opens - first) true)
marked_more y n first last opens marks s b size q m d lo hi = go (ℕ_discrete d opens)
  where
    t : ℕ → Bool
    t = opens_month y d

    F : YearFacts y
    F = year_facts y s.year

    from : thermal_first y ≤ opens
    from = omega (arith, q, first_from y n s.year b)

    to : opens ≤ thermal_last y
    to = omega (arith, q, first_to y n s.year b)

    place : opens - first ≡ opens - thermal_first y
    place = ap (λ (k : ℕ). opens - k) s.begins

    go : Dec (d ≡ opens) → get_or (set marks (opens - first) true) (d - thermal_first y) false ≡ some_below (n + 1) t
    go (yes e) =
        ap (λ (k : ℕ). get_or (set marks (opens - first) true) k false) (ap (λ (k : ℕ). k - thermal_first y) e ∙ sym place)
        ∙ get_or-set_same marks (opens - first) true false (omega (arith, size, place, from, to, F.most))
        ∙ sym (some_more t n ∙ ap (λ (x : Bool). some_below n t || x) (eq-eqb d (thermal_month_first y (n + 1)) (e ∙ q)) ∙ or-true (some_below n t))
    go (no ne) =
        get_or-set_other marks (opens - first) (d - thermal_first y) true false (λ e. ne (omega (arith, e, place, lo, from)))
        ∙ m d lo hi
        ∙ sym (some_more t n ∙ ap (λ (x : Bool). some_below n t || x) (ne_eqb d (thermal_month_first y (n + 1)) (λ e. ne (e ∙ sym q))) ∙ or-false (some_below n t))

-- where the first of a month stands among the marks
pub mark_place : (y n first last opens : ℕ) → YearSpan y first last → n < 12 → opens ≡ thermal_month_first y (n + 1)
    → (first ≤ opens) × (opens - first < row_length)
mark_place y n first last opens s b q =
    let F = year_facts y s.year in
    (omega (arith, s.begins, q, first_from y n s.year b), omega (arith, s.begins, q, first_from y n s.year b, first_to y n s.year b, F.most))

-- ---- the lines

-- the tests of a line in two parts
regroup : (n a p k d m z : Bool)
    → ((n && every (k ∷ d ∷ z ∷ [])) && every (a ∷ p ∷ m ∷ [])) ≡ (n && every (a ∷ p ∷ k ∷ d ∷ m ∷ z ∷ []))
regroup false a p k d m z = refl
regroup true false p k d m z = and_false (every (k ∷ d ∷ z ∷ [])) false refl
regroup true true false k d m z = and_false (every (k ∷ d ∷ z ∷ [])) false refl
regroup true true true false d m z = refl
regroup true true true true false m z = refl
regroup true true true true true m z = and_comm z m

-- the user and the point that a line names are there
pub names_user : (l : Line) → names_ok l ≡ true → l.user < user_count
names_user l h = ltb-true _ _ (and_left (ltb l.user user_count) (ltb l.point point_count) h)

pub names_point : (l : Line) → names_ok l ≡ true → l.point < point_count
names_point l h = ltb-true _ _ (and_right (ltb l.user user_count) (ltb l.point point_count) h)

-- what the first part tells of a line
pub record InYear (first last : ℕ) (l : Line) : Type 0 where
  pub user : l.user < user_count
  pub point : l.point < point_count
  pub day : Within first last l.first

pub in_year : (first last : ℕ) (l : Line) (t : Bool) → t ≡ (names_ok l && every (field_tests first last l)) → t ≡ true → InYear first last l
in_year first last l t e h =
    let tests = field_tests first last l in
    let all = sym e ∙ h in
    let names = and_left (names_ok l) (every tests) all in
    record {
      user = names_user l names;
      point = names_point l names;
      day = within first last l.first (every_at tests 1 (and_right (names_ok l) (every tests) all));
    }

-- its mark is there
pub mark_of : (y first last : ℕ) (l : Line) → YearSpan y first last → InYear first last l → l.first - first < row_length
mark_of y first last l s w =
    omega (arith, w.day.from, w.day.to, s.begins, s.ends, (year_facts y s.year).most)

-- a turn of the loop: its tests are the definition's
module _ (r : Register) (ls : List ℕ) (i : ℕ) (l : Line) (first last : ℕ) (s : YearSpan r.year first last) (hl : l ≡ line_at ls i) where
  abbrev user : Account
  user = account_at r.accounts l.user

  abbrev named : Point
  named = point_at r.points l.point

  -- the definition's test, over the year as the code has it
  whole : (names_ok l && every (line_tests user named first last (is_month_first r.year l.first) l)) ≡ line_test r ls i
  unfolding line_ok
  whole =
      ap₂ (λ (x z : ℕ). names_ok l && every (line_tests user named x z (is_month_first r.year l.first) l)) s.begins s.ends
      ∙ ap (line_ok r.year r.points r.accounts) hl

  parts : (opens : Bool) → ((names_ok l && every (field_tests first last l)) && every (named_tests user named opens l))
      ≡ (names_ok l && every (line_tests user named first last opens l))
  parts opens =
      regroup (names_ok l) (is_on_file user) (is_open named) (between 1 3 l.kind) (between first last l.first) (not (eqb l.kind 2) || opens) (amount_ok l.amount)

  -- refused by its fields
  pub line_fields_lem : (t : Bool) → t ≡ (names_ok l && every (field_tests first last l)) → t ≡ false → line_test r ls i ≡ false
  line_fields_lem t e f =
      sym whole
      ∙ sym (parts (is_month_first r.year l.first))
      ∙ ap (λ (b : Bool). b && every (named_tests user named (is_month_first r.year l.first) l)) (sym e ∙ f)

  -- or settled by what it names
  pub line_named : (marks : List Bool) → Marked r.year 12 marks → (t v : Bool) → t ≡ (names_ok l && every (field_tests first last l)) → t ≡ true
      → v ≡ every (named_tests user named (get_or marks (l.first - first) false) l) → v ≡ line_test r ls i
  unfolding is_month_first
  line_named marks m t v e f g =
      let w = in_year first last l t e f in
      let mark : get_or marks (l.first - first) false ≡ is_month_first r.year l.first =
      ap (λ (k : ℕ). get_or marks (l.first - k) false) s.begins ∙ m l.first (omega (arith, w.day.from, s.begins)) (omega (arith, w.day.to, s.ends)) in
      g
      ∙ ap (λ (b : Bool). every (named_tests user named b l)) mark
      ∙ ap (λ (b : Bool). b && every (named_tests user named (is_month_first r.year l.first) l)) (sym (sym e ∙ f))
      ∙ parts (is_month_first r.year l.first)
      ∙ whole

pub lines_fail : (r : Register) (ls : List ℕ) (i : ℕ) → i < r.lines → line_test r ls i ≡ false → false ≡ lines_ok r ls
unfolding lines_ok
lines_fail r ls i l h = sym (all_fails (line_test r ls) r.lines i l h)

-- a ledger that lacks a used line: such a line is read as zeros, and 0 is no kind
pub lines_short : (r : Register) (ls : List ℕ) → length ls / line_length < r.lines → false ≡ lines_ok r ls
unfolding line_ok
lines_short r ls h =
    lines_fail r ls end h
    (ap (line_ok r.year r.points r.accounts) (line_out ls end (omega arith))
    ∙ every_false (line_tests (account_at r.accounts 0) (point_at r.points 0) (thermal_first r.year) (thermal_last r.year) (is_month_first r.year 0) no_line) 2 refl)
  where
    end : ℕ
    end = length ls / line_length

-- ---- the whole question

pub lengths_table : (n : ℕ) (f ls : List ℕ) → lengths_ok n f ls ≡ true → length f ≡ table_length
lengths_table n f ls h =
    let a = eqb (length f) table_length in
    let b = eqb (length ls) ledger_length in
    eqb-true _ _ (and_left a b (and_left (a && b) (leb n line_count) h))

pub lengths_ledger : (n : ℕ) (f ls : List ℕ) → lengths_ok n f ls ≡ true → length ls ≡ ledger_length
lengths_ledger n f ls h =
    let a = eqb (length f) table_length in
    let b = eqb (length ls) ledger_length in
    eqb-true _ _ (and_right a b (and_left (a && b) (leb n line_count) h))

pub lengths_lines : (n : ℕ) (f ls : List ℕ) → lengths_ok n f ls ≡ true → n ≤ line_count
lengths_lines n f ls h = leb-true _ _ (and_right (eqb (length f) table_length && eqb (length ls) ledger_length) (leb n line_count) h)

module _ (s : State) where
  pub no_lengths : lengths_ok s.register.lines s.free s.ledger ≡ false → false ≡ in_order s
  unfolding in_order
  no_lengths h = sym (every_false (order_tests s) 0 h)

  pub no_year_order : is_thermal_year s.register.year ≡ false → false ≡ in_order s
  unfolding in_order
  no_year_order h = sym (every_false (order_tests s) 1 h)

  pub no_span_order : year_answer s.register.year ≡ None → false ≡ in_order s
  no_span_order h = no_year_order (no_year s.register.year h)

  pub no_points : (points_ok s.register.points && accounts_ok s.register.accounts) ≡ false → false ≡ in_order s
  unfolding in_order
  no_points h = go (points_ok s.register.points) refl
    where
      go : (b : Bool) → points_ok s.register.points ≡ b → false ≡ every (order_tests s)
      go false e = sym (every_false (order_tests s) 2 e)
      go true e = sym (every_false (order_tests s) 3 (subst (λ (b : Bool). (b && accounts_ok s.register.accounts) ≡ false) e h))

-- what the code answers early
pub ruleset order_exits = (no_lengths, no_span_order, no_points)

-- where the year has its span: the days of the code are the year's
pub days_is : (y : ℕ) (d : Span) → year_answer y ≡ Some d → span_days d.first d.last ≡ year_days y
days_is y d h = let s = year_span y d h in ap₂ span_days s.begins s.ends

pub days_least : (y : ℕ) (d : Span) → year_answer y ≡ Some d → 365 ≤ d.last + 1 - d.first
days_least y d h = omega (arith, days_is y d h, (year_facts y (year_span y d h).year).least)

module _ (s : State) (d : Span) (h : year_answer s.register.year ≡ Some d) where
  pub no_table : table_ok (span_days d.first d.last) s.free s.register.points ≡ false → false ≡ in_order s
  unfolding in_order
  no_table f =
      sym (every_false (order_tests s) 4 (ap (λ (n : ℕ). table_ok n s.free s.register.points) (sym (days_is s.register.year d h)) ∙ f))

  pub by_lines : lengths_ok s.register.lines s.free s.ledger ≡ true
      → (points_ok s.register.points && accounts_ok s.register.accounts) ≡ true
      → table_ok (span_days d.first d.last) s.free s.register.points ≡ true
      → lines_ok s.register s.ledger ≡ in_order s
  unfolding in_order
  by_lines a c t =
      go (lengths_ok s.register.lines s.free s.ledger) (is_thermal_year s.register.year) (points_ok s.register.points)
      (accounts_ok s.register.accounts) (table_ok (year_days s.register.year) s.free s.register.points) (lines_ok s.register s.ledger) a
      (year_span s.register.year d h).year c (ap (λ (n : ℕ). table_ok n s.free s.register.points) (sym (days_is s.register.year d h)) ∙ t)
    where
      go : (v w x z t l : Bool) → v ≡ true → w ≡ true → (x && z) ≡ true → t ≡ true → l ≡ (((((v && w) && x) && z) && t) && l)
      go true true true true true l p q r o = refl
      go true true true true false l p q r o = absurd (false≢true o)
      go true true true false t l p q r o = absurd (false≢true r)
      go true true false z t l p q r o = absurd (false≢true r)
      go true false x z t l p q r o = absurd (false≢true q)
      go false w x z t l p q r o = absurd (false≢true p)
