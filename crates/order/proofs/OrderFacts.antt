-- What a register in order tells, as facts; and the way back. Callers cite these and not the tests.
-- Assumes nothing.
use mathlib.Core.Path.{◌≡◌}
use mathlib.Core.Bool.{true, not, ◌||◌}
use mathlib.Core.Logic.{⊎_elim, ◌⊎◌, inl, inr}
use mathlib.Core.List.{List}
use Prim.Native.Nat.{ℕ, ◌≤◌, ◌<◌}
use native.Mathlib.Omega.{arith}
use lib.Dec.{eqb}
use lib.ListN.{get_or, length}
use borrow.Author.Tests.{ltb-true, leb-true, eqb-true, lt-ltb, le-leb, eq-eqb}
use Rattle.calendar.specs.ThermalYears.{is_thermal_year, thermal_first, thermal_last}
use Rattle.days.proofs.Ranges.{and_left, and_right, Within, within, is_between}
use Rattle.std.proofs.lemmas.Bool.{and_from as both}
use Rattle.parts.specs.declared.points.Point.{Point}
use Rattle.parts.specs.declared.accounts.Account.{Account}
use Rattle.ledger.specs.declared.ledger.Line.{Line}
use Rattle.parts.specs.Limits.{point_count, user_count, line_count, row_length, table_length, ledger_length, most_amount, most_rate, most_guarantee}
use Rattle.parts.specs.Tests.{every}
use Rattle.parts.specs.Registers.{State, point_at, account_at}
use Rattle.ledger.specs.Ledger.{line_at}
use Rattle.amounts.specs.Amounts.{year_days, entry_at, capacity}
use Rattle.parts.specs.Points.{closed_tests, open_tests, point_ok}
use Rattle.parts.specs.Accounts.{absent_tests, on_file_tests, account_ok}
use Rattle.order.specs.Order.{amount_fits, is_month_first, amount_ok, line_tests, names_ok, line_ok, point_test, points_ok, account_test, accounts_ok, row_test, table_ok, line_test, lines_ok, lengths_ok, order_tests, in_order}
use Rattle.parts.proofs.TestLaws.{every_at, all_at, all_of}
use Rattle.std.proofs.lemmas.Bool.{or_cases, or_left, or_right}
use Rattle.order.proofs.OrderLaws.{lengths_table, lengths_ledger, lengths_lines, names_user, names_point}
use Rattle.amounts.proofs.AmountLaws.{capacity_le, capacity_out}

-- ---- in order, as a record
pub record InOrder (s : State) : Type 0 where
  pub table_length_lem : length s.free ≡ table_length
  pub ledger_length_lem : length s.ledger ≡ ledger_length
  pub few : s.register.lines ≤ line_count
  pub year : is_thermal_year s.register.year ≡ true
  pub points : (i : ℕ) → i < point_count → point_ok (point_at s.register.points i) ≡ true
  pub accounts : (i : ℕ) → i < user_count → account_ok (account_at s.register.accounts i) ≡ true
  pub free : (i k : ℕ) → i < point_count → k < row_length
      → get_or s.free (entry_at i k) 0 ≤ capacity (year_days s.register.year) (point_at s.register.points i) k
  pub lines : (i : ℕ) → i < s.register.lines
      → line_ok s.register.year s.register.points s.register.accounts (line_at s.ledger i) ≡ true

pub ordered : (s : State) → in_order s ≡ true → InOrder s
unfolding in_order points_ok accounts_ok table_ok lines_ok
ordered s h =
    let r = s.register in
    let part : (i : ℕ) → get_or (order_tests s) i true ≡ true = λ i. every_at (order_tests s) i h in
    record {
      table_length_lem = lengths_table r.lines s.free s.ledger (part 0);
      ledger_length_lem = lengths_ledger r.lines s.free s.ledger (part 0);
      few = lengths_lines r.lines s.free s.ledger (part 0);
      year = part 1;
      points = λ i l. all_at (point_test r.points) point_count i (part 2) l;
      accounts = λ i l. all_at (account_test r.accounts) user_count i (part 3) l;
      free = λ i k l m. leb-true _ _
          (all_at (amount_fits (year_days r.year) s.free i (point_at r.points i)) row_length k
          (all_at (row_test (year_days r.year) s.free r.points) point_count i (part 4) l) m);
      lines = λ i l. all_at (line_test r s.ledger) r.lines i (part 5) l;
    }

pub in_order_lem : (s : State) → InOrder s → in_order s ≡ true
unfolding in_order points_ok accounts_ok table_ok lines_ok
in_order_lem s o =
    let r = s.register in
    let a : points_ok r.points ≡ true = all_of (point_test r.points) point_count o.points in
    let b : accounts_ok r.accounts ≡ true = all_of (account_test r.accounts) user_count o.accounts in
    let c : table_ok (year_days r.year) s.free r.points ≡ true =
    all_of (row_test (year_days r.year) s.free r.points) point_count
    (λ i l. all_of (amount_fits (year_days r.year) s.free i (point_at r.points i)) row_length (λ k m. le-leb _ _ (o.free i k l m))) in
    let d : lines_ok r s.ledger ≡ true = all_of (line_test r s.ledger) r.lines o.lines in
    let e : lengths_ok r.lines s.free s.ledger ≡ true =
    both _ _ (both _ _ (eq-eqb _ _ o.table_length_lem) (eq-eqb _ _ o.ledger_length_lem)) (le-leb _ _ o.few) in
    both _ _ (both _ _ (both _ _ (both _ _ (both _ _ e o.year) a) b) c) d

-- ---- points
-- closed, with nothing set
pub record Closed (p : Point) : Type 0 where
  pub kind : p.kind ≡ 0
  pub total : p.total ≡ 0
  pub rate : p.rate ≡ 0

-- or open within the limits
pub record Open (p : Point) : Type 0 where
  pub kind : Within 1 2 p.kind
  pub total : Within 1 most_amount p.total
  pub rate : p.rate ≤ most_rate

pub open_facts : (p : Point) → every (open_tests p) ≡ true → Open p
open_facts p e =
    record {
      kind = within 1 2 p.kind (every_at (open_tests p) 0 e);
      total = within 1 most_amount p.total (every_at (open_tests p) 1 e);
      rate = leb-true _ _ (every_at (open_tests p) 2 e);
    }

pub point_is : (p : Point) → point_ok p ≡ true → Closed p ⊎ Open p
point_is p h =
    ⊎_elim
    (λ e. inl (record {
      kind = eqb-true _ _ (every_at (closed_tests p) 0 e);
      total = eqb-true _ _ (every_at (closed_tests p) 1 e);
      rate = eqb-true _ _ (every_at (closed_tests p) 2 e);
    }))
    (λ e. inr (open_facts p e))
    (or_cases (every (closed_tests p)) (every (open_tests p)) h)

pub open_ok : (p : Point) → Open p → point_ok p ≡ true
open_ok p o =
    or_right (every (closed_tests p)) (every (open_tests p))
    (both _ _
    (both _ _ (is_between 1 2 p.kind o.kind.from o.kind.to) (is_between 1 most_amount p.total o.total.from o.total.to))
    (le-leb _ _ o.rate))

-- ---- accounts
pub record Absent (a : Account) : Type 0 where
  pub absent : a.on_file ≡ 0
  pub guarantee : a.guarantee ≡ 0
  pub commitment : a.commitment ≡ 0

pub record OnFile (a : Account) : Type 0 where
  pub filed : a.on_file ≡ 1
  pub guarantee : a.guarantee ≤ most_guarantee
  pub commitment : a.commitment ≤ a.guarantee

pub account_is : (a : Account) → account_ok a ≡ true → Absent a ⊎ OnFile a
account_is a h =
    ⊎_elim
    (λ e. inl (record {
      absent = eqb-true _ _ (every_at (absent_tests a) 0 e);
      guarantee = eqb-true _ _ (every_at (absent_tests a) 1 e);
      commitment = eqb-true _ _ (every_at (absent_tests a) 2 e);
    }))
    (λ e. inr (record {
      filed = eqb-true _ _ (every_at (on_file_tests a) 0 e);
      guarantee = leb-true _ _ (every_at (on_file_tests a) 1 e);
      commitment = leb-true _ _ (every_at (on_file_tests a) 2 e);
    }))
    (or_cases (every (absent_tests a)) (every (on_file_tests a)) h)

pub on_file_ok : (a : Account) → OnFile a → account_ok a ≡ true
on_file_ok a o =
    or_right (every (absent_tests a)) (every (on_file_tests a))
    (both _ _ (both _ _ (eq-eqb _ _ o.filed) (le-leb _ _ o.guarantee)) (le-leb _ _ o.commitment))

pub absent_ok : (a : Account) → Absent a → account_ok a ≡ true
absent_ok a o =
    or_left (every (absent_tests a)) (every (on_file_tests a))
    (both _ _ (both _ _ (eq-eqb _ _ o.absent) (eq-eqb _ _ o.guarantee)) (eq-eqb _ _ o.commitment))

-- a commitment is at most the guarantee, and that at most 10^15
pub commitment_le : (a : Account) → account_ok a ≡ true → a.commitment ≤ a.guarantee
commitment_le a h =
    ⊎_elim (λ (e : Absent a). omega (arith, e.commitment)) (λ (e : OnFile a). e.commitment) (account_is a h)

pub guarantee_le : (a : Account) → account_ok a ≡ true → a.guarantee ≤ most_guarantee
guarantee_le a h =
    ⊎_elim (λ (e : Absent a). omega (arith, e.guarantee)) (λ (e : OnFile a). e.guarantee) (account_is a h)

-- ---- free amounts
module _ (s : State) (o : InOrder s) where
  -- "each free amount at most its total"
  pub free_le : (i k : ℕ) → i < point_count → k < row_length → get_or s.free (entry_at i k) 0 ≤ (point_at s.register.points i).total
  free_le i k hi hk =
      omega (arith, o.free i k hi hk, capacity_le (year_days s.register.year) (point_at s.register.points i) k)

  -- "entries of closed points [..] are 0"
  pub closed_zero : (i k : ℕ) → i < point_count → k < row_length → (point_at s.register.points i).kind ≡ 0 → get_or s.free (entry_at i k) 0 ≡ 0
  closed_zero i k hi hk z =
      ⊎_elim
      (λ (c : Closed (point_at s.register.points i)). omega (arith, free_le i k hi hk, c.total))
      (λ (c : Open (point_at s.register.points i)). absurd (omega (arith, c.kind.from, z)))
      (point_is (point_at s.register.points i) (o.points i hi))

  -- "and the 366th of a 365-day year"
  pub past_zero : (i k : ℕ) → i < point_count → k < row_length → year_days s.register.year ≤ k → get_or s.free (entry_at i k) 0 ≡ 0
  past_zero i k hi hk past =
      omega (arith, o.free i k hi hk, capacity_out (year_days s.register.year) (point_at s.register.points i) k past)

-- ---- lines
pub record LineFacts (y : ℕ) (ps : List Point) (us : List Account) (l : Line) : Type 0 where
  pub user : l.user < user_count
  pub point : l.point < point_count
  pub filed : (account_at us l.user).on_file ≡ 1
  pub open_point_lem : 0 < (point_at ps l.point).kind
  pub kind : Within 1 3 l.kind
  pub first : Within (thermal_first y) (thermal_last y) l.first
  pub month : (not (eqb l.kind 2) || is_month_first y l.first) ≡ true
  pub amount : amount_ok l.amount ≡ true

module _ (y : ℕ) (ps : List Point) (us : List Account) (l : Line) where
  pub line_facts : line_ok y ps us l ≡ true → LineFacts y ps us l
  unfolding line_ok
  line_facts h =
      let tests = line_tests (account_at us l.user) (point_at ps l.point) (thermal_first y) (thermal_last y) (is_month_first y l.first) l in
      let names = and_left (names_ok l) (every tests) h in
      let rest = and_right (names_ok l) (every tests) h in
      record {
        user = names_user l names;
        point = names_point l names;
        filed = eqb-true _ _ (every_at tests 0 rest);
        open_point_lem = ltb-true _ _ (every_at tests 1 rest);
        kind = within 1 3 l.kind (every_at tests 2 rest);
        first = within (thermal_first y) (thermal_last y) l.first (every_at tests 3 rest);
        month = every_at tests 4 rest;
        amount = every_at tests 5 rest;
      }

  pub line_ok_lem : LineFacts y ps us l → line_ok y ps us l ≡ true
  unfolding line_ok
  line_ok_lem f =
      both _ _ (both _ _ (lt-ltb _ _ f.user) (lt-ltb _ _ f.point))
      (both _ _
      (both _ _
      (both _ _
      (both _ _ (both _ _ (eq-eqb _ _ f.filed) (lt-ltb _ _ f.open_point_lem)) (is_between 1 3 l.kind f.kind.from f.kind.to))
      (is_between (thermal_first y) (thermal_last y) l.first f.first.from f.first.to))
      f.month)
      f.amount)
