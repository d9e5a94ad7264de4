-- What a grant that is booked does: to the free amounts, the commitment and the ledger, and that a sound register stays sound.
-- Assumes nothing.
use mathlib.Core.Path.{◌≡◌, refl, ap, ◌∙◌}
use mathlib.Core.Bool.{true, not, ◌||◌}
use mathlib.Core.List.{List}
use Prim.Native.Nat.{ℕ, ◌+◌, ◌-◌, ◌≤◌, ◌<◌}
use native.Mathlib.Decide.{ℕ_discrete}
use native.Mathlib.Omega.{arith}
use lib.Dec.{eqb}
use lib.IntN.{pos}
use lib.ListN.{get_or, length, length-set}
use mir.Syntax.{w32}
use mir.Val.{SFits}
use Rattle.calendar.specs.ThermalYears.{in_thermal_year, thermal_first}
use Rattle.days.proofs.Ranges.{is_between}
use Rattle.parts.specs.declared.points.Point.{Point}
use Rattle.parts.specs.declared.accounts.Account.{Account}
use Rattle.ledger.specs.declared.ledger.Line.{Line}
use Rattle.parts.specs.Limits.{point_count, row_length, most_amount}
use Rattle.parts.specs.Registers.{State, point_at, account_at, absent_user}
use Rattle.ledger.specs.Ledger.{line_at, with_line, line_last}
use Rattle.amounts.specs.Amounts.{entry_at, entry_of, free_on}
use Rattle.parts.specs.Accounts.{account_ok}
use Rattle.order.specs.Order.{is_month_first, amount_ok, line_ok}
use Rattle.register.specs.Sound.{Sound}
use Rattle.ledger.proofs.LedgerLaws.{with_length, read_back, read_other}
use Rattle.amounts.proofs.CalendarLaws.{year_facts, day_within}
use Rattle.amounts.proofs.AmountLaws.{taken_length, taken_in, taken_out, each_place, taken_le}
use Rattle.order.proofs.OrderFacts.{InOrder, ordered, in_order_lem, guarantee_le, on_file_ok, line_ok_lem}
use Rattle.order.proofs.OrderKept.{set_keeps, account_same, account_other, field_kept, line_carry}
use Rattle.conferral.specs.declared.bookings.Grant.{Grant}
use Rattle.conferral.specs.Bookings.{days_of, charge_of, committed, line_of, booked}
use Rattle.conferral.proofs.RoomLaws.{Room}

-- a grant that can be booked with the register left in order
pub record Bookable (s : State) (g : Grant) : Type 0 where
  pub room : Room s.register g
  pub filed : (account_at s.register.accounts g.user).on_file ≡ 1
  pub open_point_lem : 0 < (point_at s.register.points g.point).kind
  pub month : (not (eqb g.kind 2) || is_month_first s.register.year g.days.first) ≡ true
  pub last : line_last s.register.year (line_of g) ≡ g.days.last
  pub free : (k : ℕ) → k < days_of g → g.amount ≤ get_or s.free (entry_of s.register.year g.point g.days.first + k) 0

-- t is s with a grant booked, number by number
pub record BookedIn (s : State) (g : Grant) (t : State) : Type 0 where
  pub year : t.register.year ≡ s.register.year
  pub points : t.register.points ≡ s.register.points
  -- "its charge joins the commitment", and every other account is unchanged
  pub commitment : (account_at t.register.accounts g.user).commitment
      ≡ (account_at s.register.accounts g.user).commitment + charge_of s.register g
  pub guarantees : (i : ℕ) → (account_at t.register.accounts i).guarantee ≡ (account_at s.register.accounts i).guarantee
  pub on_file : (i : ℕ) → (account_at t.register.accounts i).on_file ≡ (account_at s.register.accounts i).on_file
  pub other_user : (i : ℕ) → (i ≡ g.user → ⊥) → account_at t.register.accounts i ≡ account_at s.register.accounts i
  -- "The grant is taken from each of those days", and every other number of the table is unchanged
  pub day : (d : ℕ) → g.days.first ≤ d → d ≤ g.days.last → free_on t g.point d + g.amount ≡ free_on s g.point d
  pub other_day : (p d : ℕ) → p < point_count → in_thermal_year s.register.year d ≡ true → (p ≡ g.point → g.days.first ≤ d → d ≤ g.days.last → ⊥)
      → free_on t p d ≡ free_on s p d
  pub other_place : (j : ℕ) → (entry_of s.register.year g.point g.days.first ≤ j → j < entry_of s.register.year g.point g.days.first + days_of g → ⊥)
      → get_or t.free j 0 ≡ get_or s.free j 0
  -- "one line is written", which ends with the grant, and every other line is unchanged
  pub lines : t.register.lines ≡ s.register.lines + 1
  pub line : line_at t.ledger s.register.lines ≡ line_of g
  pub line_ends : line_last t.register.year (line_at t.ledger s.register.lines) ≡ g.days.last
  pub other_line : (i : ℕ) → (i ≡ s.register.lines → ⊥) → line_at t.ledger i ≡ line_at s.ledger i
  -- a sound register stays sound: sized and in order
  pub sound : Sound t

-- the amount of a grant fits a line, and is in order there
pub amount_fits_lem : (n : ℕ) → n ≤ most_amount → SFits w32 (pos n)
amount_fits_lem n h = record { sfits = omega arith }

pub amount_ok_lem : (n : ℕ) → 1 ≤ n → n ≤ most_amount → amount_ok (pos n) ≡ true
amount_ok_lem n a b = is_between 1 most_amount n a b

-- one line written: a property of it and of the others
pub line_keeps : (P : Line → Type 0) (ls : List ℕ) (n : ℕ) (l : Line) (i : ℕ) → line_at (with_line ls n l) n ≡ l → P l → ((i ≡ n → ⊥) → P (line_at ls i)) → P (line_at (with_line ls n l) i)
line_keeps P ls n l i back new old = go (ℕ_discrete i n)
  where
    go : Dec (i ≡ n) → P (line_at (with_line ls n l) i)
    go (yes e) = rw (e, back) new
    go (no ne) = rw (read_other ls n i l ne) (old ne)

-- ---- booked
module _ (s : State) (g : Grant) (sound : Sound s) (b : Bookable s g) where
  abbrev y : ℕ
  y = s.register.year

  abbrev ps : List Point
  ps = s.register.points

  abbrev us : List Account
  us = s.register.accounts

  abbrev user : Account
  user = account_at us g.user

  abbrev raised : Account
  raised = committed user (charge_of s.register g)

  abbrev at : ℕ
  at = entry_of y g.point g.days.first

  order : InOrder s
  order = ordered s sound.order

  in_accounts : g.user < length us
  in_accounts = omega (arith, sound.sized.accounts, b.room.limits.user)

  -- its days lie in the row of its point, and so in the table
  in_row : g.days.first - thermal_first y + days_of g ≤ row_length
  in_row = let w = b.room.limits in omega (arith, w.fit.begins, w.fit.ordered, w.fit.ends, (year_facts y w.year).most)

  in_table : at + days_of g ≤ length s.free
  in_table = omega (arith, in_row, order.table_length_lem, b.room.limits.point)

  -- ---- the free amounts
  lowered : (d : ℕ) → g.days.first ≤ d → d ≤ g.days.last → free_on (booked s g) g.point d + g.amount ≡ free_on s g.point d
  unfolding booked
  lowered d from to =
      each_place (λ (j : ℕ). get_or (booked s g).free j 0 + g.amount ≡ get_or s.free j 0) at (days_of g)
      (λ k h. omega (arith, taken_in s.free at (days_of g) g.amount k h (omega (arith, in_table)), b.free k h))
      (entry_of y g.point d) (omega (arith, b.room.limits.fit.begins)) (omega (arith, b.room.limits.fit.begins))

  beside : (j : ℕ) → (at ≤ j → j < at + days_of g → ⊥) → get_or (booked s g).free j 0 ≡ get_or s.free j 0
  unfolding booked
  beside j out = taken_out s.free at (days_of g) g.amount j out

  other : (p d : ℕ) → p < point_count → in_thermal_year y d ≡ true → (p ≡ g.point → g.days.first ≤ d → d ≤ g.days.last → ⊥) → free_on (booked s g) p d ≡ free_on s p d
  unfolding booked
  other p d hp hd ne =
      let w = day_within y d hd in
      let m = (year_facts y order.year).most in
      let r = in_row in
      let f = b.room.limits.fit in
      beside (entry_of y p d)
      (λ lo hi. ne (omega (arith, lo, hi, w.from, w.to, m, r, f.begins)) (omega (arith, lo, hi, w.from, w.to, m, r, f.begins)) (omega (arith, lo, hi, w.from, w.to, m, r, f.begins)))

  -- ---- the accounts
  filed_still : (i : ℕ) → (account_at (booked s g).register.accounts i).on_file ≡ (account_at us i).on_file
  unfolding booked
  filed_still = field_kept (λ a. a.on_file) us g.user raised refl

  guarantee_still : (i : ℕ) → (account_at (booked s g).register.accounts i).guarantee ≡ (account_at us i).guarantee
  unfolding booked
  guarantee_still = field_kept (λ a. a.guarantee) us g.user raised refl

  account_now : account_at (booked s g).register.accounts g.user ≡ raised
  unfolding booked
  account_now = account_same us g.user raised in_accounts

  other_account : (i : ℕ) → (i ≡ g.user → ⊥) → account_at (booked s g).register.accounts i ≡ account_at us i
  unfolding booked
  other_account i ne = account_other us g.user raised i ne

  raised_ok : account_ok raised ≡ true
  raised_ok =
      on_file_ok raised
      (record { filed = b.filed; guarantee = guarantee_le user (order.accounts g.user b.room.limits.user); commitment = b.room.covered })

  -- ---- the lines
  line_now : line_at (booked s g).ledger s.register.lines ≡ line_of g
  unfolding booked
  line_now =
      read_back s.ledger s.register.lines (line_of g) (omega (arith, order.ledger_length_lem, b.room.line)) (amount_fits_lem g.amount b.room.limits.amount.to)

  other_line : (i : ℕ) → (i ≡ s.register.lines → ⊥) → line_at (booked s g).ledger i ≡ line_at s.ledger i
  unfolding booked
  other_line i ne = read_other s.ledger s.register.lines i (line_of g) ne

  new_line_ok : line_ok y ps (booked s g).register.accounts (line_of g) ≡ true
  new_line_ok =
      let w = b.room.limits in
      line_ok_lem y ps (booked s g).register.accounts (line_of g)
      (record {
        user = w.user;
        point = w.point;
        filed = filed_still g.user ∙ b.filed;
        open_point_lem = b.open_point_lem;
        kind = w.kind;
        first = record { from = w.fit.begins; to = omega (arith, w.fit.ordered, w.fit.ends) };
        month = b.month;
        amount = amount_ok_lem g.amount w.amount.from w.amount.to;
      })

  old_line_ok : (i : ℕ) → i < s.register.lines → line_ok y ps (booked s g).register.accounts (line_at s.ledger i) ≡ true
  old_line_ok i h =
      line_carry y ps ps us (booked s g).register.accounts (line_at s.ledger i) (λ f. filed_still _ ∙ f) (λ f. f) (order.lines i h)

  -- ---- in order again
  booked_order : InOrder (booked s g)
  unfolding booked
  booked_order =
      record {
        table_length_lem = taken_length s.free at (days_of g) g.amount ∙ order.table_length_lem;
        ledger_length_lem = with_length s.ledger s.register.lines (line_of g) ∙ order.ledger_length_lem;
        few = omega (arith, b.room.line);
        year = order.year;
        points = order.points;
        accounts = λ i h. set_keeps (λ (x : Account). account_ok x ≡ true) us g.user raised absent_user i in_accounts raised_ok (order.accounts i h);
        free = λ i k hi hk. omega (arith, taken_le s.free at (days_of g) g.amount (entry_at i k) in_table, order.free i k hi hk);
        lines = λ i h. line_keeps (λ (l : Line). line_ok y ps (booked s g).register.accounts l ≡ true) s.ledger s.register.lines (line_of g) i line_now new_line_ok (λ ne. old_line_ok i (omega (arith, h, ne)));
      }

  booked_sound : Sound (booked s g)
  unfolding booked
  booked_sound =
      record {
        sized = record { points = sound.sized.points; accounts = length-set us g.user raised ∙ sound.sized.accounts };
        order = in_order_lem (booked s g) booked_order;
      }

  pub booked_in : BookedIn s g (booked s g)
  unfolding booked
  booked_in =
      record {
        year = refl;
        points = refl;
        commitment = ap (λ (a : Account). a.commitment) account_now;
        guarantees = guarantee_still;
        on_file = filed_still;
        other_user = other_account;
        day = lowered;
        other_day = other;
        other_place = beside;
        lines = refl;
        line = line_now;
        line_ends = ap (line_last y) line_now ∙ b.last;
        other_line = other_line;
        sound = booked_sound;
      }
