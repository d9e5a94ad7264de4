-- Laws of grants that are booked by parts: the parts put together are the register with the grant booked.
-- Assumes nothing.
use mathlib.Core.Path.{◌≡◌, refl, ap, ◌∙◌}
use mathlib.Core.Bool.{Bool, true, false, cond, ◌&&◌}
use mathlib.Core.List.{List}
use Prim.Native.Nat.{ℕ, ◌+◌, ◌%◌, ◌≤◌, ◌<◌}
use native.Mathlib.Omega.{arith}
use lib.Dec.{leb}
use lib.Seq.{set-get_or}
use borrow.Author.Tests.{ltb-true, leb-true, le-leb}
use Rattle.days.specs.Days.{last_day}
use Rattle.days.proofs.Ranges.{and_left, and_right, within}
use Rattle.std.proofs.lemmas.Bool.{and_from as both}
use Rattle.calendar.specs.ThermalYears.{is_thermal_year}
use Rattle.parts.specs.declared.points.Point.{Point}
use Rattle.parts.specs.declared.accounts.Account.{Account}
use Rattle.parts.specs.declared.registers.Register.{Register}
use Rattle.parts.specs.Limits.{point_count, user_count, line_count, row_length, most_amount}
use Rattle.parts.specs.Tests.{every}
use Rattle.parts.specs.Registers.{State, state, point_at, account_at, absent_user, with_lines, with_account, with_accounts}
use Rattle.parts.proofs.TestLaws.{every_at}
use Rattle.ledger.specs.Ledger.{with_line}
use Rattle.amounts.specs.Amounts.{entry_in, entry_of, taken}
use Rattle.amounts.proofs.CalendarLaws.{year_facts, day_in_lem}
use Rattle.amounts.proofs.AmountLaws.{entry_in_lem, taken_none}
use Rattle.conferral.specs.declared.bookings.Grant.{Grant}
use Rattle.spans.specs.Spans.{span_fits, span_in_year}
use Rattle.spans.proofs.SpanLaws.{fit_facts}
use Rattle.conferral.specs.Bookings.{covers, days_of, charge_at, charge_of, committed, line_of, booked, field_tests, within_limits, is_covered, has_room, book_after}
use Rattle.conferral.specs.Postings.{days_ordered, room_for, Posting, posting, post_after}

-- ---- room for a grant, by parts
pub record RoomFacts (n : ℕ) (a : Account) (p : Point) (g : Grant) : Type 0 where
  pub user : g.user < user_count
  pub point : g.point < point_count
  pub amount : g.amount ≤ most_amount
  pub bounds : (g.days.first ≤ g.days.last) × ((g.days.last ≤ last_day) × ((days_of g ≤ row_length) × (g.amount ≤ most_amount)))
  pub covered : covers a (charge_at p g) ≡ true
  pub line : n < line_count

module _ (g : Grant) where
  pub amount_most : every (field_tests g) ≡ true → g.amount ≤ most_amount
  amount_most h = (within 1 most_amount g.amount (every_at (field_tests g) 3 h)).to

  -- the charge of such a grant can be found
  pub ordered_bounds : (every (field_tests g) && days_ordered g) ≡ true → (g.days.first ≤ g.days.last) × ((g.days.last ≤ last_day) × ((days_of g ≤ row_length) × (g.amount ≤ most_amount)))
  ordered_bounds h =
      let d = and_right (every (field_tests g)) (days_ordered g) h in
      let e = and_right (leb g.days.first g.days.last) (leb g.days.last last_day && leb (g.days.last + 1) (g.days.first + row_length)) d in
      let most : g.days.last + 1 ≤ g.days.first + row_length = leb-true (g.days.last + 1) (g.days.first + row_length) (and_right (leb g.days.last last_day) (leb (g.days.last + 1) (g.days.first + row_length)) e) in (
        leb-true _ _ (and_left (leb g.days.first g.days.last) (leb g.days.last last_day && leb (g.days.last + 1) (g.days.first + row_length)) d),
        (
          leb-true _ _ (and_left (leb g.days.last last_day) (leb (g.days.last + 1) (g.days.first + row_length)) e),
          (omega (arith, most), amount_most (and_left (every (field_tests g)) (days_ordered g) h)),
        ),
      )

  -- a span in a thermal year has its days in order
  span_ordered : (y : ℕ) → span_in_year y g.days.first g.days.last ≡ true → days_ordered g ≡ true
  span_ordered y h =
      let f = fit_facts y g.days.first g.days.last (and_right (is_thermal_year y) (span_fits y g.days.first g.days.last) h) in
      let w = year_facts y (and_left (is_thermal_year y) (span_fits y g.days.first g.days.last) h) in
      both (leb g.days.first g.days.last) (leb g.days.last last_day && leb (g.days.last + 1) (g.days.first + row_length)) (le-leb g.days.first g.days.last f.ordered)
      (both (leb g.days.last last_day) (leb (g.days.last + 1) (g.days.first + row_length)) (le-leb g.days.last last_day (omega (arith, f.ends, w.last))) (le-leb (g.days.last + 1) (g.days.first + row_length) (omega (arith, f.begins, f.ordered, f.ends, w.most))))

module _ (n : ℕ) (a : Account) (p : Point) (g : Grant) where
  abbrev fit : Bool
  fit = every (field_tests g) && days_ordered g

  pub room_facts : room_for n a p g ≡ true → RoomFacts n a p g
  unfolding room_for
  room_facts h =
      let f = and_left fit (covers a (charge_at p g) && leb (n + 1) line_count) h in
      let c = and_right fit (covers a (charge_at p g) && leb (n + 1) line_count) h in
      let fields = and_left (every (field_tests g)) (days_ordered g) f in
      record {
        user = ltb-true _ _ (every_at (field_tests g) 0 fields);
        point = ltb-true _ _ (every_at (field_tests g) 1 fields);
        amount = amount_most g fields;
        bounds = ordered_bounds g f;
        covered = and_left (covers a (charge_at p g)) (leb (n + 1) line_count) c;
        line = omega (arith, leb-true (n + 1) line_count (and_right (covers a (charge_at p g)) (leb (n + 1) line_count) c));
      }

-- the places that the code reads are a grant's own, where there are such
pub own_user : (g : Grant) → g.user < user_count → g.user % 64 ≡ g.user
own_user g h = omega (arith, h)

pub own_point : (ps : List Point) (g : Grant) → g.point < point_count → point_at ps (g.point % 32) ≡ point_at ps g.point
own_point ps g h = let e : g.point % 32 ≡ g.point = omega (arith, h) in ap (point_at ps) e

-- the days of one whose span is in the year follow each other
pub span_days_lem : (y : ℕ) (g : Grant) → span_in_year y g.days.first g.days.last ≡ true → g.days.first ≤ g.days.last
span_days_lem y g h = (fit_facts y g.days.first g.days.last (and_right (is_thermal_year y) (span_fits y g.days.first g.days.last) h)).ordered

-- and its first day has its place in the table
pub span_place_lem : (y : ℕ) (g : Grant) → span_in_year y g.days.first g.days.last ≡ true → entry_in y g.point g.days.first ≡ entry_of y g.point g.days.first
span_place_lem y g h =
    let f = fit_facts y g.days.first g.days.last (and_right (is_thermal_year y) (span_fits y g.days.first g.days.last) h) in
    entry_in_lem y g.point g.days.first (day_in_lem y g.days.first (and_left (is_thermal_year y) (span_fits y g.days.first g.days.last) h) f.begins (omega (arith, f.ordered, f.ends)))

-- a grant whose span is not in the year is not booked
pub span_out : (s : State) (g : Grant) → span_in_year s.register.year g.days.first g.days.last ≡ false → s ≡ book_after s g
unfolding book_after has_room is_covered within_limits
span_out s g h = rw h

-- ---- the parts that a grant names whose span is in the year: account k and the point p
module _ (r : Register) (g : Grant) (span : span_in_year r.year g.days.first g.days.last ≡ true) (k : ℕ) (p : Point) (user : g.user < user_count → k ≡ g.user) (point : g.point < point_count → p ≡ point_at r.points g.point) where
  abbrev a : Account
  a = account_at r.accounts k

  abbrev own : Account
  own = account_at r.accounts g.user

  -- they are the grant's own where its fields are within limits
  account_own : every (field_tests g) ≡ true → a ≡ own
  account_own h = ap (account_at r.accounts) (user (ltb-true _ _ (every_at (field_tests g) 0 h)))

  charge_own : every (field_tests g) ≡ true → charge_at p g ≡ charge_of r g
  charge_own h = ap (λ (q : Point). charge_at q g) (point (ltb-true _ _ (every_at (field_tests g) 1 h)))

  room_own : room_for r.lines a p g ≡ has_room r g
  unfolding room_for has_room is_covered within_limits
  room_own = go (every (field_tests g)) refl
    where
      go : (t : Bool) → every (field_tests g) ≡ t → room_for r.lines a p g ≡ has_room r g
      go true e = rw (span, span_ordered g r.year span, account_own e, charge_own e, e)
      go false e = rw (span, e)

  -- the register with them in it, and the amount taken
  abbrev with_parts : List ℕ → Posting → State
  with_parts f t =
      state (with_lines (with_account r k t.account) t.lines) (taken f (entry_of r.year g.point g.days.first) (days_of g) t.amount) t.ledger

  left : (f ls : List ℕ) → with_parts f (posting a r.lines 0 ls) ≡ state r f ls
  left f ls =
      rw (taken_none f (entry_of r.year g.point g.days.first) (days_of g))
      (ap (λ (us : List Account). state (with_accounts r us) f ls) (set-get_or r.accounts k absent_user))

  taken_up : (f ls : List ℕ) → every (field_tests g) ≡ true
      → with_parts f (posting (committed a (charge_at p g)) (r.lines + 1) g.amount (with_line ls r.lines (line_of g))) ≡ booked (state r f ls) g
  unfolding booked
  taken_up f ls h = rw (charge_own h, user (ltb-true _ _ (every_at (field_tests g) 0 h)))

  fields_of : room_for r.lines a p g ≡ true → every (field_tests g) ≡ true
  unfolding room_for
  fields_of h =
      and_left (every (field_tests g)) (days_ordered g)
      (and_left (every (field_tests g) && days_ordered g) (covers a (charge_at p g) && leb (r.lines + 1) line_count) h)

  by_room : (f ls : List ℕ) (t : Bool) → room_for r.lines a p g ≡ t
      → with_parts f (cond t (posting (committed a (charge_at p g)) (r.lines + 1) g.amount (with_line ls r.lines (line_of g))) (posting a r.lines 0 ls))
      ≡ cond t (booked (state r f ls) g) (state r f ls)
  by_room f ls true e = taken_up f ls (fields_of e)
  by_room f ls false e = left f ls

  -- "posted" is "booked"
  pub posted_booked : (f ls : List ℕ) (t : Posting) → t ≡ post_after r.lines a p g ls → with_parts f t ≡ book_after (state r f ls) g
  unfolding post_after book_after
  posted_booked f ls t e =
      ap (with_parts f) e
      ∙ (by_room f ls (room_for r.lines a p g) refl
      ∙ ap (λ (b : Bool). cond b (booked (state r f ls) g) (state r f ls)) room_own)

-- a booking keeps the year and the points
pub after_year : (s : State) (g : Grant) → (book_after s g).register.year ≡ s.register.year
unfolding book_after booked
after_year s g = go (has_room s.register g)
  where
    go : (t : Bool) → (cond t (booked s g) s).register.year ≡ s.register.year
    go true = refl
    go false = refl

pub after_points : (s : State) (g : Grant) → (book_after s g).register.points ≡ s.register.points
unfolding book_after booked
after_points s g = go (has_room s.register g)
  where
    go : (t : Bool) → (cond t (booked s g) s).register.points ≡ s.register.points
    go true = refl
    go false = refl

-- the register as the code leaves it
pub book_as : (r : Register) (g : Grant) (f ls : List ℕ) → span_in_year r.year g.days.first g.days.last ≡ true → (t : Posting) (place : ℕ) (h : List ℕ)
    → t ≡ post_after r.lines (account_at r.accounts (g.user % 64)) (point_at r.points (g.point % 32)) g ls
    → place ≡ entry_in r.year g.point g.days.first
    → h ≡ taken f place (days_of g) t.amount
    → state (with_lines (with_account r (g.user % 64) t.account) t.lines) h t.ledger ≡ book_after (state r f ls) g
book_as r g f ls span t place h post-so place-so taken-so =
    rw (taken-so, place-so, span_place_lem r.year g span)
    (posted_booked r g span (g.user % 64) (point_at r.points (g.point % 32)) (own_user g) (own_point r.points g) f ls t post-so)
