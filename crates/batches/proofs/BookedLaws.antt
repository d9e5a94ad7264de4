-- What an accepted batch does: each share is booked as a grant, and every batch leaves a sound register sound.
-- Assumes nothing.
use mathlib.Core.Path.{◌≡◌, refl, sym, ap, ap₂, ◌∙◌, subst}
use mathlib.Core.Bool.{Bool, true, false, cond}
use mathlib.Core.Logic.{⊎_elim}
use mathlib.Core.List.{List}
use Prim.Native.Nat.{ℕ, zero, suc, ◌+◌, ◌≤◌, ◌<◌}
use native.Mathlib.Nat.{mul-le-mul, zero-mul, le_of_eq, eq-or-lt_of_le}
use native.Mathlib.Omega.{arith}
use lib.Dec.{eqb}
use lib.ListN.{get_or}
use borrow.Author.Tests.{eqb-true, eqb-false, ne_eqb}
use Rattle.calendar.specs.ThermalYears.{is_thermal_year, in_thermal_year, thermal_first, thermal_last}
use Rattle.days.proofs.Ranges.{cond_le, Within}
use Rattle.parts.specs.declared.points.Point.{Point}
use Rattle.parts.specs.declared.accounts.Account.{Account}
use Rattle.parts.specs.declared.registers.Register.{Register}
use Rattle.parts.specs.Limits.{point_count, user_count, line_count, most_amount}
use Rattle.amounts.specs.Ranges.{sum_below}
use Rattle.parts.specs.Registers.{State, point_at, account_at}
use Rattle.amounts.specs.Amounts.{year_days, entry_at, entry_of, free_on}
use Rattle.parts.specs.Charges.{charge}
use Rattle.amounts.proofs.RangeLaws.{sum_le}
use Rattle.amounts.proofs.CalendarLaws.{year_facts, day_within, day_in_lem}
use Rattle.parts.proofs.AnswerLaws.{leaves_either}
use Rattle.ledger.specs.Ledger.{line_at, line_last}
use Rattle.register.specs.Sound.{Sound}
use Rattle.ledger.proofs.LedgerLaws.{read_other}
use Rattle.ledger.proofs.LineLaws.{annual_last_lem}
use Rattle.order.proofs.OrderKept.{account_other, field_kept}
use Rattle.conferral.specs.declared.bookings.Grant.{Grant}
use Rattle.conferral.specs.Bookings.{days_of, charge_of, committed, line_of, booked, has_room, book_after}
use Rattle.conferral.proofs.RoomLaws.{LimitFacts, Room, room, has_room_lem}
use Rattle.conferral.proofs.BookedLaws.{Bookable, booked_in}
use Rattle.shares.specs.Batches.{Batch, lines_of, user_of, asked_of, grant_for, grant_of, line_number}
use Rattle.shares.specs.Shares.{share_of}
use Rattle.shares.specs.ShareLines.{shares_of}
use Rattle.shares.proofs.ShareLaws.{line_facts, share_passes, share_le, share_sum, free_of_year_le, list_at}
use Rattle.batches.specs.ConferBatch.{batch_number, booked_if, booked_lines, batch_after}
use Rattle.batches.specs.Steps.{book_some}
use Rattle.batches.proofs.AnswerLaws.{BatchFacts, facts, accepted_after}

-- "as an annual grant from 1 October": the grant of the share of line i
abbrev pub given : State → Batch → ℕ → Grant
given s b i = grant_of s.register b i (share_of s b i)

-- ---- one line after another
-- what holds whether the grant is booked or not
if_booked : (P : State → Type 0) (t : State) (g : Grant) → (g.amount ≡ 0 → P t) → (0 < g.amount → P (booked t g)) → P (booked_if t g)
if_booked P t g none some = go (eqb g.amount 0) refl
  where
    go : (x : Bool) → eqb g.amount 0 ≡ x → P (cond x t (booked t g))
    go true e = none (eqb-true g.amount 0 e)
    go false e = some (omega (arith, eqb-false g.amount 0 e))

-- the line that a share takes in the ledger, if any
abbrev pub line_used : State → Batch → ℕ → ℕ
line_used s b i = cond (eqb (share_of s b i) 0) 0 1

-- where line i of the batch is written in the ledger, if its share is above 0: after the lines that there were and those of the
-- shares before it
abbrev pub place_of : State → Batch → ℕ → ℕ
place_of s b i = s.register.lines + sum_below i (line_used s b)

-- none of the first n lines books anything for user u
abbrev pub NotServed : State → Batch → ℕ → ℕ → Type 0
NotServed s b n u = (i : ℕ) → i < n → 0 < share_of s b i → user_of b i ≡ u → ⊥

-- the charge of line i has joined its user's commitment
abbrev pub Charged : State → Batch → ℕ → State → Type 0
Charged s b i t =
    (account_at t.register.accounts (user_of b i)).commitment
    ≡ (account_at s.register.accounts (user_of b i)).commitment + charge_of s.register (given s b i)

-- the line of the grant of line i is written at its place
abbrev pub Written : State → Batch → ℕ → State → Type 0
Written s b i t = line_at t.ledger (place_of s b i) ≡ line_of (given s b i)

-- a share above 0 takes one line
one_used : (s : State) (b : Batch) (i : ℕ) → 0 < share_of s b i → line_used s b i ≡ 1
one_used s b i p = rw (ne_eqb (share_of s b i) 0 (λ e. omega (arith, p, e)))

-- ---- what the first n lines leave of any register
record Kept (s : State) (b : Batch) (n : ℕ) (t : State) : Type 0 where
  year : t.register.year ≡ s.register.year
  points : t.register.points ≡ s.register.points
  guarantees : (u : ℕ) → (account_at t.register.accounts u).guarantee ≡ (account_at s.register.accounts u).guarantee
  on_file : (u : ℕ) → (account_at t.register.accounts u).on_file ≡ (account_at s.register.accounts u).on_file
  other_user : (u : ℕ) → NotServed s b n u → account_at t.register.accounts u ≡ account_at s.register.accounts u
  lines : t.register.lines ≡ s.register.lines + sum_below n (line_used s b)
  earlier_line : (i : ℕ) → i < s.register.lines → line_at t.ledger i ≡ line_at s.ledger i
  later_line : (i : ℕ) → t.register.lines ≤ i → line_at t.ledger i ≡ line_at s.ledger i

module _ (s : State) (b : Batch) (n : ℕ) (t : State) (k : Kept s b n t) where
  -- "annual lines end with the year", which is still the same
  given_last : (i : ℕ) → line_last t.register.year (line_of (given s b i)) ≡ thermal_last s.register.year
  given_last i = annual_last_lem t.register.year (line_of (given s b i)) refl ∙ ap (λ (x : ℕ). thermal_last x) k.year

  -- nothing to book
  kept_still : share_of s b n ≡ 0 → Kept s b (suc n) t
  unfolding sum_below
  kept_still e =
      let none : line_used s b n ≡ 0 = rw e in
      record {
        year = k.year;
        points = k.points;
        guarantees = k.guarantees;
        on_file = k.on_file;
        other_user = λ u out. k.other_user u (λ i l. out i (omega (arith, l)));
        lines = omega (arith, k.lines, none);
        earlier_line = k.earlier_line;
        later_line = k.later_line;
      }

  -- a grant booked
  kept_booked : 0 < share_of s b n → Kept s b (suc n) (booked t (given s b n))
  unfolding sum_below booked
  kept_booked p =
      let us = t.register.accounts in
      let raised = committed (account_at us (user_of b n)) (charge_of t.register (given s b n)) in
      record {
        year = k.year;
        points = k.points;
        guarantees = λ u. field_kept (λ a. a.guarantee) us (user_of b n) raised refl u ∙ k.guarantees u;
        on_file = λ u. field_kept (λ a. a.on_file) us (user_of b n) raised refl u ∙ k.on_file u;
        other_user = λ u out.
            account_other us (user_of b n) raised u (λ same. out n (omega arith) p (sym same))
            ∙ k.other_user u (λ i l. out i (omega (arith, l)));
        lines = omega (arith, k.lines, one_used s b n p);
        earlier_line = λ i l. read_other t.ledger t.register.lines i (line_of (given s b n)) (λ same. omega (arith, k.lines, l, same)) ∙ k.earlier_line i l;
        later_line = λ i l. read_other t.ledger t.register.lines i (line_of (given s b n)) (λ same. omega (arith, l, same)) ∙ k.later_line i (omega (arith, l));
      }

module _ (s : State) (b : Batch) where
  kept : (n : ℕ) → Kept s b n (booked_lines s b n)
  unfolding booked_lines sum_below
  kept zero =
      record {
        year = refl;
        points = refl;
        guarantees = λ u. refl;
        on_file = λ u. refl;
        other_user = λ u out. refl;
        lines = omega arith;
        earlier_line = λ i l. refl;
        later_line = λ i l. refl;
      }
  kept (suc n) =
      let t = booked_lines s b n in
      if_booked (Kept s b (suc n)) t (given s b n) (kept_still s b n t (kept n)) (kept_booked s b n t (kept n))

-- the grant of an amount within limits for the whole year is within limits
pub year_limits : (y u p a : ℕ) → is_thermal_year y ≡ true → p < point_count → u < user_count → Within 1 most_amount a → LimitFacts y (grant_for y u p a)
year_limits y u p a in-years named user amount =
    record {
      year = in-years;
      fit = record { begins = omega arith; ordered = omega (arith, (year_facts y in-years).ordered); ends = omega arith };
      user = user;
      point = named;
      kind = record { from = omega arith; to = omega arith };
      amount = amount;
    }

-- ---- the code books where there is room
-- a share of 0 has none
no_room : (r : Register) (g : Grant) → g.amount ≡ 0 → has_room r g ≡ false
no_room r g z = go (has_room r g) refl
  where
    go : (x : Bool) → has_room r g ≡ x → x ≡ false
    go true e = absurd (omega (arith, z, (room r g e).limits.amount.from))
    go false e = refl

book_is : (t : State) (g : Grant) → (0 < g.amount → Room t.register g) → book_after t g ≡ booked_if t g
unfolding book_after
book_is t g fits =
    if_booked (λ (x : State). cond (has_room t.register g) (booked t g) t ≡ x) t g
    (λ e. rw (no_room t.register g e))
    (λ p. rw (has_room_lem t.register g (fits p)))

module _ (s : State) (b : Batch) (m n : ℕ) (z : batch_number s b m n ≡ 0) where
  known : BatchFacts s b m n
  known = facts s b m n z

  abbrev y : ℕ
  y = s.register.year

  given_limits : (i : ℕ) → 0 < share_of s b i → LimitFacts y (given s b i)
  given_limits i p =
      let w = line_facts s.register b i (share_passes s b i p) in
      year_limits y (user_of b i) b.point (share_of s b i) known.order.year known.point w.user
      (record { from = p; to = omega (arith, share_le s b i, w.asked.to) })

  -- its charge is at most that of the asked amount
  charge_le : (i : ℕ) → charge_of s.register (given s b i) ≤ charge_of s.register (grant_of s.register b i (asked_of b i))
  charge_le i = mul-le-mul (mul-le-mul (share_le s b i) (omega arith)) (omega arith)

  -- the account of its user is as before the batch, since no earlier line names him
  module _ (i : ℕ) (t : State) (k : Kept s b i t) where
    account_before : line_number s.register b i ≡ 0 → account_at t.register.accounts (user_of b i) ≡ account_at s.register.accounts (user_of b i)
    account_before h = k.other_user (user_of b i) (λ j l _ e. (line_facts s.register b i h).first_named j l e)

    same_charge : (g : Grant) → charge_of t.register g ≡ charge_of s.register g
    same_charge g = ap (λ (ps : List Point). charge g.amount (days_of g) (point_at ps g.point).rate) k.points

    line_left : i < lines_of b → t.register.lines < line_count
    line_left l =
        omega (arith, k.lines, known.left, sum_le (line_used s b) 1 i (λ j _. cond_le (eqb (share_of s b j) 0) 0 1 1 (omega arith) (omega arith)))

    -- so there is room for it
    given_room : i < lines_of b → 0 < share_of s b i → Room t.register (given s b i)
    given_room l p =
        let h = share_passes s b i p in
        let a = account_before h in
        let c = ap (λ (x : Account). x.commitment) a in
        let g = ap (λ (x : Account). x.guarantee) a in
        record {
          limits = subst (λ (x : ℕ). LimitFacts x (given s b i)) (sym k.year) (given_limits i p);
          covered = omega (arith, c, g, same_charge (given s b i), charge_le i, (line_facts s.register b i h).covered);
          line = line_left l;
        }

  some_first : (i : ℕ) → i ≤ lines_of b → book_some s y b.point b.users (shares_of s b) i ≡ booked_lines s b i
  unfolding book_some booked_lines shares_of
  some_first zero l = refl
  some_first (suc i) l =
      ap₂ (λ (t : State) (x : ℕ). book_after t (grant_of s.register b i x)) (some_first i (omega (arith, l))) (list_at (lines_of b) (share_of s b) i (omega (arith, l)))
      ∙ book_is (booked_lines s b i) (given s b i) (given_room i (booked_lines s b i) (kept s b i) (omega (arith, l)))

  -- what the code does with the list of the shares is what the definition says
  pub booked_some : book_some s y b.point b.users (shares_of s b) (lines_of b) ≡ booked_lines s b (lines_of b)
  booked_some = some_first (lines_of b) (omega arith)

-- ---- what the first n lines do to a sound register
record Lowered (s : State) (b : Batch) (n : ℕ) (t : State) : Type 0 where
  day : (d : ℕ) → in_thermal_year s.register.year d ≡ true → free_on t b.point d + sum_below n (share_of s b) ≡ free_on s b.point d
  other_point : (p d : ℕ) → p < point_count → in_thermal_year s.register.year d ≡ true → (p ≡ b.point → ⊥) → free_on t p d ≡ free_on s p d
  other_place : (j : ℕ) → (entry_at b.point 0 ≤ j → j < entry_at b.point 0 + year_days s.register.year → ⊥) → get_or t.free j 0 ≡ get_or s.free j 0
  commitment : (i : ℕ) → i < n → line_number s.register b i ≡ 0 → Charged s b i t
  line : (i : ℕ) → i < n → 0 < share_of s b i → Written s b i t
  sound : Sound t

-- the first terms of a sum are no more than all of it
sum_first : (g : ℕ → ℕ) (k n : ℕ) → k ≤ n → sum_below k g ≤ sum_below n g
unfolding sum_below
sum_first g k zero l = let e : k ≡ 0 = omega arith in le_of_eq (ap (λ (j : ℕ). sum_below j g) e)
sum_first g k (suc n) l =
    ⊎_elim (λ (e : k ≡ suc n). le_of_eq (ap (λ (j : ℕ). sum_below j g) e))
    (λ (lt : k < suc n). omega (arith, sum_first g k n (omega (arith, lt))))
    (eq-or-lt_of_le l)

module _ (s : State) (b : Batch) (m n : ℕ) (sound : Sound s) (z : batch_number s b m n ≡ 0) where
  -- line i, after those before it
  module _ (i : ℕ) (t : State) (k : Kept s b i t) (w : Lowered s b i t) (l : i < lines_of b) where
    -- each day of the year still has the smallest free amount less the shares booked so far
    day_has : (d : ℕ) → in_thermal_year s.register.year d ≡ true → share_of s b i ≤ free_on t b.point d
    unfolding sum_below
    day_has d h = omega (arith, w.day d h, free_of_year_le s b.point d h, share_sum s b, sum_first (share_of s b) (suc i) (lines_of b) (omega (arith, l)))

    place_has : (j : ℕ) → j < days_of (given s b i) → share_of s b i ≤ get_or t.free (entry_of t.register.year b.point (given s b i).days.first + j) 0
    place_has j h =
        let d = thermal_first s.register.year + j in
        let first = ap (λ (x : ℕ). thermal_first x) k.year in
        let e : entry_of t.register.year b.point (given s b i).days.first + j ≡ entry_of t.register.year b.point (thermal_first s.register.year + j) = omega (arith, first) in
        rw e (day_has d (day_in_lem s.register.year d (known s b m n z).order.year (omega arith) (omega (arith, h))))

    bookable : 0 < share_of s b i → Bookable t (given s b i)
    bookable p =
        let h = share_passes s b i p in
        record {
          room = given_room s b m n z i t k l p;
          filed = k.on_file (user_of b i) ∙ (line_facts s.register b i h).filed;
          open_point_lem = rw k.points (known s b m n z).open_point_lem;
          month = refl;
          last = given_last s b i t k i;
          free = place_has;
        }

    -- nothing to book
    lowered_still : share_of s b i ≡ 0 → Lowered s b (suc i) t
    unfolding sum_below
    lowered_still none =
        let free : charge_of s.register (given s b i) ≡ 0 = rw (none, zero-mul, zero-mul) in
        record {
          day = λ d h. omega (arith, w.day d h, none);
          other_point = w.other_point;
          other_place = w.other_place;
          commitment = λ j lt h.
              ⊎_elim
              (λ (same : j ≡ i). subst (λ (x : ℕ). Charged s b x t) (sym same)
              (omega (arith, ap (λ (a : Account). a.commitment) (account_before s b m n z i t k (subst (λ (x : ℕ). line_number s.register b x ≡ 0) same h)), free)))
              (λ (less : j < i). w.commitment j less h)
              (eq-or-lt_of_le (omega (arith, lt)));
          line = λ j lt p.
              ⊎_elim
              (λ (same : j ≡ i). absurd (omega (arith, p, none, ap (share_of s b) same)))
              (λ (less : j < i). w.line j less p)
              (eq-or-lt_of_le (omega (arith, lt)));
          sound = w.sound;
        }

    -- the line of an earlier share stands before the one written now
    place_before : (j : ℕ) → j < i → 0 < share_of s b j → place_of s b j < t.register.lines
    unfolding sum_below
    place_before j less p = omega (arith, k.lines, one_used s b j p, sum_first (line_used s b) (suc j) i (omega (arith, less)))

    -- a grant booked
    lowered_booked : 0 < share_of s b i → Lowered s b (suc i) (booked t (given s b i))
    unfolding sum_below
    lowered_booked p =
        let h = share_passes s b i p in
        let done = booked_in t (given s b i) w.sound (bookable p) in
        record {
          day = λ d inside.
              let in_span = day_within s.register.year d inside in
              omega (arith, w.day d inside, done.day d in_span.from in_span.to);
          other_point = λ q d hq inside ne. done.other_day q d hq (rw k.year inside) (λ same _ _. ne same) ∙ w.other_point q d hq inside ne;
          other_place = λ j out.
              let first = ap (λ (x : ℕ). thermal_first x) k.year in
              done.other_place j (λ lo hi. out (omega (arith, lo, first)) (omega (arith, hi, first))) ∙ w.other_place j out;
          commitment = λ j lt ok.
              ⊎_elim
              (λ (same : j ≡ i). subst (λ (x : ℕ). Charged s b x (booked t (given s b i))) (sym same)
              (omega (arith, done.commitment, ap (λ (a : Account). a.commitment) (account_before s b m n z i t k h), same_charge s b m n z i t k (given s b i))))
              (λ (less : j < i). ap (λ (a : Account). a.commitment) (done.other_user (user_of b j) ((line_facts s.register b i h).first_named j less)) ∙ w.commitment j less ok)
              (eq-or-lt_of_le (omega (arith, lt)));
          line = λ j lt above.
              ⊎_elim
              (λ (same : j ≡ i). subst (λ (x : ℕ). Written s b x (booked t (given s b i))) (sym same)
              (subst (λ (x : ℕ). line_at (booked t (given s b i)).ledger x ≡ line_of (given s b i)) k.lines done.line))
              (λ (less : j < i). done.other_line (place_of s b j) (λ same. omega (arith, same, place_before j less above)) ∙ w.line j less above)
              (eq-or-lt_of_le (omega (arith, lt)));
          sound = done.sound;
        }

  lowered : (i : ℕ) → i ≤ lines_of b → Lowered s b i (booked_lines s b i)
  unfolding booked_lines sum_below
  lowered zero l =
      record {
        day = λ d h. omega arith;
        other_point = λ p d hp h ne. refl;
        other_place = λ j out. refl;
        commitment = λ i lt h. absurd (omega (arith, lt));
        line = λ i lt p. absurd (omega (arith, lt));
        sound = sound;
      }
  lowered (suc i) l =
      let t = booked_lines s b i in
      let w = lowered i (omega (arith, l)) in
      let here : i < lines_of b = omega (arith, l) in
      if_booked (Lowered s b (suc i)) t (given s b i) (lowered_still i t (kept s b i) w here) (lowered_booked i t (kept s b i) w here)

  -- each share above 0 can be booked after those before it
  pub bookable_line : (i : ℕ) → i < lines_of b → 0 < share_of s b i → Bookable (booked_lines s b i) (grant_of s.register b i (share_of s b i))
  bookable_line i l p = bookable i (booked_lines s b i) (kept s b i) (lowered i (omega (arith, l))) l p

-- ---- the batch as a whole
-- t is s with the batch booked, number by number
pub record BatchedIn (s : State) (b : Batch) (t : State) : Type 0 where
  pub year : t.register.year ≡ s.register.year
  pub points : t.register.points ≡ s.register.points
  -- the charge of each line that passes its questions joins the commitment of its user, and the account of any other user is
  -- unchanged
  pub commitment : (i : ℕ) → i < lines_of b → line_number s.register b i ≡ 0 → Charged s b i t
  pub guarantees : (u : ℕ) → (account_at t.register.accounts u).guarantee ≡ (account_at s.register.accounts u).guarantee
  pub on_file : (u : ℕ) → (account_at t.register.accounts u).on_file ≡ (account_at s.register.accounts u).on_file
  pub other_user : (u : ℕ) → NotServed s b (lines_of b) u → account_at t.register.accounts u ≡ account_at s.register.accounts u
  -- "The grant is taken from each of those days": the shares from each day of the year at the point, where "the rest stays free", and
  -- every other number of the table is unchanged
  pub day : (d : ℕ) → in_thermal_year s.register.year d ≡ true → free_on t b.point d + sum_below (lines_of b) (share_of s b) ≡ free_on s b.point d
  pub other_point : (p d : ℕ) → p < point_count → in_thermal_year s.register.year d ≡ true → (p ≡ b.point → ⊥) → free_on t p d ≡ free_on s p d
  pub other_place : (j : ℕ) → (entry_at b.point 0 ≤ j → j < entry_at b.point 0 + year_days s.register.year → ⊥) → get_or t.free j 0 ≡ get_or s.free j 0
  -- "one line is written" for each share above 0, after those that there were
  pub lines : t.register.lines ≡ s.register.lines + sum_below (lines_of b) (line_used s b)
  -- "Each share above 0 is booked, in the order of the lines": its line holds its grant, "an annual grant from 1 October", and ends
  -- with the year
  pub line : (i : ℕ) → i < lines_of b → 0 < share_of s b i → Written s b i t
  pub line_ends : (i : ℕ) → i < lines_of b → 0 < share_of s b i → line_last t.register.year (line_at t.ledger (place_of s b i)) ≡ thermal_last s.register.year
  -- and every other line is unchanged, before these and after them
  pub earlier_line : (i : ℕ) → i < s.register.lines → line_at t.ledger i ≡ line_at s.ledger i
  pub later_line : (j : ℕ) → t.register.lines ≤ j → line_at t.ledger j ≡ line_at s.ledger j
  -- a sound register stays sound
  pub sound : Sound t

pub batch_booked : (s : State) (b : Batch) (m n : ℕ) → Sound s → batch_number s b m n ≡ 0 → BatchedIn s b (batch_after s b m n)
batch_booked s b m n sound z =
    let t = booked_lines s b (lines_of b) in
    let k = kept s b (lines_of b) in
    let w = lowered s b m n sound z (lines_of b) (omega arith) in
    subst (BatchedIn s b) (sym (accepted_after s b m n z))
    (record {
      year = k.year;
      points = k.points;
      commitment = w.commitment;
      guarantees = k.guarantees;
      on_file = k.on_file;
      other_user = k.other_user;
      day = w.day;
      other_point = w.other_point;
      other_place = w.other_place;
      lines = k.lines;
      line = w.line;
      line_ends = λ i l p. ap (line_last t.register.year) (w.line i l p) ∙ given_last s b (lines_of b) t k i;
      earlier_line = k.earlier_line;
      later_line = k.later_line;
      sound = w.sound;
    })

-- every batch, whatever it is answered, leaves a sound register sound
pub batch_keeps : (s : State) (b : Batch) (m n : ℕ) → Sound s → Sound (batch_after s b m n)
unfolding batch_after
batch_keeps s b m n sound =
    leaves_either Sound (batch_number s b m n) (booked_lines s b (lines_of b)) s (λ z. (lowered s b m n sound z (lines_of b) (omega arith)).sound) sound
