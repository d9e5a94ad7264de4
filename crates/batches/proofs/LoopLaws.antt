-- What the code's loops and steps rest on.
-- Assumes nothing.
use mathlib.Core.Path.{◌≡◌, refl, sym, ap, ◌∙◌}
use mathlib.Core.Bool.{Bool, true, false}
use mathlib.Core.List.{List}
use Prim.Native.Nat.{ℕ, zero, suc, ◌+◌, ◌%◌, ◌≤◌, ◌<◌}
use native.Mathlib.Numerals.{add-one}
use native.Mathlib.Omega.{arith}
use lib.ListN.{get_or, length}
use Rattle.std.specs.Prelude.{Some}
use Rattle.calendar.specs.ThermalYears.{span, is_thermal_year, thermal_first, thermal_last}
use Rattle.calendar.specs.declared.thermal_years.Span.{Span}
use Rattle.calendar.specs.Answers.{year_answer}
use Rattle.calendar.proofs.SpanLaws.{year_span}
use Rattle.std.proofs.lemmas.Bool.{and_from as both}
use Rattle.parts.specs.declared.points.Point.{Point}
use Rattle.parts.specs.declared.accounts.Account.{Account}
use Rattle.parts.specs.declared.registers.Register.{Register}
use Rattle.parts.specs.Limits.{point_count, most_amount}
use Rattle.amounts.specs.Amounts.{year_days, days_of_year, entry_at, entry_of, taken}
use Rattle.parts.specs.Registers.{State, state, point_at, account_at, with_account, with_lines}
use Rattle.amounts.proofs.AmountLaws.{days_of_lem, taken_none, taken_twice}
use Rattle.amounts.proofs.CalendarLaws.{year_facts}
use Rattle.conferral.specs.declared.bookings.Grant.{Grant}
use Rattle.conferral.specs.Bookings.{days_of, annual_of, book_after}
use Rattle.conferral.specs.Postings.{room_for, Posting, posting, post_after}
use Rattle.conferral.proofs.PostingLaws.{own_user, room_facts, posted_booked, after_year, after_points}
use Rattle.spans.specs.Spans.{span_fits, span_in_year}
use Rattle.spans.proofs.SpanLaws.{span_fits_lem}
use Rattle.shares.specs.Batches.{Batch, lines_of, grant_for}
use Rattle.shares.specs.ShareLines.{most_lines, shares_of, numbers_of, shares_listed, numbers_listed}
use Rattle.shares.proofs.CanShareLaws.{shares_left_lem, numbers_left_lem, shares_long}
use Rattle.batches.specs.ConferBatch.{batch_number, booked_lines}
use Rattle.batches.specs.Steps.{book_some}
use Rattle.batches.proofs.AnswerLaws.{facts, can_share_lem}
use Rattle.batches.proofs.BookedLaws.{booked_some}

-- ---- the bookings: one more
pub book_more : (s t v : State) (y p : ℕ) (us shares : List ℕ) (i : ℕ) (g : Grant) → t ≡ book_some s y p us shares i
    → g ≡ grant_for y (get_or us i 0) p (get_or shares i 0)
    → v ≡ book_after t g
    → v ≡ book_some s y p us shares (i + 1)
unfolding book_some
book_more s t v y p us shares i g before grant after =
    after
    ∙ ap (book_after t) grant
    ∙ ap (λ (x : State). book_after x (grant_for y (get_or us i 0) p (get_or shares i 0))) before
    ∙ sym (ap (book_some s y p us shares) (add-one i))

-- they keep the year and the points
pub some_year : (s : State) (y p : ℕ) (us shares : List ℕ) (n : ℕ) → (book_some s y p us shares n).register.year ≡ s.register.year
unfolding book_some
some_year s y p us shares zero = refl
some_year s y p us shares (suc n) =
    after_year (book_some s y p us shares n) (grant_for y (get_or us n 0) p (get_or shares n 0)) ∙ some_year s y p us shares n

pub some_points : (s : State) (y p : ℕ) (us shares : List ℕ) (n : ℕ) → (book_some s y p us shares n).register.points ≡ s.register.points
unfolding book_some
some_points s y p us shares zero = refl
some_points s y p us shares (suc n) =
    after_points (book_some s y p us shares n) (grant_for y (get_or us n 0) p (get_or shares n 0)) ∙ some_points s y p us shares n

-- the whole year is a span in it
whole_span : (y : ℕ) → is_thermal_year y ≡ true → span_in_year y (thermal_first y) (thermal_last y) ≡ true
whole_span y h =
    let w = year_facts y h in
    both (is_thermal_year y) (span_fits y (thermal_first y) (thermal_last y)) h
    (span_fits_lem y (thermal_first y) (thermal_last y) (record { begins = omega arith; ordered = omega (arith, w.ordered); ends = omega arith }))

-- one more, by parts: the account and the lines that `post` left, put in their places, and the amount joined to those that are to be taken
-- from the days of the year
pub post_more : (r s : Register) (f₀ l₀ l : List ℕ) (p : ℕ) (us shares : List ℕ) (i sum : ℕ) (g : Grant) (x : Account) (n amount : ℕ) (l' : List ℕ) → is_thermal_year r.year ≡ true → p < point_count
    → state s (taken f₀ (entry_at p 0) (year_days r.year) sum) l ≡ book_some (state r f₀ l₀) r.year p us shares i
    → g ≡ grant_for r.year (get_or us i 0) p (get_or shares i 0)
    → posting x n amount l' ≡ post_after s.lines (account_at s.accounts (g.user % 64)) (point_at r.points p) g l
    → state (with_lines (with_account s (g.user % 64) x) n) (taken f₀ (entry_at p 0) (year_days r.year) (sum + amount)) l' ≡ book_some (state r f₀ l₀) r.year p us shares (i + 1)
post_more r s f₀ l₀ l p us shares i sum g x n amount l' hy hp before grant e =
    let start = state r f₀ l₀ in
    let f = taken f₀ (entry_at p 0) (year_days r.year) sum in
    let year : s.year ≡ r.year = ap (λ (t : State). t.register.year) before ∙ some_year start r.year p us shares i in
    let points : s.points ≡ r.points = ap (λ (t : State). t.register.points) before ∙ some_points start r.year p us shares i in
    let placed : g.point ≡ p = ap (λ (z : Grant). z.point) grant in
    let whole : g.days ≡ span (thermal_first r.year) (thermal_last r.year) = ap (λ (z : Grant). z.days) grant in
    let fits : span_in_year s.year g.days.first g.days.last ≡ true = rw (year, whole) (whole_span r.year hy) in
    let place : entry_of s.year g.point g.days.first ≡ entry_at p 0 = rw (year, whole, placed) (omega arith) in
    let days : days_of g ≡ year_days r.year = rw whole in
    let parts = posted_booked s g fits (g.user % 64) (point_at r.points p) (own_user g) (λ h. rw (points, placed)) f l (posting x n amount l') e in
    let joined : state (with_lines (with_account s (g.user % 64) x) n) (taken f₀ (entry_at p 0) (year_days r.year) (sum + amount)) l'
    ≡ state (with_lines (with_account s (g.user % 64) x) n) (taken f (entry_of s.year g.point g.days.first) (days_of g) amount) l' =
    rw (place, days, taken_twice f₀ (entry_at p 0) (year_days r.year) sum amount) in
    book_more start (state s f l) (state (with_lines (with_account s (g.user % 64) x) n) (taken f₀ (entry_at p 0) (year_days r.year) (sum + amount)) l') r.year p us shares i g before grant
    (joined ∙ parts)

-- none yet
pub none_booked : (r : Register) (f l : List ℕ) (p : ℕ) (us shares : List ℕ) → state r (taken f (entry_at p 0) (year_days r.year) 0) l ≡ book_some (state r f l) r.year p us shares 0
unfolding book_some
none_booked r f l p us shares = ap (λ (g : List ℕ). state r g l) (taken_none f (entry_at p 0) (year_days r.year))

-- all: the sum is taken
pub sum_booked : (r s : Register) (f l f' l' : List ℕ) (p : ℕ) (us shares : List ℕ) (n days sum : ℕ) → is_thermal_year r.year ≡ true → days ≡ days_of_year r.year
    → f' ≡ taken f (entry_at p 0) days sum
    → state s (taken f (entry_at p 0) (year_days r.year) sum) l' ≡ book_some (state r f l) r.year p us shares n
    → state s f' l' ≡ book_some (state r f l) r.year p us shares n
sum_booked r s f l f' l' p us shares n days sum hy long so booked =
    rw (so, long, days_of_lem r.year hy) booked

-- the annual grant of a share on the days of the year is that of its line
pub share_grant : (y u p a : ℕ) (days : Span) (g : Grant) → year_answer y ≡ Some days → g ≡ annual_of u p days a → g ≡ grant_for y u p a
share_grant y u p a days g h e = let w = year_span y days h in rw (sym w.begins, sym w.ends) e

-- and so is a line's grant with another user and amount
pub grant_to_lem : (y p u a : ℕ) (whole g : Grant) → whole ≡ grant_for y 0 p 0
    → g ≡ record { user = u; point = whole.point; kind = whole.kind; days = whole.days; amount = a } → g ≡ grant_for y u p a
grant_to_lem y p u a whole g w e =
    e ∙ ap (λ (x : Grant). record { user = u; point = x.point; kind = x.kind; days = x.days; amount = a }) w

-- what is booked is at most the limit
pub post_most : (n : ℕ) (x y : Account) (p : Point) (g : Grant) (l l' : List ℕ) (m amount : ℕ) → posting y m amount l' ≡ post_after n x p g l → amount ≤ most_amount
unfolding post_after
post_most n x y p g l l' m amount e = go (room_for n x p g) refl
  where
    go : (t : Bool) → room_for n x p g ≡ t → amount ≤ most_amount
    go true h =
        let a : amount ≡ g.amount = ap (λ (z : Posting). z.amount) e ∙ rw h in
        omega (arith, a, (room_facts n x p g h).amount)
    go false h =
        let a : amount ≡ 0 = ap (λ (z : Posting). z.amount) e ∙ rw h in
        omega (arith, a)

-- ---- the shares and the numbers of an accepted batch
module _ (r : Register) (f l : List ℕ) (b : Batch) (shares numbers : List ℕ) (h : batch_number (state r f l) b (length shares) (length numbers) ≡ 0) (list : List ℕ) where
  pub shares_told : list ≡ shares_listed r f b shares numbers → list ≡ shares_of (state r f l) b
  shares_told e = e ∙ shares_left_lem r f b shares numbers (can_share_lem (state r f l) b (length shares) (length numbers) h) l

  pub numbers_told : list ≡ numbers_listed r f b shares numbers → list ≡ numbers_of (state r f l) b
  numbers_told e = e ∙ numbers_left_lem r f b shares numbers (can_share_lem (state r f l) b (length shares) (length numbers) h) l

-- the bookings of the list of the shares are those of the definition
pub shares_booked : (s t : State) (b : Batch) (m n : ℕ) (shares : List ℕ) → batch_number s b m n ≡ 0 → shares ≡ shares_of s b
    → t ≡ book_some s s.register.year b.point b.users shares (lines_of b)
    → t ≡ booked_lines s b (lines_of b)
shares_booked s t b m n shares h e w =
    w
    ∙ ap (λ (l : List ℕ). book_some s s.register.year b.point b.users l (lines_of b)) e
    ∙ booked_some s b m n h

-- what `book_shares` needs of the shares
pub shares_ready : (s : State) (b : Batch) (m n : ℕ) (shares : List ℕ) → batch_number s b m n ≡ 0 → shares ≡ shares_of s b
    → (is_thermal_year s.register.year ≡ true) × ((b.point < point_count) × ((length shares ≡ lines_of b) × (lines_of b ≤ most_lines)))
shares_ready s b m n shares h e =
    let known = facts s b m n h in
    (known.order.year, (known.point, (ap length e ∙ shares_long s b, known.lines.to)))

-- the same of the list that the code fills: it is one of the shares, what books them may read it, and what it leaves is the batch's
module _ (r : Register) (f l : List ℕ) (b : Batch) (shares numbers : List ℕ) (h : batch_number (state r f l) b (length shares) (length numbers) ≡ 0) (list : List ℕ) (e : list ≡ shares_listed r f b shares numbers) where
  pub listed_ready : (is_thermal_year r.year ≡ true) × ((b.point < point_count) × ((length list ≡ lines_of b) × (lines_of b ≤ most_lines)))
  listed_ready = shares_ready (state r f l) b _ _ list h (shares_told r f l b shares numbers h list e)

  pub listed_booked : (t : State) → t ≡ book_some (state r f l) r.year b.point b.users list (lines_of b) → t ≡ booked_lines (state r f l) b (lines_of b)
  listed_booked t w = shares_booked (state r f l) t b _ _ list h (shares_told r f l b shares numbers h list e) w
