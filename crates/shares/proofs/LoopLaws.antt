-- What the code's loops and steps rest on.
-- Assumes nothing.
use mathlib.Core.Path.{◌≡◌, refl, sym, ap, ap₂, ◌∙◌}
use mathlib.Core.Bool.{Bool, true, false, cond, ◌||◌, or-true, or-false}
use mathlib.Core.List.{List, []}
use Prim.Native.Nat.{ℕ, zero, suc, ◌+◌, ◌%◌, ◌^◌, ◌≤◌, ◌<◌}
use native.Mathlib.Numerals.{add-one}
use native.Mathlib.Decide.{ℕ_discrete}
use native.Mathlib.Omega.{arith}
use Rattle.std.specs.List.{zip, sum_by}
use Rattle.std.proofs.lemmas.List.{take_all}
use Rattle.std.proofs.lemmas.List.Sums.{sum_by_more}
use Rattle.std.proofs.lemmas.Slice.Zip.{length-zip, get_or-zip}
use lib.Dec.{ltb, eqb}
use lib.ListN.{get_or, set, take, length, replicate, get_or-replicate}
use lib.Seq.{get_or-set_same, get_or-set_other}
use borrow.Author.Tests.{ltb-true, eqb-true, eq-eqb, ne_eqb}
use Rattle.days.specs.Days.{between}
use Rattle.calendar.specs.ThermalYears.{is_thermal_year}
use Rattle.days.proofs.Ranges.{and_left, and_right, Within, within}
use Rattle.parts.specs.declared.registers.Register.{Register}
use Rattle.parts.specs.Limits.{user_count, row_length, most_amount}
use Rattle.amounts.specs.Ranges.{replaced, sum_below}
use Rattle.amounts.specs.Amounts.{year_days, days_of_year, entry_at}
use Rattle.parts.specs.Tests.{some_below}
use Rattle.parts.specs.Registers.{State, state, point_at, account_at}
use Rattle.amounts.proofs.RangeLaws.{replaced_none, replaced_length, replaced_out, replaced_same, step_from_start, sum_same, sum_le}
use Rattle.amounts.proofs.AmountLaws.{days_of_lem}
use Rattle.amounts.proofs.CalendarLaws.{year_facts}
use Rattle.parts.proofs.TestLaws.{some_none, some_more}
use Rattle.shares.specs.Batches.{Batch, lines_of, user_of, asked_of, line_fields, named_before, line_number}
use Rattle.shares.specs.Shares.{smallest, free_of_year, counted, counted_at, sum_asked, share_if, number_if, share_of, number_of_line, list_of}
use Rattle.shares.specs.ShareLines.{most_lines, shares_of, numbers_of, can_share, shares_listed, numbers_listed}
use Rattle.shares.specs.Steps.{number_for, Marked, Passing, counted_in, sum_in, share_in, number_in}
use Rattle.shares.proofs.ShareLaws.{line_facts, list_at, list_is}
use Rattle.shares.proofs.CanShareLaws.{FieldFacts, share_facts, shares_left_lem, numbers_left_lem}

-- ---- question 14: the marks of the users that lines have named
pub marked_none : (us : List ℕ) → Marked us 0 (replicate 256 false)
marked_none us u b = get_or-replicate 256 u false false b ∙ sym (some_none (λ j. eqb (get_or us j 0) u))

-- one more: line i's user stands at place k
module _ (us : List ℕ) (i k : ℕ) (marks : List Bool) (h : k ≡ get_or us i 0) (l : k < 256) (old : Marked us i marks) where
  abbrev names : ℕ → ℕ → Bool
  names u j = eqb (get_or us j 0) u

  more : (u : ℕ) (t : Bool) → names u i ≡ t → some_below (i + 1) (names u) ≡ (some_below i (names u) || t)
  more u t e = some_more (names u) i ∙ ap (λ (x : Bool). some_below i (names u) || x) e

  pub marked_more : length marks ≡ 256 → Marked us (i + 1) (set marks k true)
  marked_more long u b = go (ℕ_discrete u k)
    where
      go : Dec (u ≡ k) → get_or (set marks k true) u false ≡ some_below (i + 1) (names u)
      go (yes e) =
          ap (λ (j : ℕ). get_or (set marks k true) j false) e
          ∙ (get_or-set_same marks k true false (omega (arith, long, l))
          ∙ sym (more u true (eq-eqb (get_or us i 0) u (sym h ∙ sym e)) ∙ or-true (some_below i (names u))))
      go (no ne) =
          get_or-set_other marks k u true false ne
          ∙ (old u b ∙ sym (more u false (ne_eqb (get_or us i 0) u (λ e. ne (sym e ∙ sym h))) ∙ or-false (some_below i (names u))))

  -- the mark says whether an earlier line names him
  pub marked_named : get_or marks k false ≡ named_before us i
  unfolding named_before
  marked_named = old k l ∙ ap (λ (u : ℕ). some_below i (names u)) h

-- ---- question 2 of a line
pub line_user : (u a : ℕ) → line_fields u a ≡ true → u < user_count
line_user u a h = ltb-true u user_count (and_left (ltb u user_count) (between 1 most_amount a) h)

pub line_amount : (u a : ℕ) → line_fields u a ≡ true → Within 1 most_amount a
line_amount u a h = within 1 most_amount a (and_right (ltb u user_count) (between 1 most_amount a) h)

-- a year has no more days than a row of the table
pub days_most : (y n : ℕ) → is_thermal_year y ≡ true → n ≡ days_of_year y → n ≤ row_length
days_most y n h e = omega (arith, e, days_of_lem y h, (year_facts y h).most)

-- the number by a line's own questions is the line's where the account is the one that the line names; a user out of limits has 2 with
-- any
pub number_for_lem : (r : Register) (b : Batch) (i days : ℕ) (named : Bool) → is_thermal_year r.year ≡ true
    → days ≡ days_of_year r.year
    → named ≡ named_before b.users i
    → number_for days (account_at r.accounts (user_of b i % 64)) (point_at r.points b.point) (user_of b i) (asked_of b i) named ≡ line_number r b i
unfolding number_for line_number
number_for_lem r b i days named hy long marked = go (line_fields (user_of b i) (asked_of b i)) refl
  where
    go : (t : Bool) → line_fields (user_of b i) (asked_of b i) ≡ t
        → number_for days (account_at r.accounts (user_of b i % 64)) (point_at r.points b.point) (user_of b i) (asked_of b i) named ≡ line_number r b i
    go true e =
        let own : user_of b i % 64 ≡ user_of b i = omega (arith, line_user (user_of b i) (asked_of b i) e) in
        let year : days ≡ year_days r.year = long ∙ days_of_lem r.year hy in
        rw (own, year, marked)
    go false e = rw e

-- ---- what counts of a line
pub counted_le : (number a m : ℕ) → (number ≡ 0 → a ≤ m) → counted number a ≤ m
counted_le number a m h = go (eqb number 0) refl
  where
    go : (b : Bool) → eqb number 0 ≡ b → cond b a 0 ≤ m
    go true e = h (eqb-true number 0 e)
    go false e = omega arith

-- ---- the sum over the two lists is that of the definition, line by line
sum_first : (numbers amounts : List ℕ) (n : ℕ) → n ≤ length numbers → n ≤ length amounts
    → sum_by (λ (p : ℕ × ℕ). counted p.0 p.1) (take n (zip numbers amounts)) ≡ sum_below n (counted_in numbers amounts)
unfolding sum_below
sum_first numbers amounts zero p q = refl
sum_first numbers amounts (suc n) p q =
    let pairs = zip numbers amounts in
    let here : n < length pairs = omega (arith, length-zip numbers amounts) in
    let pair = get_or-zip numbers amounts n (0, 0) (omega arith) (omega arith) in
    ap (λ (k : ℕ). sum_by (λ (p : ℕ × ℕ). counted p.0 p.1) (take k pairs)) (sym (add-one n))
    ∙ sum_by_more (λ (p : ℕ × ℕ). counted p.0 p.1) pairs n (0, 0) here
    ∙ ap₂ ◌+◌ (sum_first numbers amounts n (omega arith) (omega arith)) (ap (λ (p : ℕ × ℕ). counted p.0 p.1) pair)

pub sum_in_lem : (numbers amounts : List ℕ) → length numbers ≡ length amounts → sum_in numbers amounts ≡ sum_below (length amounts) (counted_in numbers amounts)
sum_in_lem numbers amounts e =
    let pairs = zip numbers amounts in
    ap (sum_by (λ (p : ℕ × ℕ). counted p.0 p.1)) (sym (take_all (length amounts) pairs (omega (arith, length-zip numbers amounts))))
    ∙ sum_first numbers amounts (length amounts) (omega arith) (omega arith)

pub sum_fits : (numbers amounts : List ℕ) → length numbers ≡ length amounts → length amounts ≤ most_lines → Passing numbers amounts → sum_in numbers amounts < 2 ^ 64
sum_fits numbers amounts e few h =
    let each = sum_le (counted_in numbers amounts) most_amount (length amounts) (λ i l. counted_le (get_or numbers i 0) (get_or amounts i 0) most_amount (h i l)) in
    omega (arith, sum_in_lem numbers amounts e, each)

-- ---- a place of a list that the loop has not reached yet
pub not_reached : (t l : List ℕ) (i : ℕ) (g : ℕ → ℕ) → t ≡ replaced l 0 i g → get_or t i 0 ≡ get_or l i 0
not_reached t l i g e =
    ap (λ (k : List ℕ). get_or k i 0) e ∙ replaced_out l 0 i g 0 i (λ lo hi. omega arith)

-- a turn of the loop that writes shares and numbers
module _ (F S : ℕ) (numbers amounts : List ℕ) (i : ℕ) where
  pub share_step : (told : ℕ) (l shares : List ℕ) (share : ℕ) → told ≡ get_or numbers i 0 → shares ≡ replaced l 0 i (share_in F S numbers amounts)
      → share ≡ share_if F S told (get_or amounts i 0)
      → set shares i share ≡ replaced l 0 (i + 1) (share_in F S numbers amounts)
  share_step told l shares share e before here =
      step_from_start shares l i (share_in F S numbers amounts) share before (here ∙ ap (λ (v : ℕ). share_if F S v (get_or amounts i 0)) e)

  pub number_step : (told : ℕ) (l list : List ℕ) (share number : ℕ) → told ≡ get_or numbers i 0 → list ≡ replaced l 0 i (number_in F S numbers amounts)
      → share ≡ share_if F S told (get_or amounts i 0)
      → number ≡ number_if told share
      → set list i number ≡ replaced l 0 (i + 1) (number_in F S numbers amounts)
  number_step told l list share number e before here last =
      step_from_start list l i (number_in F S numbers amounts) number before
      (last ∙ ap₂ number_if e (here ∙ ap (λ (v : ℕ). share_if F S v (get_or amounts i 0)) e))

pub ruleset shares_here = (replaced_none, not_reached, share_step, number_step)

-- ---- a batch within limits: `told` has the numbers that the questions gave, written over a list of n places
module _ (s : State) (b : Batch) (m n : ℕ) (known : FieldFacts b m n) (list told : List ℕ) (long : length list ≡ n) (e : told ≡ replaced list 0 (lines_of b) (line_number s.register b)) where
  pub told_length : length told ≡ lines_of b
  told_length =
      ap length e ∙ replaced_length list 0 (lines_of b) (line_number s.register b) ∙ long ∙ known.numbers_length

  told_at : (i : ℕ) → i < lines_of b → get_or told i 0 ≡ line_number s.register b i
  told_at i l =
      ap (λ (k : List ℕ). get_or k i 0) (e ∙ list_is list (lines_of b) (line_number s.register b) (long ∙ known.numbers_length))
      ∙ list_at (lines_of b) (line_number s.register b) i l

  pub told_passing : Passing told b.asked
  told_passing i l z =
      let at = told_at i (omega (arith, l, known.asked_length)) in
      (line_facts s.register b i (sym at ∙ z)).asked.to

  -- F and S as the code finds them
  module _ (F S : ℕ) (f : F ≡ smallest s.free (entry_at b.point 0) (year_days s.register.year)) (sum : S ≡ sum_below (length b.asked) (counted_in told b.asked)) where
    is_sum : S ≡ sum_asked s.register b
    unfolding sum_asked
    is_sum =
        sum
        ∙ ap (λ (k : ℕ). sum_below k (counted_in told b.asked)) known.asked_length
        ∙ sum_same (counted_in told b.asked) (counted_at s.register b) (lines_of b) (λ i l. ap (λ (v : ℕ). counted v (asked_of b i)) (told_at i l))

    is_share : (i : ℕ) → i < lines_of b → share_in F S told b.asked i ≡ share_of s b i
    unfolding share_of free_of_year
    is_share i l = rw (f, is_sum, told_at i l)

    is_number : (i : ℕ) → i < lines_of b → number_in F S told b.asked i ≡ number_of_line s b i
    unfolding number_of_line
    is_number i l = ap₂ number_if (told_at i l) (is_share i l)

    -- a list of n places that is written over with one number for each line
    written : (old new : List ℕ) (g k : ℕ → ℕ) → length old ≡ lines_of b → ((i : ℕ) → i < lines_of b → g i ≡ k i) → new ≡ replaced old 0 (length b.asked) g → new ≡ list_of (lines_of b) k
    written old new g k l same w =
        w
        ∙ ap (λ (j : ℕ). replaced old 0 j g) known.asked_length
        ∙ replaced_same old 0 (lines_of b) g k same
        ∙ list_is old (lines_of b) k l

    pub shares_written : (old shares : List ℕ) → length old ≡ m → shares ≡ replaced old 0 (length b.asked) (share_in F S told b.asked) → shares ≡ shares_of s b
    unfolding shares_of
    shares_written old shares l w =
        written old shares (share_in F S told b.asked) (share_of s b) (l ∙ known.shares_length) is_share w

    pub numbers_written : (numbers : List ℕ) → numbers ≡ replaced told 0 (length b.asked) (number_in F S told b.asked) → numbers ≡ numbers_of s b
    unfolding numbers_of
    numbers_written numbers w =
        written told numbers (number_in F S told b.asked) (number_of_line s b) told_length is_number w

-- ---- a batch that can be shared out: `told` is the list of the numbers after the questions
module _ (r : Register) (f : List ℕ) (b : Batch) (shares numbers told : List ℕ) (able : can_share r f b (length shares) (length numbers) ≡ true)
    (e : told ≡ replaced numbers 0 (lines_of b) (line_number r b)) where
  fields : FieldFacts b (length shares) (length numbers)
  fields = (share_facts r f b (length shares) (length numbers) able).fields

  asked_told : (length told ≡ length b.asked) × Passing told b.asked
  asked_told =
      let s = state r f [] in (
        told_length s b (length shares) (length numbers) fields numbers told refl e ∙ sym fields.asked_length,
        told_passing s b (length shares) (length numbers) fields numbers told refl e,
      )

  -- the sum can be formed, and the shares be written
  pub sum_ready : sum_in told b.asked < 2 ^ 64
  sum_ready = sum_fits told b.asked asked_told.0 (omega (arith, fields.asked_length, fields.lines.to)) asked_told.1

  pub shares_ready : (length shares ≡ length b.asked) × ((length told ≡ length b.asked) × Passing told b.asked)
  shares_ready = (fields.shares_length ∙ sym fields.asked_length, asked_told)

  -- what is written is what the definition says
  module _ (F S : ℕ) (least : F ≡ smallest f (entry_at b.point 0) (year_days r.year)) (sum : S ≡ sum_in told b.asked) where
    pub shares_are : (new : List ℕ) → new ≡ replaced shares 0 (length b.asked) (share_in F S told b.asked) → new ≡ shares_listed r f b shares numbers
    shares_are new w =
        shares_written (state r f []) b (length shares) (length numbers) fields numbers told refl e F S least (sum ∙ sum_in_lem told b.asked asked_told.0) shares new refl w
        ∙ sym (shares_left_lem r f b shares numbers able [])

    pub numbers_are : (new : List ℕ) → new ≡ replaced told 0 (length b.asked) (number_in F S told b.asked) → new ≡ numbers_listed r f b shares numbers
    numbers_are new w =
        numbers_written (state r f []) b (length shares) (length numbers) fields numbers told refl e F S least (sum ∙ sum_in_lem told b.asked asked_told.0) new w
        ∙ sym (numbers_left_lem r f b shares numbers able [])
