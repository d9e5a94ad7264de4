-- The lines that are gathered sum to what all lines do.
-- Assumes nothing.
use mathlib.Core.Path.{◌≡◌, refl, sym, ap, ap₂, ◌∙◌}
use mathlib.Core.Bool.{Bool, true, false, cond, not, ◌&&◌, true≢false}
use mathlib.Core.List.{List}
use Prim.Native.Nat.{ℕ, ◌+◌, ◌/◌, ◌≤◌, ◌<◌}
use native.Mathlib.Nat.{add-zero}
use native.Mathlib.Omega.{arith}
use borrow.Author.Tests.{leb-true, le-leb, le-ltb}
use lib.Dec.{leb}
use lib.IntN.{ℤ, pos, ◌+ℤ◌, +ℤ_idl, +ℤ_idr, +ℤ_assoc, +ℤ_comm}
use lib.ListN.{set, length}
use lib.Seq.{get_or-set_same, get_or-set_other}
use Rattle.days.specs.Days.{last_day, between}
use Rattle.calendar.specs.ThermalYears.{is_thermal_year, in_thermal_year, thermal_last}
use Rattle.calendar.specs.Deadlines.{next_first}
use Rattle.days.proofs.Ranges.{and_left, and_right, within, is_between}
use Rattle.std.proofs.lemmas.Bool.{and_from as both}
use Rattle.days.proofs.DateLaws.{month_least, month_next, month_in}
use Rattle.calendar.proofs.ThermalYearLaws.{thermal_next}
use Rattle.calendar.proofs.DeadlineLaws.{next_least}
use Rattle.parts.specs.Limits.{line_length}
use Rattle.ledger.specs.declared.ledger.Line.{Line}
use Rattle.ledger.specs.Ledger.{line_at, line_last}
use Rattle.amounts.proofs.CalendarLaws.{thermal_year, day_within, day_year}
use Rattle.holdings.specs.declared.holdings.Holding.{Holding}
use Rattle.holdings.specs.declared.gathering.GatheredLine.{GatheredLine}
use Rattle.calendar.specs.declared.thermal_years.Span.{Span}
use Rattle.holdings.specs.Holdings.{signed_sum, is_his, covers_day, part_of, part_in}
use Rattle.holdings.specs.Steps.{bounds_of, end_of, is_gathered, gathered_line, part_on, gathered_part, part_throughout, counts_on_some, places}
use Rattle.holdings.proofs.SumLaws.{sum_more, sum_same}

-- a day between the bounds of a year is a day of it
pub bounds_in : (y d : ℕ) → between (bounds_of y).first (bounds_of y).last d ≡ in_thermal_year y d
bounds_in y d = go (is_thermal_year y) refl
  where
    none : (u : Bool) → between 1 0 d ≡ u → u ≡ false
    none true h = let w = within 1 0 d h in absurd (omega (arith, w.from, w.to))
    none false h = refl

    go : (t : Bool) → is_thermal_year y ≡ t → between (bounds_of y).first (bounds_of y).last d ≡ in_thermal_year y d
    go true e = rw e
    go false e = rw e (none (between 1 0 d) refl)

-- day 0 is in no thermal year, so a line that is not there, which is one of zeros, adds nothing
no_day_zero : (y : ℕ) → in_thermal_year y 0 ≡ false
no_day_zero y = go (in_thermal_year y 0) refl
  where
    go : (t : Bool) → in_thermal_year y 0 ≡ t → t ≡ false
    go true e = absurd (omega (arith, (day_within y 0 e).from, month_next y 9 (omega arith), month_least y 9))
    go false e = refl

pub missing_part : (y : ℕ) (ls : List ℕ) (u p d i : ℕ) → length ls / line_length ≤ i → part_in y ls u p d i ≡ pos 0
unfolding line_at
missing_part y ls u p d i h = rw (le-ltb i (length ls / line_length) h, no_day_zero y) refl

-- the month of such a day ends in the calendar
pub month_inside : (y d : ℕ) → in_thermal_year y d ≡ true → next_first d ≤ last_day
month_inside y d h =
    let w = thermal_year y (day_year y d h) in
    let b = day_within y d h in
    let october = next_least d (y + 1) 10 (omega (arith, w.from)) (record { from = omega arith; to = omega arith }) (omega (arith, b.to, thermal_next y)) in
    omega (arith, october, month_least (y + 1) 10, month_in (y + 1) 10 (record { year = record { from = omega (arith, w.from); to = omega (arith, w.to) }; month = record { from = omega arith; to = omega arith } }))

-- a line that is gathered is of the year
module _ (y : ℕ) (h : Holding) (b : Span) (l : Line) (eb : b ≡ bounds_of y) where
  abbrev his : Bool
  his = is_his h.user h.point l

  of_year : between b.first b.last l.first ≡ in_thermal_year y l.first
  of_year = ap (λ (x : Span). between x.first x.last l.first) eb ∙ bounds_in y l.first

  gathered_year : is_gathered h b l ≡ true → in_thermal_year y l.first ≡ true
  gathered_year g = sym of_year ∙ and_right his (between b.first b.last l.first) g

  pub gathered_inside : is_gathered h b l ≡ true → next_first l.first ≤ last_day
  gathered_inside g = month_inside y l.first (gathered_year g)

  -- the year ends with the last of its bounds, so the line's last day is the definition's
  year_end : is_thermal_year y ≡ true → b.last ≡ thermal_last y
  year_end t = ap (λ (x : Span). x.last) eb ∙ rw t

  same_end : in_thermal_year y l.first ≡ true → end_of b.last l ≡ line_last y l
  unfolding line_last
  same_end t = ap (λ (n : ℕ). end_of n l) (year_end (day_year y l.first t))

  -- what it adds on a day is what is kept of it
  pub gathered_part_lem : (d : ℕ) → is_gathered h b l ≡ true → cond (in_thermal_year y l.first) (part_of y h.user h.point d l) (pos 0) ≡ part_on d (gathered_line b.last l)
  gathered_part_lem d g =
      rw (gathered_year g, and_left his (between b.first b.last l.first) g) (ap (λ (n : ℕ). cond (between l.first n d) l.amount (pos 0)) (sym (same_end (gathered_year g))))

  -- and one that is not gathered adds nothing
  pub other_part : (d : ℕ) → is_gathered h b l ≡ false → cond (in_thermal_year y l.first) (part_of y h.user h.point d l) (pos 0) ≡ pos 0
  other_part d g = go his refl (in_thermal_year y l.first) refl
    where
      clash : his ≡ true → in_thermal_year y l.first ≡ true → true ≡ false
      clash p q = sym (ap₂ ◌&&◌ p (of_year ∙ q)) ∙ g

      go : (t : Bool) → his ≡ t → (u : Bool) → in_thermal_year y l.first ≡ u → cond u (cond (t && covers_day y d l) l.amount (pos 0)) (pos 0) ≡ pos 0
      go t p false q = refl
      go false p true q = refl
      go true p true q = absurd (true≢false (clash p q))

-- ---- a line and the days from f to l
module _ (a b f l d : ℕ) (from : f ≤ d) (to : d ≤ l) where
  abbrev throughout : Bool
  throughout = leb a f && leb l b

  abbrev touching : Bool
  touching = leb a l && leb f b

  inside : throughout ≡ true → between a b d ≡ true
  inside t =
      let p = leb-true a f (and_left (leb a f) (leb l b) t) in
      let q = leb-true l b (and_right (leb a f) (leb l b) t) in
      is_between a b d (omega (arith, p)) (omega (arith, q))

  outside : touching ≡ false → between a b d ≡ false
  outside u = go (between a b d) refl
    where
      go : (t : Bool) → between a b d ≡ t → t ≡ false
      go false e = refl
      go true e =
          let w = within a b d e in
          sym (both (leb a l) (leb f b) (le-leb a l (omega (arith, w.from))) (le-leb f b (omega (arith, w.to)))) ∙ u

  -- what it adds on a day is what it adds throughout, and where it takes a place what it adds on that day
  split : (z : ℤ) → cond (between a b d) z (pos 0) ≡ cond throughout z (pos 0) +ℤ cond (touching && not throughout) (cond (between a b d) z (pos 0)) (pos 0)
  split z = go throughout refl touching refl
    where
      go : (t : Bool) → throughout ≡ t → (u : Bool) → touching ≡ u → cond (between a b d) z (pos 0) ≡ cond t z (pos 0) +ℤ cond (u && not t) (cond (between a b d) z (pos 0)) (pos 0)
      go true p true q = rw (inside p) (sym (+ℤ_idr z))
      go true p false q = rw (inside p) (sym (+ℤ_idr z))
      go false p true q = sym (+ℤ_idl _)
      go false p false q = rw (outside q)

-- sums of two sums
swapped : (a s t p : ℤ) → (a +ℤ s) +ℤ (t +ℤ p) ≡ (a +ℤ t) +ℤ (s +ℤ p)
swapped a s t p =
    +ℤ_assoc a s (t +ℤ p)
    ∙ ap (λ (z : ℤ). a +ℤ z) (sym (+ℤ_assoc s t p) ∙ ap (λ (z : ℤ). z +ℤ p) (+ℤ_comm s t) ∙ +ℤ_assoc t s p)
    ∙ sym (+ℤ_assoc a t (s +ℤ p))

-- ---- one more line
module _ (y : ℕ) (ls : List ℕ) (h : Holding) (i : ℕ) (b : Span) (l : Line) (eb : b ≡ bounds_of y) (el : l ≡ line_at ls i)
    (firsts lasts : List ℕ) (amounts : List ℤ) (n : ℕ) (z : ℤ)
    (sums : (d : ℕ) → h.first ≤ d → d ≤ h.last → signed_sum i (part_in y ls h.user h.point d) ≡ z +ℤ signed_sum n (gathered_part firsts lasts amounts d)) where
  part : (d : ℕ) → part_in y ls h.user h.point d i ≡ cond (in_thermal_year y l.first) (part_of y h.user h.point d l) (pos 0)
  part d = ap (λ (x : Line). cond (in_thermal_year y x.first) (part_of y h.user h.point d x) (pos 0)) (sym el)

  -- it is gathered
  module _ (c : GatheredLine) (room : (n < length firsts) × (n < length lasts) × (n < length amounts)) where
    put : (d k : ℕ) → ℤ
    put d k = gathered_part (set firsts n c.span.first) (set lasts n c.span.last) (set amounts n c.amount) d k

    put_other : (d k : ℕ) → k < n → put d k ≡ gathered_part firsts lasts amounts d k
    unfolding put
    put_other d k m =
        let e = get_or-set_other firsts n k c.span.first 0 (λ q. omega arith) in
        let f = get_or-set_other lasts n k c.span.last 0 (λ q. omega arith) in
        let g = get_or-set_other amounts n k c.amount (pos 0) (λ q. omega arith) in
        rw (e, f, g)

    put_same : (d : ℕ) → put d n ≡ part_on d c
    unfolding put
    put_same d =
        let e = get_or-set_same firsts n c.span.first 0 room.0 in
        let f = get_or-set_same lasts n c.span.last 0 room.1 in
        let g = get_or-set_same amounts n c.amount (pos 0) room.2 in
        rw (e, f, g)

    -- it takes a place or none
    put_sum : (d : ℕ) (t : Bool) → signed_sum (n + cond t 1 0) (put d) ≡ signed_sum n (gathered_part firsts lasts amounts d) +ℤ cond t (part_on d c) (pos 0)
    put_sum d true =
        sum_more n (put d)
        ∙ ap₂ ◌+ℤ◌ (sum_same n (put d) (gathered_part firsts lasts amounts d) (put_other d)) (put_same d)
    put_sum d false =
        ap (λ (k : ℕ). signed_sum k (put d)) (add-zero n)
        ∙ sum_same n (put d) (gathered_part firsts lasts amounts d) (put_other d)
        ∙ sym (+ℤ_idr _)

    pub one_gathered : (firsts' lasts' : List ℕ) (amounts' : List ℤ) (n' : ℕ) (z' : ℤ) → is_gathered h b l ≡ true → c ≡ gathered_line b.last l
        → firsts' ≡ set firsts n c.span.first → lasts' ≡ set lasts n c.span.last → amounts' ≡ set amounts n c.amount → n' ≡ n + places h c → z' ≡ z +ℤ part_throughout h c
        → (d : ℕ) → h.first ≤ d → d ≤ h.last → signed_sum (i + 1) (part_in y ls h.user h.point d) ≡ z' +ℤ signed_sum n' (gathered_part firsts' lasts' amounts' d)
    unfolding put
    one_gathered firsts' lasts' amounts' n' z' g ec ef eg ea en ez d from to =
        rw (ef, eg, ea, en, ez)
        (sum_more i (part_in y ls h.user h.point d)
        ∙ ap₂ ◌+ℤ◌ (sums d from to) (part d ∙ gathered_part_lem y h b l eb d g ∙ ap (part_on d) (sym ec) ∙ split c.span.first c.span.last h.first h.last d from to c.amount)
        ∙ swapped z (signed_sum n (gathered_part firsts lasts amounts d)) (part_throughout h c) (cond (counts_on_some h c) (part_on d c) (pos 0))
        ∙ ap (λ (x : ℤ). (z +ℤ part_throughout h c) +ℤ x) (sym (put_sum d (counts_on_some h c))))

  -- it is left out
  pub one_left : is_gathered h b l ≡ false
      → (d : ℕ) → h.first ≤ d → d ≤ h.last → signed_sum (i + 1) (part_in y ls h.user h.point d) ≡ z +ℤ signed_sum n (gathered_part firsts lasts amounts d)
  one_left g d from to =
      sum_more i (part_in y ls h.user h.point d)
      ∙ ap₂ ◌+ℤ◌ (sums d from to) (part d ∙ other_part y h b l eb d g)
      ∙ +ℤ_idr _
