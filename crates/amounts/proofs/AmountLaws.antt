-- Laws of the free amounts.
-- Assumes nothing.
use mathlib.Core.Path.{◌≡◌, sym, ap, ap₂, ◌∙◌, subst}
use mathlib.Core.Bool.{Bool, true, false, cond}
use mathlib.Core.List.{List}
use Prim.Native.Nat.{ℕ, ◌+◌, ◌*◌, ◌-◌, ◌/◌, ◌%◌, ◌≤◌, ◌<◌, min}
use native.Mathlib.Nat.{zero-add}
use native.Mathlib.Decide.{dec_le, dec_lt}
use native.Mathlib.Omega.{arith}
use lib.Dec.{ltb}
use lib.ListN.{get_or, length}
use lib.Seq.{ext_get_or}
use borrow.Author.Tests.{lt-ltb, le-ltb}
use Rattle.std.specs.Prelude.{Some, None}
use Rattle.days.specs.Days.{between}
use Rattle.calendar.specs.declared.thermal_years.Span.{Span}
use Rattle.calendar.specs.ThermalYears.{is_thermal_year, in_thermal_year}
use Rattle.calendar.specs.Answers.{year_answer}
use Rattle.calendar.proofs.SpanLaws.{year_span, no_year}
use Rattle.parts.specs.declared.points.Point.{Point}
use Rattle.parts.specs.Limits.{point_count, row_length, table_length}
use Rattle.amounts.specs.Ranges.{replaced}
use Rattle.parts.specs.Registers.{point_at}
use Rattle.amounts.specs.Amounts.{span_days, year_days, days_of_year, entry_at, entry_of, entry_in, capacity, less_by, taken, freed_row, capacity_at, freed_table}
use Rattle.amounts.proofs.CalendarLaws.{year_facts, in_year, in_no_year}
use Rattle.amounts.proofs.RangeLaws.{replaced_join, replaced_same, replaced_length, replaced_in, replaced_out}

-- the days of a thermal year within limits
pub days_of_lem : (y : ℕ) → is_thermal_year y ≡ true → days_of_year y ≡ year_days y
unfolding days_of_year
days_of_lem y h = rw h

pub no_days : (y : ℕ) → is_thermal_year y ≡ false → days_of_year y ≡ 0
unfolding days_of_year
no_days y h = rw h

-- the days of a thermal year, as the calendar answers its span
pub record DaysFacts (y : ℕ) (s : Span) : Type 0 where
  pub last : s.last ≤ 36524
  pub ordered : s.first ≤ s.last
  pub days : s.last + 1 - s.first ≡ days_of_year y

pub days_facts : (y : ℕ) (s : Span) → year_answer y ≡ Some s → DaysFacts y s
days_facts y s h =
    let w = year_span y s h in
    let f = year_facts y w.year in
    record {
      last = omega (arith, w.ends, f.last);
      ordered = omega (arith, w.begins, w.ends, f.ordered);
      days = ap₂ span_days w.begins w.ends ∙ sym (days_of_lem y w.year);
    }

-- each of them, by name
pub year_ends : (y : ℕ) (s : Span) → year_answer y ≡ Some s → s.last ≤ 36524
year_ends y s h = (days_facts y s h).last

pub year_ordered : (y : ℕ) (s : Span) → year_answer y ≡ Some s → s.first ≤ s.last
year_ordered y s h = (days_facts y s h).ordered

pub year_counted : (y : ℕ) (s : Span) → year_answer y ≡ Some s → days_of_year y ≡ s.last + 1 - s.first
year_counted y s h = sym (days_facts y s h).days

pub no_year_days : (y : ℕ) → year_answer y ≡ None → days_of_year y ≡ 0
no_year_days y h = no_days y (no_year y h)

pub ruleset days_of_years = (year_ends, year_ordered, year_counted, no_year_days)

-- the entry of a day of the year
pub entry_in_lem : (y p d : ℕ) → in_thermal_year y d ≡ true → entry_in y p d ≡ entry_of y p d
unfolding entry_in
entry_in_lem y p d h = rw h

pub entry_out : (y p d : ℕ) → in_thermal_year y d ≡ false → entry_in y p d ≡ table_length
unfolding entry_in
entry_out y p d h = rw h

-- the same, as the calendar answers the year's span
pub entry_within : (y p d : ℕ) (s : Span) → year_answer y ≡ Some s → between s.first s.last d ≡ true → entry_in y p d ≡ entry_at p (d - s.first)
entry_within y p d s h t =
    let w = year_span y s h in
    entry_in_lem y p d (in_year y s.first s.last d true w t) ∙ sym (ap (λ (n : ℕ). entry_at p (d - n)) w.begins)

pub entry_beyond : (y p d : ℕ) (s : Span) → year_answer y ≡ Some s → between s.first s.last d ≡ false → entry_in y p d ≡ table_length
entry_beyond y p d s h t = entry_out y p d (in_year y s.first s.last d false (year_span y s h) t)

pub entry_nowhere : (y p d : ℕ) → year_answer y ≡ None → entry_in y p d ≡ table_length
entry_nowhere y p d h = entry_out y p d (in_no_year y d (no_year y h))

pub ruleset entries = (entry_within, entry_beyond, entry_nowhere)

-- a day of the year, and one after its end
pub capacity_in : (days : ℕ) (p : Point) (k : ℕ) → k < days → capacity days p k ≡ p.total
capacity_in days p k h = rw (lt-ltb k days h)

pub capacity_out : (days : ℕ) (p : Point) (k : ℕ) → days ≤ k → capacity days p k ≡ 0
capacity_out days p k h = rw (le-ltb k days h)

-- at most the total
pub capacity_le : (days : ℕ) (p : Point) (k : ℕ) → capacity days p k ≤ p.total
capacity_le days p k = go (ltb k days)
  where
    go : (b : Bool) → cond b p.total 0 ≤ p.total
    go true = omega arith
    go false = omega arith

-- a row in two runs: the days of the year, and the places after its end
pub row_of_runs : (t u f : List ℕ) (i days n : ℕ) (p : Point) → n ≡ min days row_length → t ≡ replaced f (row_length * i) n (λ _. p.total)
    → u ≡ replaced t (row_length * i + n) (row_length - n) (λ _. 0) → u ≡ freed_row f i days p
unfolding freed_row
row_of_runs t u f i days n p hn ht hu =
    hu
    ∙ ap (λ (x : List ℕ). replaced x (row_length * i + n) (row_length - n) (λ _. 0)) (ht ∙ replaced_same f (row_length * i) n (λ _. p.total) G year)
    ∙ replaced_same (replaced f (row_length * i) n G) (row_length * i + n) (row_length - n) (λ _. 0) (λ k. G (n + k)) rest
    ∙ replaced_join f (row_length * i) n (row_length - n) G
    ∙ ap (λ (j : ℕ). replaced f (row_length * i) j G) sum
  where
    G : ℕ → ℕ
    G = capacity days p

    year : (k : ℕ) → k < n → p.total ≡ G k
    year k b = sym (capacity_in days p k (omega (arith, hn, b)))

    rest : (k : ℕ) → k < row_length - n → 0 ≡ G (n + k)
    rest k b = sym (capacity_out days p (n + k) (omega (arith, hn, b)))

    sum : n + (row_length - n) ≡ row_length
    sum = omega (arith, hn)

-- one row after another
pub table_step : (t f : List ℕ) (days i : ℕ) (ps : List Point) (p : Point) → t ≡ replaced f 0 (row_length * i) (capacity_at days ps) → p ≡ point_at ps i
    → freed_row t i days p ≡ replaced f 0 (row_length * (i + 1)) (capacity_at days ps)
unfolding freed_row
table_step t f days i ps p e h =
    ap (λ (x : List ℕ). replaced x (row_length * i) row_length (capacity days p)) e
    ∙ replaced_same before (row_length * i) row_length (capacity days p) (λ k. G (row_length * i + k)) each
    ∙ ap (λ (j : ℕ). replaced before j row_length (λ k. G (row_length * i + k))) (sym (zero-add (row_length * i)))
    ∙ replaced_join f 0 (row_length * i) row_length G
    ∙ ap (λ (j : ℕ). replaced f 0 j G) sum
  where
    G : ℕ → ℕ
    G = capacity_at days ps

    before : List ℕ
    before = replaced f 0 (row_length * i) G

    sum : row_length * i + row_length ≡ row_length * (i + 1)
    sum = omega arith

    each : (k : ℕ) → k < row_length → capacity days p k ≡ G (row_length * i + k)
    each k b =
        let q : i ≡ (row_length * i + k) / row_length = omega arith in
        let m : k ≡ (row_length * i + k) % row_length = omega arith in
        ap₂ (capacity days) (h ∙ ap (point_at ps) q) m

pub table_done : (t f : List ℕ) (days i : ℕ) (ps : List Point) → i ≤ point_count → point_count ≤ i → t ≡ replaced f 0 (row_length * i) (capacity_at days ps) → t ≡ freed_table f days ps
unfolding freed_table
table_done t f days i ps a b e =
    let n : row_length * i ≡ table_length = omega arith in
    e ∙ ap (λ (j : ℕ). replaced f 0 j (capacity_at days ps)) n

-- ---- an amount taken
pub taken_length : (f : List ℕ) (at n amount : ℕ) → length (taken f at n amount) ≡ length f
unfolding taken
taken_length f at n amount = replaced_length f at n (less_by f at amount)

pub taken_in : (f : List ℕ) (at n amount k : ℕ) → k < n → at + k < length f → get_or (taken f at n amount) (at + k) 0 ≡ get_or f (at + k) 0 - amount
unfolding taken
taken_in f at n amount k h b = replaced_in f at n (less_by f at amount) 0 k h b

pub taken_out : (f : List ℕ) (at n amount k : ℕ) → (at ≤ k → k < at + n → ⊥) → get_or (taken f at n amount) k 0 ≡ get_or f k 0
unfolding taken
taken_out f at n amount k h = replaced_out f at n (less_by f at amount) 0 k h

-- what holds of the k-th place from `at` on, for each k below n, holds of each place there
pub each_place : (P : ℕ → Type 0) (at n : ℕ) → ((k : ℕ) → k < n → P (at + k)) → (j : ℕ) → at ≤ j → j < at + n → P j
each_place P at n h j lo hi = let e : at + (j - at) ≡ j = omega arith in subst P e (h (j - at) (omega arith))

-- what is taken leaves no more than there was
pub taken_le : (f : List ℕ) (at n amount j : ℕ) → at + n ≤ length f → get_or (taken f at n amount) j 0 ≤ get_or f j 0
taken_le f at n amount j size = go (dec_le at j) (dec_lt j (at + n))
  where
    go : Dec (at ≤ j) → Dec (j < at + n) → get_or (taken f at n amount) j 0 ≤ get_or f j 0
    go (yes a) (yes b) =
        each_place (λ (i : ℕ). get_or (taken f at n amount) i 0 ≤ get_or f i 0) at n (λ k h. omega (arith, taken_in f at n amount k h (omega arith))) j a b
    go (yes a) (no b) = omega (arith, taken_out f at n amount j (λ lo hi. b hi))
    go (no a) b = omega (arith, taken_out f at n amount j (λ lo hi. a lo))

-- nothing taken, and one amount taken after another
pub taken_none : (f : List ℕ) (at n : ℕ) → taken f at n 0 ≡ f
taken_none f at n = ext_get_or 0 (taken f at n 0) f (taken_length f at n 0) (λ j b. go j (omega (arith, b, taken_length f at n 0)) (dec_le at j) (dec_lt j (at + n)))
  where
    go : (j : ℕ) → j < length f → Dec (at ≤ j) → Dec (j < at + n) → get_or (taken f at n 0) j 0 ≡ get_or f j 0
    go j l (yes a) (yes b) =
        let e : at + (j - at) ≡ j = omega arith in
        subst (λ (i : ℕ). get_or (taken f at n 0) i 0 ≡ get_or f i 0) e (omega (arith, taken_in f at n 0 (j - at) (omega arith) (omega arith)))
    go j l (yes a) (no b) = taken_out f at n 0 j (λ lo hi. b hi)
    go j l (no a) b = taken_out f at n 0 j (λ lo hi. a lo)

module _ (f : List ℕ) (at n x y : ℕ) where
  abbrev once : List ℕ
  once = taken f at n x

  abbrev again : List ℕ
  again = taken once at n y

  again_length : length again ≡ length f
  again_length = taken_length once at n y ∙ taken_length f at n x

  again_at : (j : ℕ) → j < length f → Dec (at ≤ j) → Dec (j < at + n) → get_or again j 0 ≡ get_or (taken f at n (x + y)) j 0
  again_at j l (yes a) (yes b) =
      let e : at + (j - at) ≡ j = omega arith in
      subst (λ (i : ℕ). get_or again i 0 ≡ get_or (taken f at n (x + y)) i 0) e
      (omega (arith, taken_in once at n y (j - at) (omega arith) (omega (arith, taken_length f at n x)), taken_in f at n x (j - at) (omega arith) (omega arith), taken_in f at n (x + y) (j - at) (omega arith) (omega arith)))
  again_at j l (yes a) (no b) =
      taken_out once at n y j (λ lo hi. b hi) ∙ taken_out f at n x j (λ lo hi. b hi) ∙ sym (taken_out f at n (x + y) j (λ lo hi. b hi))
  again_at j l (no a) b =
      taken_out once at n y j (λ lo hi. a lo) ∙ taken_out f at n x j (λ lo hi. a lo) ∙ sym (taken_out f at n (x + y) j (λ lo hi. a lo))

  pub taken_twice : again ≡ taken f at n (x + y)
  taken_twice =
      ext_get_or 0 again (taken f at n (x + y)) (again_length ∙ sym (taken_length f at n (x + y)))
      (λ j b. again_at j (omega (arith, b, again_length)) (dec_le at j) (dec_lt j (at + n)))

-- ---- rows and tables
-- what a freed row has: its point's capacity in its own places, and what was there in the others
pub row_length_lem : (f : List ℕ) (i days : ℕ) (p : Point) → length (freed_row f i days p) ≡ length f
unfolding freed_row
row_length_lem f i days p = replaced_length f (row_length * i) row_length (capacity days p)

pub row_in : (f : List ℕ) (i days : ℕ) (p : Point) (k : ℕ) → k < row_length → entry_at i k < length f → get_or (freed_row f i days p) (entry_at i k) 0 ≡ capacity days p k
unfolding freed_row
row_in f i days p k h b = replaced_in f (row_length * i) row_length (capacity days p) 0 k h b

pub row_out : (f : List ℕ) (i days : ℕ) (p : Point) (j k : ℕ) → k < row_length → (j ≡ i → ⊥) → get_or (freed_row f i days p) (entry_at j k) 0 ≡ get_or f (entry_at j k) 0
unfolding freed_row
row_out f i days p j k h ne =
    replaced_out f (row_length * i) row_length (capacity days p) 0 (entry_at j k) (λ lo hi. ne (omega arith))

-- and a freed table
pub table_length_lem : (f : List ℕ) (days : ℕ) (ps : List Point) → length (freed_table f days ps) ≡ length f
unfolding freed_table
table_length_lem f days ps = replaced_length f 0 table_length (capacity_at days ps)

pub table_at : (f : List ℕ) (days : ℕ) (ps : List Point) (i k : ℕ) → length f ≡ table_length → i < point_count → k < row_length
    → get_or (freed_table f days ps) (entry_at i k) 0 ≡ capacity days (point_at ps i) k
unfolding freed_table
table_at f days ps i k size hi hk =
    let q : entry_at i k / row_length ≡ i = omega arith in
    let m : entry_at i k % row_length ≡ k = omega arith in
    ap (λ (j : ℕ). get_or (replaced f 0 table_length (capacity_at days ps)) j 0) (sym (zero-add (entry_at i k)))
    ∙ replaced_in f 0 table_length (capacity_at days ps) 0 (entry_at i k) (omega arith) (omega (arith, size))
    ∙ ap₂ (capacity days) (ap (point_at ps) q) m
