-- Document 01, "The reckoning for demand 3": what the calls' fields and their answers come to, with nothing from the register.
-- Assumes nothing.
use Prim.Native.Nat.{ℕ, zero, suc, ◌+◌, ◌-◌, ◌*◌}
use mathlib.Core.Bool.{Bool, true, false, cond, ◌&&◌}
use mathlib.Core.List.{List, [], ◌∷◌}
use lib.Dec.{eqb}
use lib.ListN.{get_or, length}
use Rattle.days.specs.Days.{between}
use Rattle.calendar.specs.ThermalYears.{thermal_first, thermal_last}
use Rattle.amounts.specs.Amounts.{span_days}
use Rattle.parts.specs.Charges.{charge}
use Rattle.parts.specs.Answers.{leaves}
use Rattle.spans.specs.Spans.{annual_first, annual_last}
use Rattle.products.specs.declared.products.Request.{Request}
use Rattle.products.specs.Products.{first_of, last_of}
use Rattle.shares.specs.Batches.{lines_of}
use Rattle.cession_decision.specs.declared.deciding.Cession.{Cession}
use Rattle.expected.specs.Calls.{
  Call,
  open_point,
  place_guarantee,
  request_capacity,
  confer_batch,
  cede_capacity,
  turn_year,
  Answer,
}

-- an amount granted to a user at a point, or ceded or taken over by him, which covers each day from first to last, and its charge
pub record Entry : Type 0 where
  pub user : ℕ
  pub point : ℕ
  pub first : ℕ
  pub last : ℕ
  pub amount : ℕ
  pub charged : ℕ

-- the year, the points that are open with their kinds, totals and rates, the users placed on file and their guarantees, and what was
-- granted, ceded and taken over
pub record Reckoning : Type 0 where
  pub year : ℕ
  pub is_open : ℕ → Bool
  pub kind : ℕ → ℕ
  pub total : ℕ → ℕ
  pub rate : ℕ → ℕ
  pub on_file : ℕ → Bool
  pub guarantee : ℕ → ℕ
  pub granted : List Entry
  pub ceded : List Entry
  pub taken : List Entry

-- ---- sums
-- "the sum of the grants at that point, counted by then, that cover the day"
abbrev pub grant_covers : Entry → ℕ → ℕ → Bool
grant_covers g p d = eqb g.point p && between g.first g.last d

abbrev pub amount_on : List Entry → ℕ → ℕ → ℕ
amount_on [] p d = 0
amount_on (g ∷ gs) p d = cond (grant_covers g p d) g.amount 0 + amount_on gs p d

abbrev pub granted_on : Reckoning → ℕ → ℕ → ℕ
granted_on k p d = amount_on k.granted p d

-- "Free on a day, before a request, is the point's total less the sum of the grants"
abbrev pub free_by : Reckoning → ℕ → ℕ → ℕ
free_by k p d = k.total p - granted_on k p d

-- the charges of a user's entries
abbrev pub charges_to : List Entry → ℕ → ℕ
charges_to [] u = 0
charges_to (g ∷ gs) u = cond (eqb g.user u) g.charged 0 + charges_to gs u

-- the charges of what a user was granted and took over, and of what he ceded
abbrev pub charges : Reckoning → ℕ → ℕ
charges k u = charges_to k.granted u + charges_to k.taken u

abbrev pub ceded_by : Reckoning → ℕ → ℕ
ceded_by k u = charges_to k.ceded u

-- the amounts of a user's entries at a point that cover a day
abbrev pub entry_covers : Entry → ℕ → ℕ → ℕ → Bool
entry_covers e u p d = (eqb e.user u && eqb e.point p) && between e.first e.last d

abbrev pub amount_to : List Entry → ℕ → ℕ → ℕ → ℕ
amount_to [] u p d = 0
amount_to (e ∷ es) u p d = cond (entry_covers e u p d) e.amount 0 + amount_to es u p d

-- what a user was granted and took over at a point, for a day, and what he ceded: he holds the difference
abbrev pub received_on : Reckoning → ℕ → ℕ → ℕ → ℕ
received_on k u p d = amount_to k.granted u p d + amount_to k.taken u p d

abbrev pub ceded_on : Reckoning → ℕ → ℕ → ℕ → ℕ
ceded_on k u p d = amount_to k.ceded u p d

-- the ledger lines of what was granted and ceded: one for a grant, "two for a cession"
abbrev pub lines_used : Reckoning → ℕ
lines_used k = length k.granted + 2 * length k.ceded

-- ---- one setter for each change; the fields are named in one place
abbrev pub reckoning : ℕ → (ℕ → Bool) → (ℕ → ℕ) → (ℕ → ℕ) → (ℕ → ℕ) → (ℕ → Bool) → (ℕ → ℕ) → List Entry → List Entry → List Entry
    → Reckoning
reckoning year is_open kind total rate on_file guarantee granted ceded taken =
    record {
      year = year;
      is_open = is_open;
      kind = kind;
      total = total;
      rate = rate;
      on_file = on_file;
      guarantee = guarantee;
      granted = granted;
      ceded = ceded;
      taken = taken;
    }

-- "It starts with the given year, no point open, guarantees 0, nothing granted, ceded or taken over.", and nobody on file
abbrev pub begin : ℕ → Reckoning
begin y = reckoning y (λ p. false) (λ p. 0) (λ p. 0) (λ p. 0) (λ u. false) (λ u. 0) [] [] []

-- a function with another value at i
abbrev pub put : {A : Type 0} → (ℕ → A) → ℕ → A → ℕ → A
put f i v j = cond (eqb j i) v (f j)

abbrev pub with_open : Reckoning → ℕ → ℕ → ℕ → ℕ → Reckoning
with_open k p kind total rate =
    reckoning k.year (put k.is_open p true) (put k.kind p kind) (put k.total p total) (put k.rate p rate)
    k.on_file k.guarantee k.granted k.ceded k.taken

abbrev pub with_guarantee : Reckoning → ℕ → ℕ → Reckoning
with_guarantee k u g =
    reckoning k.year k.is_open k.kind k.total k.rate
    (put k.on_file u true) (put k.guarantee u g) k.granted k.ceded k.taken

abbrev pub with_granted : Reckoning → Entry → Reckoning
with_granted k g =
    reckoning k.year k.is_open k.kind k.total k.rate k.on_file k.guarantee (g ∷ k.granted) k.ceded k.taken

abbrev pub with_moved : Reckoning → Entry → Entry → Reckoning
with_moved k gone come =
    reckoning k.year k.is_open k.kind k.total k.rate
    k.on_file k.guarantee k.granted (gone ∷ k.ceded) (come ∷ k.taken)

abbrev pub with_new_year : Reckoning → ℕ → Reckoning
with_new_year k y = reckoning y k.is_open k.kind k.total k.rate k.on_file k.guarantee [] [] []

-- ---- what a call answered 0 does
-- an amount of a user at a point, from first to last. "Charges use the rate from the point's opening and the call's own span."
abbrev pub entry_for : Reckoning → ℕ → ℕ → ℕ → ℕ → ℕ → Entry
entry_for k u p first last amount =
    record {
      user = u;
      point = p;
      first = first;
      last = last;
      amount = amount;
      charged = charge amount (span_days first last) (k.rate p);
    }

-- it is granted to him
unfoldable pub grant_to : Reckoning → ℕ → ℕ → ℕ → ℕ → ℕ → Reckoning
grant_to k u p first last amount = with_granted k (entry_for k u p first last amount)

-- "each share above 0 is granted to its line's user at the point and covers the whole year": the first n lines
abbrev pub grant_if : Reckoning → ℕ → ℕ → ℕ → Reckoning
grant_if k u p share = cond (eqb share 0) k (grant_to k u p (thermal_first k.year) (thermal_last k.year) share)

unfoldable pub grant_lines : Reckoning → ℕ → List ℕ → List ℕ → ℕ → Reckoning
grant_lines k p us shares zero = k
grant_lines k p us shares (suc n) = grant_if (grant_lines k p us shares n) (get_or us n 0) p (get_or shares n 0)

-- what the giver of a cession cedes, or its receiver takes over, "from the first of the month after arrival to the year's end"; and its
-- charge
abbrev pub ceded_entry : Reckoning → Cession → ℕ → Entry
ceded_entry k c u = entry_for k u c.point (annual_first c.arrival) (annual_last k.year) c.amount

abbrev pub ceded_charge : Reckoning → Cession → ℕ
ceded_charge k c = (ceded_entry k c c.giver).charged

-- "if not annual: that month of the year, or that day"
abbrev pub span_first_by : Reckoning → Request → ℕ
span_first_by k q = first_of k.year q.arrival q.product

abbrev pub span_last_by : Reckoning → Request → ℕ
span_last_by k q = last_of k.year q.arrival q.product

abbrev pub entered : Reckoning → Call → Answer → Reckoning
-- "Open point: it is open from then on, with that total and rate.", and of that kind
entered k (open_point p kind total rate) a = with_open k p kind total rate
-- "Place guarantee: the user's guarantee is that amount.", and he is on file
entered k (place_guarantee u g) a = with_guarantee k u g
-- "Request: the amount answered is granted to the user at the point and covers each day of the span"
entered k (request_capacity q) a = grant_to k q.user q.point (span_first_by k q) (span_last_by k q) a.amount
-- "Batch: each share above 0 is granted to its line's user at the point and covers the whole year."
entered k (confer_batch b m n) a = grant_lines k b.point b.users a.shares (lines_of b)
-- "Cession: the giver has ceded, and the receiver taken over, the charge of the amount.", and the amount on each day of the span
entered k (cede_capacity c) a = with_moved k (ceded_entry k c c.giver) (ceded_entry k c c.receiver)
-- "Turn the year: the year is the new one; earlier grants and charges count no longer."
entered k (turn_year y) a = with_new_year k y

-- "A refused call leaves it."
abbrev pub enter : Reckoning → Call → Answer → Reckoning
enter k c a = leaves a.number (entered k c a) k

-- "The reckoning is fed the calls' fields and answers, shares included"
abbrev pub reckon : Reckoning → List Call → List Answer → Reckoning
reckon k [] given = k
reckon k (c ∷ cs) [] = k
reckon k (c ∷ cs) (a ∷ given) = reckon (enter k c a) cs given

-- of a list of calls from a fresh register of year y, and the answers that they got
abbrev pub reckoned : ℕ → List Call → List Answer → Reckoning
reckoned y cs given = reckon (begin y) cs given
