-- Document 01, "The reckoning for demand 3": what the calls' fields and their answers come to, with nothing from the register.
-- Assumes nothing.
use Rattle.std.specs.Prelude.{ℕ, zero, suc, ◌+◌, ◌-◌, ◌*◌, Bool, true, false, cond, ◌&&◌, List, [], ◌∷◌, eqb, get_or, length}
use Rattle.days.specs.Days.{between}
use Rattle.calendar.specs.ThermalYears.{thermal_first, thermal_last}
use Rattle.amounts.specs.Amounts.{span_days}
use Rattle.parts.specs.Charges.{charge}
use Rattle.parts.specs.Answers.{leaves}
use Rattle.register.specs.Fresh.{fresh_state}
use Rattle.spans.specs.Spans.{annual_first, annual_last}
use Rattle.products.specs.declared.products.Request.{Request}
use Rattle.products.specs.Products.{first_of, last_of}
use Rattle.shares.specs.Batches.{lines_of}
use Rattle.cession_decision.specs.declared.deciding.Cession.{Cession}
use Rattle.reckoning.specs.Calls.{Call, open_point, place_guarantee, request_capacity, confer_batch, cede_capacity, turn_year, Answer, answers}

-- an amount granted to a user at a point, which covers each day from first to last, and its charge
pub record GrantEntry : Type 0 where
  pub user : ℕ
  pub point : ℕ
  pub first : ℕ
  pub last : ℕ
  pub amount : ℕ
  pub charged : ℕ

-- a charge that a user has ceded or taken over
pub record ChargeEntry : Type 0 where
  pub user : ℕ
  pub charged : ℕ

abbrev pub charge_entry : ℕ → ℕ → ChargeEntry
charge_entry u c = record { user = u; charged = c }

-- the year, the points that are open with their totals and rates, the guarantees, and what was granted, ceded and taken over
pub record Reckoning : Type 0 where
  pub year : ℕ
  pub is_open : ℕ → Bool
  pub total : ℕ → ℕ
  pub rate : ℕ → ℕ
  pub guarantee : ℕ → ℕ
  pub granted : List GrantEntry
  pub ceded : List ChargeEntry
  pub taken : List ChargeEntry

-- ---- sums
-- "the sum of the grants at that point, counted by then, that cover the day"
abbrev pub grant_covers : GrantEntry → ℕ → ℕ → Bool
grant_covers g p d = eqb g.point p && between g.first g.last d

abbrev pub amount_on : List GrantEntry → ℕ → ℕ → ℕ
amount_on [] p d = 0
amount_on (g ∷ gs) p d = cond (grant_covers g p d) g.amount 0 + amount_on gs p d

abbrev pub granted_on : Reckoning → ℕ → ℕ → ℕ
granted_on k p d = amount_on k.granted p d

-- "Free on a day, before a request, is the point's total less the sum of the grants"
abbrev pub free_by : Reckoning → ℕ → ℕ → ℕ
free_by k p d = k.total p - granted_on k p d

-- the charges of what was granted to a user, and of what he ceded or took over
abbrev pub charges_to : List GrantEntry → ℕ → ℕ
charges_to [] u = 0
charges_to (g ∷ gs) u = cond (eqb g.user u) g.charged 0 + charges_to gs u

abbrev pub moved_by : List ChargeEntry → ℕ → ℕ
moved_by [] u = 0
moved_by (m ∷ ms) u = cond (eqb m.user u) m.charged 0 + moved_by ms u

-- what a user was granted and took over, and what he ceded
abbrev pub charges : Reckoning → ℕ → ℕ
charges k u = charges_to k.granted u + moved_by k.taken u

abbrev pub ceded_by : Reckoning → ℕ → ℕ
ceded_by k u = moved_by k.ceded u

-- the ledger lines of what was granted and ceded: one for a grant, "two for a cession"
abbrev pub lines_used : Reckoning → ℕ
lines_used k = length k.granted + 2 * length k.ceded

-- ---- one setter for each change; the fields are named in one place
abbrev pub reckoning : ℕ → (ℕ → Bool) → (ℕ → ℕ) → (ℕ → ℕ) → (ℕ → ℕ) → List GrantEntry → List ChargeEntry → List ChargeEntry → Reckoning
reckoning year is_open total rate guarantee granted ceded taken =
    record {
      year = year;
      is_open = is_open;
      total = total;
      rate = rate;
      guarantee = guarantee;
      granted = granted;
      ceded = ceded;
      taken = taken;
    }

-- "It starts with the given year, no point open, guarantees 0, nothing granted, ceded or taken over."
abbrev pub begin : ℕ → Reckoning
begin y = reckoning y (λ p. false) (λ p. 0) (λ p. 0) (λ u. 0) [] [] []

-- a function with another value at i
abbrev pub put : {A : Type 0} → (ℕ → A) → ℕ → A → ℕ → A
put f i v j = cond (eqb j i) v (f j)

abbrev pub with_open : Reckoning → ℕ → ℕ → ℕ → Reckoning
with_open k p total rate =
    reckoning k.year (put k.is_open p true) (put k.total p total) (put k.rate p rate) k.guarantee k.granted k.ceded k.taken

abbrev pub with_guarantee : Reckoning → ℕ → ℕ → Reckoning
with_guarantee k u g =
    reckoning k.year k.is_open k.total k.rate (put k.guarantee u g) k.granted k.ceded k.taken

abbrev pub with_granted : Reckoning → GrantEntry → Reckoning
with_granted k g =
    reckoning k.year k.is_open k.total k.rate k.guarantee (g ∷ k.granted) k.ceded k.taken

abbrev pub with_moved : Reckoning → ChargeEntry → ChargeEntry → Reckoning
with_moved k gone come =
    reckoning k.year k.is_open k.total k.rate k.guarantee k.granted (gone ∷ k.ceded) (come ∷ k.taken)

abbrev pub with_new_year : Reckoning → ℕ → Reckoning
with_new_year k y = reckoning y k.is_open k.total k.rate k.guarantee [] [] []

-- ---- what a call answered 0 does
-- an amount is granted to a user at a point, from first to last. "Charges use the rate from the point's opening and the call's own span."
unfoldable pub grant_to : Reckoning → ℕ → ℕ → ℕ → ℕ → ℕ → Reckoning
grant_to k u p first last amount =
    with_granted k
    (record {
      user = u;
      point = p;
      first = first;
      last = last;
      amount = amount;
      charged = charge amount (span_days first last) (k.rate p);
    })

-- "each share above 0 is granted to its line's user at the point and covers the whole year": the first n lines
abbrev pub grant_if : Reckoning → ℕ → ℕ → ℕ → Reckoning
grant_if k u p share = cond (eqb share 0) k (grant_to k u p (thermal_first k.year) (thermal_last k.year) share)

unfoldable pub grant_lines : Reckoning → ℕ → List ℕ → List ℕ → ℕ → Reckoning
grant_lines k p us shares zero = k
grant_lines k p us shares (suc n) = grant_if (grant_lines k p us shares n) (get_or us n 0) p (get_or shares n 0)

-- the charge of a cession: "from the first of the month after arrival to the year's end"
abbrev pub ceded_charge : Reckoning → Cession → ℕ
ceded_charge k c = charge c.amount (span_days (annual_first c.arrival) (annual_last k.year)) (k.rate c.point)

-- "if not annual: that month of the year, or that day"
abbrev pub span_first : Reckoning → Request → ℕ
span_first k q = first_of k.year q.arrival q.product

abbrev pub span_last : Reckoning → Request → ℕ
span_last k q = last_of k.year q.arrival q.product

abbrev pub entered : Reckoning → Call → Answer → Reckoning
-- "Open point: it is open from then on, with that total and rate."
entered k (open_point p kind total rate) a = with_open k p total rate
-- "Place guarantee: the user's guarantee is that amount."
entered k (place_guarantee u g) a = with_guarantee k u g
-- "Request: the amount answered is granted to the user at the point and covers each day of the span"
entered k (request_capacity q) a = grant_to k q.user q.point (span_first k q) (span_last k q) a.amount
-- "Batch: each share above 0 is granted to its line's user at the point and covers the whole year."
entered k (confer_batch b m n) a = grant_lines k b.point b.users a.shares (lines_of b)
-- "Cession: the giver has ceded, and the receiver taken over, the charge of the amount."
entered k (cede_capacity c) a = with_moved k (charge_entry c.giver (ceded_charge k c)) (charge_entry c.receiver (ceded_charge k c))
-- "Turn the year: the year is the new one; earlier grants and charges count no longer."
entered k (turn_year y) a = with_new_year k y

-- "A refused call leaves it."
abbrev pub enter : Reckoning → Call → Answer → Reckoning
enter k c a = leaves a.number (entered k c a) k

-- "The reckoning is fed the calls' fields and answers, shares included"
abbrev pub reckon : Reckoning → List Call → List Answer → Reckoning
reckon k [] told = k
reckon k (c ∷ cs) [] = k
reckon k (c ∷ cs) (a ∷ told) = reckon (enter k c a) cs told

-- of a list of calls from a fresh register of year y, by the answers that they got
abbrev pub reckoned : ℕ → List Call → Reckoning
reckoned y cs = reckon (begin y) cs (answers (fresh_state y) cs)
