-- A grant, and so a request and a batch, in the register and in the reckoning: what is kept of the two is kept again.
-- Assumes nothing.
use mathlib.Core.Path.{◌≡◌, refl, sym, ap, ◌∙◌, subst}
use mathlib.Core.Bool.{Bool, true, false, cond}
use mathlib.Core.List.{List, []}
use Prim.Native.Nat.{ℕ, zero, suc, ◌≤◌, ◌<◌}
use native.Mathlib.Omega.{arith}
use lib.Dec.{eqb}
use lib.ListN.{get_or}
use borrow.Author.Tests.{eqb-false}
use Rattle.calendar.specs.ThermalYears.{thermal_first, thermal_last}
use Rattle.parts.specs.Registers.{State, point_at}
use Rattle.parts.specs.Answers.{leaves}
use Rattle.parts.proofs.AnswerLaws.{leaves_new}
use Rattle.conferral.specs.declared.bookings.Grant.{Grant}
use Rattle.conferral.specs.Bookings.{booked}
use Rattle.conferral.proofs.RoomLaws.{LimitFacts}
use Rattle.conferral.proofs.BookedLaws.{Bookable, BookedIn, booked_in}
use Rattle.products.specs.declared.products.Request.{Request}
use Rattle.products.specs.Products.{first_of, last_of}
use Rattle.request_decision.specs.RequestQuestions.{grant_of as grant_requested}
use Rattle.requests.specs.RequestCapacity.{request_number, request_amount, request_after}
use Rattle.requests.proofs.AnswerLaws.{facts, granted_room, accepted_amount}
use Rattle.requests.proofs.ConferredLaws.{request_booked}
use Rattle.shares.specs.Batches.{Batch, lines_of, user_of, grant_of}
use Rattle.shares.specs.Shares.{share_of}
use Rattle.shares.specs.ShareLines.{shares_of}
use Rattle.shares.proofs.ShareLaws.{list_at}
use Rattle.batches.specs.ConferBatch.{batch_number, booked_if, booked_lines}
use Rattle.batches.proofs.BookedLaws.{bookable_line}
use Rattle.expected.specs.Calls.{request_capacity, confer_batch, answer}
use Rattle.expected.specs.Reckoning.{Reckoning, grant_to, grant_if, grant_lines, entered}
use Rattle.expected.proofs.Invariant.{Kept}
use Rattle.expected.proofs.GrantSteps.{agree_grant}
use Rattle.reckoning.proofs.BackingSteps.{backed_grant}
use Rattle.expected.proofs.HeldSteps.{held_grant}

-- a grant that is booked
grant_kept : (s : State) (k : Reckoning) (g : Grant) (t : State) → Kept s k → BookedIn s g t → LimitFacts s.register.year g
    → 0 < (point_at s.register.points g.point).kind → Kept t (grant_to k g.user g.point g.days.first g.days.last g.amount)
grant_kept s k g t w b fits opened =
    record {
      agrees = agree_grant s k g t w.agrees b opened;
      backed = backed_grant s g t b fits w.backed;
      held = held_grant s k g t b fits w.backed w.held;
    }

-- ---- request
pub request_kept : (s : State) (k : Reckoning) (q : Request) → Kept s k → request_number s q ≡ 0
    → Kept (request_after s q) (entered k (request_capacity q) (answer s (request_capacity q)))
request_kept s k q w z =
    subst (λ (y : ℕ). Kept (request_after s q) (grant_to k q.user q.point (first_of y q.arrival q.product) (last_of y q.arrival q.product) (request_amount s q)))
    w.agrees.year
    (grant_kept s k (grant_requested s.register q (request_amount s q)) (request_after s q) w (request_booked s q z w.agrees.sound)
    (subst (λ (n : ℕ). LimitFacts s.register.year (grant_requested s.register q n)) (sym (accepted_amount s q z)) (granted_room s q z).limits)
    (facts s q z).open_point_lem)

-- ---- batch: line by line
-- the year of the reckoning stays
if_year : (k : Reckoning) (u p share : ℕ) → (grant_if k u p share).year ≡ k.year
unfolding grant_to
if_year k u p share = go (eqb share 0)
  where
    go : (b : Bool) → (cond b k (grant_to k u p (thermal_first k.year) (thermal_last k.year) share)).year ≡ k.year
    go true = refl
    go false = refl

lines_year : (k : Reckoning) (p : ℕ) (us shares : List ℕ) (n : ℕ) → (grant_lines k p us shares n).year ≡ k.year
unfolding grant_lines
lines_year k p us shares zero = refl
lines_year k p us shares (suc n) =
    if_year (grant_lines k p us shares n) (get_or us n 0) p (get_or shares n 0) ∙ lines_year k p us shares n

module _ (s : State) (k : Reckoning) (b : Batch) (m n : ℕ) (w : Kept s k) (z : batch_number s b m n ≡ 0) where
  abbrev given : ℕ → Grant
  given i = grant_of s.register b i (share_of s b i)

  -- the shares that it answers
  shares_answered : (i : ℕ) → i < lines_of b → get_or (leaves (batch_number s b m n) (shares_of s b) []) i 0 ≡ share_of s b i
  unfolding shares_of
  shares_answered i h =
      ap (λ (l : List ℕ). get_or l i 0) (leaves_new (batch_number s b m n) (shares_of s b) [] z) ∙ list_at (lines_of b) (share_of s b) i h

  -- one line more
  line_kept : (t : State) (j : Reckoning) (i : ℕ) → Kept t j → j.year ≡ s.register.year → (0 < share_of s b i → Bookable t (given i))
      → Kept (booked_if t (given i)) (grant_if j (user_of b i) b.point (share_of s b i))
  line_kept t j i held year fits = go (eqb (share_of s b i) 0) refl
    where
      go : (e : Bool) → eqb (share_of s b i) 0 ≡ e
          → Kept (cond e t (booked t (given i))) (cond e j (grant_to j (user_of b i) b.point (thermal_first j.year) (thermal_last j.year) (share_of s b i)))
      go true e = held
      go false e =
          subst (λ (y : ℕ). Kept (booked t (given i)) (grant_to j (user_of b i) b.point (thermal_first y) (thermal_last y) (share_of s b i))) (sym year)
          (let fit = fits (omega (arith, eqb-false (share_of s b i) 0 e)) in
          grant_kept t j (given i) (booked t (given i)) held (booked_in t (given i) held.agrees.sound fit) fit.room.limits fit.open_point_lem)

  lines_kept : (shares : List ℕ) → ((i : ℕ) → i < lines_of b → get_or shares i 0 ≡ share_of s b i)
      → (i : ℕ) → i ≤ lines_of b → Kept (booked_lines s b i) (grant_lines k b.point b.users shares i)
  unfolding booked_lines grant_lines
  lines_kept shares answered zero l = w
  lines_kept shares answered (suc i) l =
      subst (λ (share : ℕ). Kept (booked_if (booked_lines s b i) (given i)) (grant_if (grant_lines k b.point b.users shares i) (user_of b i) b.point share))
      (sym (answered i l))
      (line_kept (booked_lines s b i) (grant_lines k b.point b.users shares i) i (lines_kept shares answered i (omega arith))
      (lines_year k b.point b.users shares i ∙ sym w.agrees.year) (bookable_line s b m n w.agrees.sound z i l))

  pub batch_kept : Kept (booked_lines s b (lines_of b)) (entered k (confer_batch b m n) (answer s (confer_batch b m n)))
  batch_kept = lines_kept _ shares_answered (lines_of b) (omega arith)
