-- A batch, in the register and in the reckoning: line by line they agree again.
-- Assumes nothing.
use mathlib.Core.Path.{◌≡◌, refl, sym, ◌∙◌, subst}
use mathlib.Core.Bool.{Bool, true, false, cond}
use mathlib.Core.List.{List}
use Prim.Native.Nat.{ℕ, zero, suc, ◌≤◌, ◌<◌}
use native.Mathlib.Omega.{arith}
use lib.Dec.{eqb}
use lib.ListN.{get_or}
use borrow.Author.Tests.{eqb-false}
use Rattle.calendar.specs.ThermalYears.{thermal_first, thermal_last}
use Rattle.parts.specs.Registers.{State}
use Rattle.conferral.specs.Bookings.{booked}
use Rattle.conferral.proofs.BookedLaws.{Bookable, booked_in}
use Rattle.shares.specs.Batches.{Batch, lines_of, user_of, grant_of}
use Rattle.shares.specs.Shares.{share_of}
use Rattle.batches.specs.ConferBatch.{booked_if, booked_lines}
use Rattle.reckoning.specs.Reckoning.{Reckoning, grant_to, grant_if, grant_lines}
use Rattle.reckoning.proofs.Agreement.{Agree}
use Rattle.reckoning.proofs.GrantSteps.{agree_grant}

-- the year of the reckoning stays
if_year : (k : Reckoning) (u p share : ℕ) → (grant_if k u p share).year ≡ k.year
unfolding grant_to
if_year k u p share = go (eqb share 0)
  where
    go : (b : Bool) → (cond b k (grant_to k u p (thermal_first k.year) (thermal_last k.year) share)).year ≡ k.year
    go true = refl
    go false = refl

lines_year : (k : Reckoning) (p : ℕ) (us shares : List ℕ) (n : ℕ) → (grant_lines k p us shares n).year ≡ k.year
unfolding grant_lines
lines_year k p us shares zero = refl
lines_year k p us shares (suc n) =
    if_year (grant_lines k p us shares n) (get_or us n 0) p (get_or shares n 0) ∙ lines_year k p us shares n

module _ (s : State) (k : Reckoning) (b : Batch) (shares : List ℕ) (a : Agree s k)
    (answered : (i : ℕ) → i < lines_of b → get_or shares i 0 ≡ share_of s b i)
    (bookable : (i : ℕ) → i < lines_of b → 0 < share_of s b i → Bookable (booked_lines s b i) (grant_of s.register b i (share_of s b i))) where
  -- one line more
  line_agrees : (t : State) (h : Reckoning) (i share : ℕ) → Agree t h → h.year ≡ s.register.year
      → (0 < share → Bookable t (grant_of s.register b i share)) → Agree (booked_if t (grant_of s.register b i share)) (grant_if h (user_of b i) b.point share)
  line_agrees t h i share agree year fits = go (eqb share 0) refl
    where
      go : (e : Bool) → eqb share 0 ≡ e
          → Agree (cond e t (booked t (grant_of s.register b i share))) (cond e h (grant_to h (user_of b i) b.point (thermal_first h.year) (thermal_last h.year) share))
      go true e = agree
      go false e =
          subst (λ (y : ℕ). Agree (booked t (grant_of s.register b i share)) (grant_to h (user_of b i) b.point (thermal_first y) (thermal_last y) share)) (sym year)
          (let g = grant_of s.register b i share in
          let fit = fits (omega (arith, eqb-false share 0 e)) in
          agree_grant t h g (booked t g) agree (booked_in t g agree.sound fit) fit.open_point_lem)

  pub lines_agree : (n : ℕ) → n ≤ lines_of b → Agree (booked_lines s b n) (grant_lines k b.point b.users shares n)
  unfolding booked_lines grant_lines
  lines_agree zero h = a
  lines_agree (suc n) h =
      subst (λ (share : ℕ). Agree (booked_if (booked_lines s b n) (grant_of s.register b n (share_of s b n))) (grant_if (grant_lines k b.point b.users shares n) (user_of b n) b.point share))
      (sym (answered n h))
      (line_agrees (booked_lines s b n) (grant_lines k b.point b.users shares n) n (share_of s b n) (lines_agree n (omega arith)) (lines_year k b.point b.users shares n ∙ sym a.year) (bookable n h))
