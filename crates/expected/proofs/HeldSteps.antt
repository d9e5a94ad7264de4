-- What users hold by the ledger is what they hold by the reckoning: what they were granted and took over, less what they ceded.
-- Assumes nothing.
use mathlib.Core.Path.{◌≡◌, refl, sym, ap, ◌∙◌, subst}
use mathlib.Core.Bool.{Bool, true, false, cond, ◌&&◌, true≢false}
use Prim.Native.Nat.{ℕ, ◌+◌, ◌≤◌}
use native.Mathlib.Omega.{arith}
use lib.Dec.{eqb}
use lib.Signed.{mag}
use borrow.Author.Tests.{eqb-true, eq-eqb}
use Rattle.days.specs.Days.{between}
use Rattle.days.proofs.Ranges.{and_left, and_right, Within, within, is_between}
use Rattle.std.proofs.lemmas.Bool.{and_from as both}
use Rattle.parts.specs.Registers.{State}
use Rattle.opening.specs.OpenPoint.{opened}
use Rattle.placing.specs.PlaceGuarantee.{placed}
use Rattle.turning.specs.TurnYear.{turned}
use Rattle.spans.specs.Spans.{annual_first, annual_last}
use Rattle.conferral.specs.declared.bookings.Grant.{Grant}
use Rattle.conferral.proofs.RoomLaws.{LimitFacts}
use Rattle.conferral.proofs.BookedLaws.{BookedIn}
use Rattle.cession_decision.specs.declared.deciding.Cession.{Cession}
use Rattle.cessions.specs.CedeCapacity.{cession_number, cession_after}
use Rattle.cessions.proofs.AnswerLaws.{facts}
use Rattle.expected.specs.Calls.{cede_capacity, answer}
use Rattle.expected.specs.Reckoning.{Reckoning, with_open, with_guarantee, with_new_year, grant_to, entered}
use Rattle.expected.proofs.Agreement.{Agree}
use Rattle.reckoning.proofs.Backing.{holding, Backed, nothing_held}
use Rattle.expected.proofs.Invariant.{HeldBy}
use Rattle.reckoning.proofs.BackingSteps.{holding_now, enough, giver_now, receiver_now, other_now}

-- ---- after a turn of the year nothing is held
pub held_turn : (s : State) (k : Reckoning) (y : ℕ) → HeldBy (turned s y) (with_new_year k y)
unfolding turned
held_turn s k y u p d = ap (λ (n : ℕ). n + 0) (ap mag (nothing_held (turned s y) refl u p d))

-- ---- open point and place guarantee write no line
pub held_open : (s : State) (k : Reckoning) (p kind total rate : ℕ) → HeldBy s k → HeldBy (opened s p kind total rate) (with_open k p kind total rate)
unfolding opened
held_open s k p kind total rate h = h

pub held_place : (s : State) (k : Reckoning) (u g : ℕ) → HeldBy s k → HeldBy (placed s u g) (with_guarantee k u g)
unfolding placed
held_place s k u g h = h

-- ---- a grant that is booked
module _ (s : State) (k : Reckoning) (g : Grant) (t : State) (b : BookedIn s g t) (w : LimitFacts s.register.year g) (backed : Backed s) (h : HeldBy s k) where
  pub held_grant : HeldBy t (grant_to k g.user g.point g.days.first g.days.last g.amount)
  unfolding grant_to
  held_grant u p d = omega (arith, holding_now s g t b w backed u p d, h u p d)

-- ---- cession
module _ (s : State) (k : Reckoning) (c : Cession) (a : Agree s k) (backed : Backed s) (z : cession_number s c ≡ 0) (h : HeldBy s k) where
  -- it is v's, at point p on day d, in a year
  abbrev moves : ℕ → ℕ → ℕ → ℕ → ℕ → Bool
  moves y v u p d = (eqb v u && eqb c.point p) && between (annual_first c.arrival) (annual_last y) d

  record Moves (v u p d : ℕ) : Type 0 where
    pub user : v ≡ u
    pub point : c.point ≡ p
    pub day : Within (annual_first c.arrival) (annual_last s.register.year) d

  moves_facts : (v u p d : ℕ) → moves s.register.year v u p d ≡ true → Moves v u p d
  moves_facts v u p d e =
      let his = and_left (eqb v u && eqb c.point p) (between (annual_first c.arrival) (annual_last s.register.year) d) e in
      record {
        user = eqb-true _ _ (and_left (eqb v u) (eqb c.point p) his);
        point = eqb-true _ _ (and_right (eqb v u) (eqb c.point p) his);
        day = within (annual_first c.arrival) (annual_last s.register.year) d (and_right (eqb v u && eqb c.point p) (between (annual_first c.arrival) (annual_last s.register.year) d) e);
      }

  not_moves : (v u p d : ℕ) → moves s.register.year v u p d ≡ false → u ≡ v → p ≡ c.point → annual_first c.arrival ≤ d → d ≤ annual_last s.register.year → ⊥
  not_moves v u p d e his there from to =
      true≢false (sym (both _ _ (both _ _ (eq-eqb v u (sym his)) (eq-eqb c.point p (sym there))) (is_between (annual_first c.arrival) (annual_last s.register.year) d from to)) ∙ e)

  -- what is held before and after
  moved : (u p d : ℕ) → holding (cession_after s c) u p d + cond (moves s.register.year c.giver u p d) c.amount 0
      ≡ holding s u p d + cond (moves s.register.year c.receiver u p d) c.amount 0
  moved u p d = go (moves s.register.year c.giver u p d) (moves s.register.year c.receiver u p d) refl refl
    where
      go : (gives takes : Bool) → moves s.register.year c.giver u p d ≡ gives → moves s.register.year c.receiver u p d ≡ takes
          → holding (cession_after s c) u p d + cond gives c.amount 0 ≡ holding s u p d + cond takes c.amount 0
      go true true e f = absurd ((facts s c z).fields.apart ((moves_facts _ _ _ _ e).user ∙ sym (moves_facts _ _ _ _ f).user))
      go true false e f =
          let w = moves_facts c.giver u p d e in
          subst (λ (v : ℕ). holding (cession_after s c) v p d + c.amount ≡ holding s v p d + 0) w.user
          (subst (λ (q : ℕ). holding (cession_after s c) c.giver q d + c.amount ≡ holding s c.giver q d + 0) w.point
          (omega (arith, ap mag (giver_now s c a.sound z backed d w.day.from w.day.to), enough s c a.sound z backed d w.day.from w.day.to)))
      go false true e f =
          let w = moves_facts c.receiver u p d f in
          subst (λ (v : ℕ). holding (cession_after s c) v p d + 0 ≡ holding s v p d + c.amount) w.user
          (subst (λ (q : ℕ). holding (cession_after s c) c.receiver q d + 0 ≡ holding s c.receiver q d + c.amount) w.point
          (omega (arith, ap mag (receiver_now s c a.sound z backed d w.day.from w.day.to))))
      go false false e f =
          ap (λ (n : ℕ). n + 0) (ap mag (other_now s c a.sound z backed u p d (not_moves c.giver u p d e) (not_moves c.receiver u p d f)))

  pub held_cession : HeldBy (cession_after s c) (entered k (cede_capacity c) (answer s (cede_capacity c)))
  held_cession u p d =
      let now = subst (λ (y : ℕ). holding (cession_after s c) u p d + cond (moves y c.giver u p d) c.amount 0 ≡ holding s u p d + cond (moves y c.receiver u p d) c.amount 0) a.year (moved u p d) in
      omega (arith, now, h u p d)
