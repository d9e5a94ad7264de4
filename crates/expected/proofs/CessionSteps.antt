-- A cession, in the register and in the reckoning: they agree again.
-- Assumes nothing.
use mathlib.Core.Path.{◌≡◌, refl, sym, ap, ap₂, ◌∙◌}
use mathlib.Core.Bool.{Bool, true, false, cond}
use mathlib.Core.List.{List}
use Prim.Native.Nat.{ℕ, ◌+◌}
use native.Mathlib.Omega.{arith}
use lib.Dec.{eqb}
use lib.ListN.{get_or}
use borrow.Author.Tests.{eqb-true, eqb-false}
use Rattle.parts.specs.declared.points.Point.{Point}
use Rattle.parts.specs.declared.accounts.Account.{Account}
use Rattle.parts.specs.Registers.{State, point_at, account_at}
use Rattle.amounts.specs.Amounts.{entry_of, free_on}
use Rattle.parts.specs.Points.{is_open}
use Rattle.cession_decision.specs.declared.deciding.Cession.{Cession}
use Rattle.cession_decision.specs.CessionQuestions.{charge_of}
use Rattle.cessions.specs.CedeCapacity.{cession_number, cession_after}
use Rattle.cessions.proofs.AnswerLaws.{facts}
use Rattle.cessions.proofs.CededLaws.{CededIn, cession_ceded}
use Rattle.expected.specs.Reckoning.{Reckoning, charges, ceded_by, ceded_charge, granted_on, entered}
use Rattle.expected.specs.Calls.{cede_capacity, answer}
use Rattle.expected.proofs.Agreement.{Agree, charge_ceded}

module _ (s : State) (k : Reckoning) (c : Cession) (a : Agree s k) (z : cession_number s c ≡ 0) where
  abbrev t : State
  t = cession_after s c

  b : CededIn s c t
  b = cession_ceded s c a.sound z

  -- the charge is the same by the register and by the reckoning
  same_charge : charge_of s.register c ≡ ceded_charge k c
  same_charge = charge_ceded s k a c

  apart : c.giver ≡ c.receiver → ⊥
  apart = (facts s c z).fields.apart

  commitment_at : {i j : ℕ} → i ≡ j → (account_at t.register.accounts i).commitment ≡ (account_at t.register.accounts j).commitment
  commitment_at e = ap (λ (i : ℕ). (account_at t.register.accounts i).commitment) e

  commitment_before : {i j : ℕ} → i ≡ j → (account_at s.register.accounts i).commitment ≡ (account_at s.register.accounts j).commitment
  commitment_before e = ap (λ (i : ℕ). (account_at s.register.accounts i).commitment) e

  -- what the giver ceded and the receiver took over
  balance_now : (u : ℕ) → (account_at t.register.accounts u).commitment + (cond (eqb c.giver u) (ceded_charge k c) 0 + ceded_by k u)
      ≡ cond (eqb c.receiver u) (ceded_charge k c) 0 + charges k u
  balance_now u = go (eqb c.giver u) (eqb c.receiver u) refl refl
    where
      go : (gives takes : Bool) → eqb c.giver u ≡ gives → eqb c.receiver u ≡ takes
          → (account_at t.register.accounts u).commitment + (cond gives (ceded_charge k c) 0 + ceded_by k u) ≡ cond takes (ceded_charge k c) 0 + charges k u
      go true true e f = absurd (apart (eqb-true _ _ e ∙ sym (eqb-true _ _ f)))
      go true false e f =
          let same : c.giver ≡ u = eqb-true _ _ e in
          omega (arith, commitment_at same, b.giver, commitment_before same, same_charge, a.balance u)
      go false true e f =
          let same : c.receiver ≡ u = eqb-true _ _ f in
          omega (arith, commitment_at same, b.receiver, commitment_before same, same_charge, a.balance u)
      go false false e f =
          let now : (account_at t.register.accounts u).commitment ≡ (account_at s.register.accounts u).commitment =
          ap (λ (x : Account). x.commitment) (b.other_user u (λ q. eqb-false _ _ e (sym q)) (λ q. eqb-false _ _ f (sym q))) in
          omega (arith, now, a.balance u)

  -- "Free amounts don't move."
  free_still : (p d : ℕ) → free_on t p d ≡ free_on s p d
  free_still p d =
      ap₂ (λ (y : ℕ) (f : List ℕ). get_or f (entry_of y p d) 0) b.year b.free

  pub agree_cession : Agree (cession_after s c) (entered k (cede_capacity c) (answer s (cede_capacity c)))
  agree_cession =
      record {
        sound = b.sound;
        year = b.year ∙ a.year;
        opened = λ p. ap (λ (ps : List Point). is_open (point_at ps p)) b.points ∙ a.opened p;
        kind = λ p. ap (λ (ps : List Point). (point_at ps p).kind) b.points ∙ a.kind p;
        total = λ p. ap (λ (ps : List Point). (point_at ps p).total) b.points ∙ a.total p;
        rate = λ p. ap (λ (ps : List Point). (point_at ps p).rate) b.points ∙ a.rate p;
        filed = λ u. ap (λ (n : ℕ). eqb n 1) (b.on_file u) ∙ a.filed u;
        guarantee = λ u. b.guarantees u ∙ a.guarantee u;
        balance = λ u. omega (arith, balance_now u);
        lines = omega (arith, b.lines, a.lines);
        sums = λ p d o i. ap (λ (n : ℕ). granted_on k p d + n) (free_still p d) ∙ a.sums p d o i;
        none = a.none;
      }
