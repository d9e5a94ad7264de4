-- Laws of place guarantee.
-- Assumes nothing.
use mathlib.Core.Path.{◌≡◌, refl, sym, ap, ◌∙◌}
use mathlib.Core.Bool.{true, false}
use Prim.Native.Nat.{ℕ, ◌≤◌, ◌<◌}
use native.Mathlib.Omega.{arith}
use lib.Dec.{leb, ltb}
use borrow.Author.Tests.{ltb-true, leb-true, lt-ltb, le-leb, lt-leb}
use Rattle.std.proofs.lemmas.Bool.{and_from as both}
use Rattle.days.proofs.Ranges.{and_left, and_right}
use Rattle.parts.specs.declared.registers.Register.{Register}
use Rattle.parts.specs.Limits.{user_count, most_guarantee}
use Rattle.parts.specs.Registers.{State, state, account_at, with_account}
use Rattle.parts.proofs.AnswerLaws.{passes, leaves_new, leaves_old}
use Rattle.order.specs.Order.{in_order}
use Rattle.order.proofs.OrderFacts.{InOrder, ordered, commitment_le, guarantee_le}
use Rattle.placing.specs.PlaceGuarantee.{place_fields, place_questions, place_number, pledged, placed, place_after}

pub fields_user : (u g : ℕ) → place_fields u g ≡ true → u < user_count
fields_user u g h = ltb-true _ _ (and_left (ltb u user_count) (leb g most_guarantee) h)

-- no commitment of a register in order is past the limit of a guarantee
pub commitment_limit : (s : State) (u : ℕ) → in_order s ≡ true → u < user_count → (account_at s.register.accounts u).commitment ≤ most_guarantee
commitment_limit s u h l =
    let ok = (ordered s h).accounts u l in
    omega (arith, commitment_le (account_at s.register.accounts u) ok, guarantee_le (account_at s.register.accounts u) ok)

module _ (s : State) (u g : ℕ) where
  -- what an accepted guarantee tells
  pub record PlaceFacts : Type 0 where
    pub order : InOrder s
    pub user : u < user_count
    pub limit : g ≤ most_guarantee
    pub covers : (account_at s.register.accounts u).commitment ≤ g

  pub facts : place_number s u g ≡ 0 → PlaceFacts
  unfolding place_number
  facts h =
      let q = passes (place_questions s u g) refl h in
      record {
        order = ordered s q.0;
        user = fields_user u g q.1.0;
        limit = leb-true _ _ (and_right (ltb u user_count) (leb g most_guarantee) q.1.0);
        covers = leb-true _ _ q.1.1.0;
      }

  -- the number, at each question that is answered no, and where none is
  pub place_one : in_order s ≡ false → 1 ≡ place_number s u g
  unfolding place_number
  place_one h = rw h

  pub place_two : in_order s ≡ true → place_fields u g ≡ false → 2 ≡ place_number s u g
  unfolding place_number
  place_two h f = rw (h, f)

  -- a guarantee below a commitment is within limits, since no commitment of a register in order is past them
  pub place_six : in_order s ≡ true → u < user_count → g < (account_at s.register.accounts u).commitment → 6 ≡ place_number s u g
  unfolding place_number
  place_six h l b =
      let fields : place_fields u g ≡ true = both (ltb u user_count) (leb g most_guarantee) (lt-ltb _ _ l) (le-leb _ _ (omega (arith, b, commitment_limit s u h l))) in
      rw (h, fields, lt-leb (account_at s.register.accounts u).commitment g b)

  pub place_zero : in_order s ≡ true → place_fields u g ≡ true → (account_at s.register.accounts u).commitment ≤ g → 0 ≡ place_number s u g
  unfolding place_number
  place_zero h f c = rw (h, f, le-leb (account_at s.register.accounts u).commitment g c)

  -- what is left, as the code leaves it
  pub place_new : place_number s u g ≡ 0 → (r : Register) → r ≡ with_account s.register u (pledged (account_at s.register.accounts u) g)
      → state r s.free s.ledger ≡ place_after s u g
  unfolding place_after placed
  place_new h r e = ap (λ (x : Register). state x s.free s.ledger) e ∙ sym (leaves_new (place_number s u g) (placed s u g) s h)

  pub place_old : (place_number s u g ≡ 0 → ⊥) → s ≡ place_after s u g
  unfolding place_after
  place_old h = sym (leaves_old (place_number s u g) (placed s u g) s h)

-- what each exit of `place_guarantee` leaves
pub ruleset place_exits = (place_new, place_old)
