-- What keeps a register in order: one point or one account replaced, and lines whose user stays on file and whose point stays open.
-- Assumes nothing.
use mathlib.Core.Path.{◌≡◌, ap, ◌∙◌}
use mathlib.Core.Bool.{true}
use mathlib.Core.List.{List}
use Prim.Native.Nat.{ℕ, ◌<◌}
use native.Mathlib.Decide.{ℕ_discrete, dec_lt}
use native.Mathlib.Omega.{arith}
use lib.ListN.{get_or, set, length}
use lib.Seq.{get_or-set_same, get_or-set_other, set_out}
use Rattle.parts.specs.declared.points.Point.{Point}
use Rattle.parts.specs.declared.accounts.Account.{Account}
use Rattle.ledger.specs.declared.ledger.Line.{Line}
use Rattle.parts.specs.Registers.{point_at, account_at, closed_point, absent_user}
use Rattle.order.specs.Order.{line_ok}
use Rattle.order.proofs.OrderFacts.{line_facts, line_ok_lem}

-- one element replaced: a property of it and of the others
pub set_keeps : {A : Type 0} (P : A → Type 0) (l : List A) (p : ℕ) (x d : A) (i : ℕ) → p < length l → P x → P (get_or l i d) → P (get_or (set l p x) i d)
set_keeps {A} P l p x d i b px old = go (ℕ_discrete i p)
  where
    go : Dec (i ≡ p) → P (get_or (set l p x) i d)
    go (yes e) = transport_to (ap (λ (j : ℕ). get_or (set l p x) j d) e ∙ get_or-set_same l p x d b) px
      where
        transport_to : {y : A} → y ≡ x → P x → P y
        transport_to e q = rw e q
    go (no ne) = rw (get_or-set_other l p i x d ne) old

-- the point and the account that were written, and the others
pub point_same : (ps : List Point) (p : ℕ) (q : Point) → p < length ps → point_at (set ps p q) p ≡ q
point_same ps p q b = get_or-set_same ps p q closed_point b

pub point_other : (ps : List Point) (p : ℕ) (q : Point) (i : ℕ) → (i ≡ p → ⊥) → point_at (set ps p q) i ≡ point_at ps i
point_other ps p q i ne = get_or-set_other ps p i q closed_point ne

pub account_same : (us : List Account) (u : ℕ) (a : Account) → u < length us → account_at (set us u a) u ≡ a
account_same us u a b = get_or-set_same us u a absent_user b

pub account_other : (us : List Account) (u : ℕ) (a : Account) (i : ℕ) → (i ≡ u → ⊥) → account_at (set us u a) i ≡ account_at us i
account_other us u a i ne = get_or-set_other us u i a absent_user ne

-- an account replaced by one that has a field alike: nobody's field is changed
pub field_kept : (f : Account → ℕ) (us : List Account) (u : ℕ) (a : Account) → f a ≡ f (account_at us u) → (i : ℕ) → f (account_at (set us u a) i) ≡ f (account_at us i)
field_kept f us u a e i = go (ℕ_discrete i u) (dec_lt u (length us))
  where
    go : Dec (i ≡ u) → Dec (u < length us) → f (account_at (set us u a) i) ≡ f (account_at us i)
    go (no ne) h = ap f (account_other us u a i ne)
    go (yes p) (yes h) = rw p (ap f (account_same us u a h) ∙ e)
    go (yes p) (no h) = rw (set_out us u a (omega arith))

-- a line stays in order where its user stays on file and its point stays open
pub line_carry : (y : ℕ) (ps qs : List Point) (us vs : List Account) (l : Line)
    → ((account_at us l.user).on_file ≡ 1 → (account_at vs l.user).on_file ≡ 1)
    → (0 < (point_at ps l.point).kind → 0 < (point_at qs l.point).kind)
    → line_ok y ps us l ≡ true → line_ok y qs vs l ≡ true
line_carry y ps qs us vs l filed opened h =
    let f = line_facts y ps us l h in
    line_ok_lem y qs vs l
    (record {
      user = f.user;
      point = f.point;
      filed = filed f.filed;
      open_point_lem = opened f.open_point_lem;
      kind = f.kind;
      first = f.first;
      month = f.month;
      amount = f.amount;
    })
