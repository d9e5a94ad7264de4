-- Turn the year, whatever it answers, leaves a sound register sound: sized and in order.
-- Assumes nothing.
use mathlib.Core.Path.{◌≡◌, refl, sym, ap, ◌∙◌}
use mathlib.Core.Bool.{true}
use mathlib.Core.Logic.{⊎_elim}
use mathlib.Core.List.{List}
use Prim.Native.Nat.{ℕ, ◌<◌}
use native.Mathlib.Nat.{not-suc-le-zero, zero-add}
use native.Mathlib.Omega.{arith}
use lib.ListN.{length, length-replicate}
use Rattle.std.proofs.lemmas.List.{ext_get_or}
use Rattle.parts.specs.declared.accounts.Account.{Account}
use Rattle.parts.specs.Limits.{user_count, ledger_length}
use Rattle.amounts.specs.Ranges.{replaced}
use Rattle.parts.specs.Registers.{State, account_at, absent_user, with_commitment}
use Rattle.amounts.specs.Amounts.{year_days}
use Rattle.parts.specs.Accounts.{account_ok}
use Rattle.register.specs.Sound.{Sound}
use Rattle.amounts.proofs.RangeLaws.{replaced_length, replaced_in}
use Rattle.amounts.proofs.AmountLaws.{table_length_lem, table_at}
use Rattle.parts.proofs.AnswerLaws.{leaves_either}
use Rattle.order.proofs.OrderFacts.{InOrder, in_order_lem, Absent, OnFile, account_is, absent_ok, on_file_ok}
use Rattle.turning.specs.TurnYear.{turn_number, settled_at, settled_accounts, turned, turn_after}
use Rattle.turning.proofs.TurnLaws.{TurnFacts, facts as turn_facts}

-- the accounts after it
pub settled_at_lem : (us : List Account) (i : ℕ) → length us ≡ user_count → i < user_count → account_at (settled_accounts us) i ≡ with_commitment (account_at us i) 0
unfolding settled_accounts
settled_at_lem us i size b =
    ap (account_at (replaced us 0 user_count (settled_at us))) (sym (zero-add i))
    ∙ replaced_in us 0 user_count (settled_at us) absent_user i b (omega (arith, size))

pub settled_length : (us : List Account) → length (settled_accounts us) ≡ length us
unfolding settled_accounts
settled_length us = replaced_length us 0 user_count (settled_at us)

-- and accounts each of which is settled are these
pub settled_is : (us vs : List Account) → length us ≡ user_count → length vs ≡ user_count
    → ((i : ℕ) → i < user_count → account_at vs i ≡ with_commitment (account_at us i) 0) → vs ≡ settled_accounts us
settled_is us vs p q each =
    ext_get_or absent_user vs (settled_accounts us) (q ∙ sym (settled_length us ∙ p))
    (λ i b. let h : i < user_count = omega arith in each i h ∙ sym (settled_at_lem us i p h))

settled_ok : (a : Account) → account_ok a ≡ true → account_ok (with_commitment a 0) ≡ true
settled_ok a h =
    ⊎_elim
    (λ (e : Absent a). absent_ok (with_commitment a 0) (record { absent = e.absent; guarantee = e.guarantee; commitment = refl }))
    (λ (e : OnFile a). on_file_ok (with_commitment a 0) (record { filed = e.filed; guarantee = e.guarantee; commitment = omega arith }))
    (account_is a h)

module _ (s : State) (y : ℕ) (sound : Sound s) (w : TurnFacts s y) where
  abbrev vs : List Account
  vs = s.register.accounts

  turned_order : InOrder (turned s y)
  unfolding turned
  turned_order =
      record {
        table_length_lem = table_length_lem s.free (year_days y) s.register.points ∙ w.order.table_length_lem;
        ledger_length_lem = length-replicate {A = ℕ} ledger_length 0;
        few = omega arith;
        year = w.year;
        points = w.order.points;
        accounts = λ i b. ap account_ok (settled_at_lem vs i sound.sized.accounts b) ∙ settled_ok (account_at vs i) (w.order.accounts i b);
        free = λ i k hi hk. let e = table_at s.free (year_days y) s.register.points i k w.order.table_length_lem hi hk in omega (arith, e);
        lines = λ i b. absurd (not-suc-le-zero b);
      }

  turned_sound : Sound (turned s y)
  unfolding turned
  turned_sound =
      record {
        sized = record { points = sound.sized.points; accounts = settled_length vs ∙ sound.sized.accounts };
        order = in_order_lem (turned s y) turned_order;
      }

pub turn_keeps : (s : State) (y : ℕ) → Sound s → Sound (turn_after s y)
unfolding turn_after
turn_keeps s y sound =
    leaves_either Sound (turn_number s y) (turned s y) s (λ h. turned_sound s y sound (turn_facts s y h)) sound
