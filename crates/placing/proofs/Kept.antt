-- Place guarantee, whatever it answers, leaves a sound register sound: sized and in order.
-- Assumes nothing.
use mathlib.Core.Path.{◌≡◌, refl, ◌∙◌}
use mathlib.Core.Bool.{true}
use mathlib.Core.List.{List}
use Prim.Native.Nat.{ℕ, ◌<◌}
use native.Mathlib.Omega.{arith}
use lib.ListN.{set, length, length-set}
use Rattle.parts.specs.declared.accounts.Account.{Account}
use Rattle.parts.specs.Registers.{State, account_at, absent_user}
use Rattle.ledger.specs.Ledger.{line_at}
use Rattle.parts.specs.Accounts.{account_ok}
use Rattle.register.specs.Sound.{Sound}
use Rattle.parts.proofs.AnswerLaws.{leaves_either}
use Rattle.order.proofs.OrderFacts.{InOrder, in_order_lem, on_file_ok}
use Rattle.order.proofs.OrderKept.{set_keeps, line_carry}
use Rattle.placing.specs.PlaceGuarantee.{place_number, pledged, placed, place_after}
use Rattle.placing.proofs.PlaceLaws.{PlaceFacts, facts as place-facts}

module _ (s : State) (u g : ℕ) (sound : Sound s) (w : PlaceFacts s u g) where
  abbrev us : List Account
  us = s.register.accounts

  abbrev a : Account
  a = pledged (account_at us u) g

  in_accounts : u < length us
  in_accounts = omega (arith, sound.sized.accounts, w.user)

  pledged_ok : account_ok a ≡ true
  pledged_ok = on_file_ok a (record { filed = refl; guarantee = w.limit; commitment = w.covers })

  -- who is on file stays on file
  stays_filed : (i : ℕ) → (account_at us i).on_file ≡ 1 → (account_at (set us u a) i).on_file ≡ 1
  stays_filed i h = set_keeps (λ (x : Account). x.on_file ≡ 1) us u a absent_user i in_accounts refl h

  placed_order : InOrder (placed s u g)
  unfolding placed
  placed_order =
      record {
        table_length_lem = w.order.table_length_lem;
        ledger_length_lem = w.order.ledger_length_lem;
        few = w.order.few;
        year = w.order.year;
        points = w.order.points;
        accounts = λ i b. set_keeps (λ (x : Account). account_ok x ≡ true) us u a absent_user i in_accounts pledged_ok (w.order.accounts i b);
        free = w.order.free;
        lines = λ i b. line_carry s.register.year s.register.points s.register.points us (set us u a) (line_at s.ledger i) (stays_filed _) (λ f. f) (w.order.lines i b);
      }

  placed_sound : Sound (placed s u g)
  unfolding placed
  placed_sound =
      record {
        sized = record { points = sound.sized.points; accounts = length-set us u a ∙ sound.sized.accounts };
        order = in_order_lem (placed s u g) placed_order;
      }

pub place_keeps : (s : State) (u g : ℕ) → Sound s → Sound (place_after s u g)
unfolding place_after
place_keeps s u g sound =
    leaves_either Sound (place_number s u g) (placed s u g) s (λ h. placed_sound s u g sound (place-facts s u g h)) sound
