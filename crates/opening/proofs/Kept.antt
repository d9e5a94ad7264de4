-- Open point, whatever it answers, leaves a sound register sound: sized and in order.
-- Assumes nothing.
use mathlib.Core.Path.{◌≡◌, sym, ap, ◌∙◌, subst}
use mathlib.Core.Bool.{true}
use mathlib.Core.List.{List}
use Prim.Native.Nat.{ℕ, ◌≤◌, ◌<◌}
use native.Mathlib.Decide.{ℕ_discrete}
use native.Mathlib.Omega.{arith}
use lib.ListN.{get_or, set, length, length-set}
use Rattle.parts.specs.declared.points.Point.{Point}
use Rattle.parts.specs.Limits.{point_count, row_length}
use Rattle.parts.specs.Registers.{State, point_at, closed_point, point}
use Rattle.ledger.specs.Ledger.{line_at}
use Rattle.amounts.specs.Amounts.{year_days, entry_at, capacity, freed_row}
use Rattle.parts.specs.Points.{point_ok}
use Rattle.register.specs.Sound.{Sound}
use Rattle.amounts.proofs.AmountLaws.{row_length_lem, row_in, row_out}
use Rattle.parts.proofs.AnswerLaws.{leaves_either}
use Rattle.order.proofs.OrderFacts.{InOrder, in_order_lem, open_ok}
use Rattle.order.proofs.OrderKept.{set_keeps, point_same, point_other, line_carry}
use Rattle.opening.specs.OpenPoint.{open_number, opened, open_after}
use Rattle.opening.proofs.OpenLaws.{OpenFacts, facts as open_facts}

module _ (s : State) (p kind total rate : ℕ) (sound : Sound s) (w : OpenFacts s p kind total rate) where
  abbrev q : Point
  q = point kind total rate

  abbrev ps : List Point
  ps = s.register.points

  abbrev days : ℕ
  days = year_days s.register.year

  in_points : p < length ps
  in_points = omega (arith, sound.sized.points, w.point_from)

  abbrev Fits : ℕ → ℕ → Type 0
  Fits k j = get_or (freed_row s.free p days q) (entry_at j k) 0 ≤ capacity days (point_at (set ps p q) j) k

  -- its row holds its capacity, and the other rows what they held
  row_here : (k : ℕ) → k < row_length → Fits k p
  row_here k hk =
      let a = row_in s.free p days q k hk (omega (arith, w.order.table_length_lem, w.point_from)) in
      let b = ap (λ (x : Point). capacity days x k) (point_same ps p q in_points) in
      omega (arith, a, b)

  row_there : (i k : ℕ) → i < point_count → k < row_length → (i ≡ p → ⊥) → Fits k i
  row_there i k hi hk ne =
      let a = row_out s.free p days q i k hk ne in
      let b = ap (λ (x : Point). capacity days x k) (point_other ps p q i ne) in
      omega (arith, a, b, w.order.free i k hi hk)

  opened_free : (i k : ℕ) → i < point_count → k < row_length → Fits k i
  opened_free i k hi hk = go (ℕ_discrete i p)
    where
      go : Dec (i ≡ p) → Fits k i
      go (yes e) = subst (Fits k) (sym e) (row_here k hk)
      go (no ne) = row_there i k hi hk ne

  -- an open point stays open, and the one opened is open too
  stays_open : (i : ℕ) → 0 < (point_at ps i).kind → 0 < (point_at (set ps p q) i).kind
  stays_open i h =
      set_keeps (λ (x : Point). 0 < x.kind) ps p q closed_point i in_points (omega (arith, w.point_open.kind.from)) h

  opened_order : InOrder (opened s p kind total rate)
  unfolding opened
  opened_order =
      record {
        table_length_lem = row_length_lem s.free p days q ∙ w.order.table_length_lem;
        ledger_length_lem = w.order.ledger_length_lem;
        few = w.order.few;
        year = w.order.year;
        points = λ i b. set_keeps (λ (x : Point). point_ok x ≡ true) ps p q closed_point i in_points (open_ok q w.point_open) (w.order.points i b);
        accounts = w.order.accounts;
        free = opened_free;
        lines = λ i b. line_carry s.register.year ps (set ps p q) s.register.accounts s.register.accounts (line_at s.ledger i) (λ f. f) (stays_open _) (w.order.lines i b);
      }

  opened_sound : Sound (opened s p kind total rate)
  unfolding opened
  opened_sound =
      record {
        sized = record { points = length-set ps p q ∙ sound.sized.points; accounts = sound.sized.accounts };
        order = in_order_lem (opened s p kind total rate) opened_order;
      }

pub open_keeps : (s : State) (p kind total rate : ℕ) → Sound s → Sound (open_after s p kind total rate)
unfolding open_after
open_keeps s p kind total rate sound =
    leaves_either Sound (open_number s p kind total rate) (opened s p kind total rate) s
    (λ h. opened_sound s p kind total rate sound (open_facts s p kind total rate h))
    sound
