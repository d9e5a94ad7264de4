-- A request that should be answered 0 should be granted its amount, or be cut as is due.
-- Assumes nothing.
use mathlib.Core.Path.{◌≡◌, refl, subst}
use mathlib.Core.Logic.{⊎_elim}
use Prim.Native.Nat.{ℕ, ◌+◌, ◌-◌, ◌≤◌, ◌<◌}
use native.Mathlib.Omega.{arith}
use lib.Dec.{ltb}
use borrow.Author.Tests.{ltb-true}
use Rattle.expected.proofs.SmallestLaws.{smallest_le, smallest_at, smallest_is}
use Rattle.parts.proofs.AnswerLaws.{passes}
use Rattle.parts.proofs.TestLaws.{all_at}
use Rattle.products.specs.declared.products.Request.{Request}
use Rattle.request_decision.proofs.RequestLaws.{fields}
use Rattle.expected.specs.Calls.{request_capacity}
use Rattle.expected.specs.Reckoning.{Reckoning, span_first_by}
use Rattle.expected.specs.Expected.{free_in_span, days_asked_by, request_questions_by, amount_granted_by, number_by}
use Rattle.expected.specs.Demand3.{InSpan, free_for, Fair}

-- ---- what is granted
module _ (k : Reckoning) (q : Request) (z : number_by k (request_capacity q) ≡ 0) where
  abbrev granted : ℕ
  granted = amount_granted_by k q

  -- at most what is free on each day of the span
  least : (d : ℕ) → InSpan k q d → granted ≤ free_for k q d
  least d h =
      let e : span_first_by k q + (d - span_first_by k q) ≡ d = omega (arith, h.0) in
      subst (λ (x : ℕ). granted ≤ free_for k q x) e
      (smallest_at q.amount (free_in_span k q) (days_asked_by k q) (d - span_first_by k q) (omega (arith, h.0, h.1)))

  -- where it is cut, one of the days has just that
  reached : granted < q.amount → (d : ℕ) × (InSpan k q d × (free_for k q d ≡ granted))
  reached h =
      ⊎_elim (λ (e : granted ≡ q.amount). absurd (omega (arith, e, h)))
      (λ (r : (i : ℕ) × ((i < days_asked_by k q) × (free_in_span k q i ≡ granted))). (span_first_by k q + r.0, ((omega arith, omega (arith, r.1.0)), r.1.1)))
      (smallest_is q.amount (free_in_span k q) (days_asked_by k q))

  -- questions 2 and 12: something is asked, and something is free on every day
  some : 0 < granted
  some =
      let a = passes (request_questions_by k q) refl z in
      let asked = (fields q a.0).amount in
      ⊎_elim (λ (e : granted ≡ q.amount). omega (arith, e, asked.from))
      (λ (r : (i : ℕ) × ((i < days_asked_by k q) × (free_in_span k q i ≡ granted))).
      omega (arith, r.1.1, ltb-true 0 (free_in_span k q r.0) (all_at (λ i. ltb 0 (free_in_span k q i)) (days_asked_by k q) r.0 a.1.1.1.1.1.1.1.0 r.1.0)))
      (smallest_is q.amount (free_in_span k q) (days_asked_by k q))

  pub fair : Fair k q granted
  fair =
      record {
        cut_if = λ d i h. omega (arith, least d i, h);
        cut_only_if = λ h. let t = reached h in (t.0, (t.1.0, omega (arith, t.1.1, h)));
        smallest = λ h. least;
        reached = reached;
        whole = λ n. let g = smallest_le q.amount (free_in_span k q) (days_asked_by k q) in omega (arith, g, n);
        some = some;
      }
