-- What a refusal tells: the question with its number was answered no, and each one before it yes. For 11, 12 and 13 also in plain
-- words: nobody is told that nothing is free, or that no line is left, while something is.
-- Assumes nothing.
use mathlib.Core.Path.{◌≡◌, refl, ap, ◌∙◌}
use mathlib.Core.Bool.{true}
use Prim.Native.Nat.{ℕ, ◌+◌, ◌≤◌, ◌<◌}
use native.Mathlib.Omega.{arith}
use lib.ListN.{get_or}
use borrow.Author.Tests.{leb-false, ltb-false}
use Rattle.parts.specs.Limits.{line_count}
use Rattle.parts.specs.Registers.{State}
use Rattle.amounts.specs.Amounts.{entry_of, free_on}
use Rattle.parts.proofs.TestLaws.{fails_at}
use Rattle.order.proofs.OrderFacts.{ordered}
use Rattle.parts.proofs.QuestionLaws.{number_at, lone, RefusedAt, refused_at}
use Rattle.spans.proofs.SpanLaws.{span_facts}
use Rattle.products.specs.declared.products.Request.{Request}
use Rattle.request_decision.specs.RequestQuestions.{span_first, span_last, days_asked, span_place, account_of, charge_asked, is_free, request_questions}
use Rattle.requests.specs.RequestCapacity.{request_number}

module _ (s : State) (q : Request) where
  -- the k-th of the ten questions, from 0 on
  pub refused_by : (k : ℕ) → lone (request_questions s q) k ≡ true → 0 < number_at (request_questions s q) k → request_number s q ≡ number_at (request_questions s q) k → RefusedAt (request_questions s q) k
  unfolding request_number
  refused_by k l p h = refused_at (request_questions s q) k l p h

  -- 11: the charge of the asked amount would take the commitment past the guarantee
  pub not_covered : request_number s q ≡ 11
      → (account_of s.register q).guarantee < (account_of s.register q).commitment + charge_asked s.register q
  not_covered h = leb-false _ _ (refused_by 7 refl (omega arith) h).1.1.1.1.1.1.1

  -- 12: on some day of the span nothing is free
  pub nothing_free : request_number s q ≡ 12
      → (d : ℕ) × ((span_first s.register q ≤ d) × ((d ≤ span_last s.register q) × (free_on s q.point d ≡ 0)))
  nothing_free h =
      let t = (refused_by 8 refl (omega arith) h).1.1.1.1.1 in
      let span = span_facts s.register.year q.arrival (span_first s.register q) (span_last s.register q) t.0 in
      let r = fails_at (is_free s.free (span_place s.register q)) (days_asked s.register q) t.1.1.1 in
      let e : entry_of s.register.year q.point (span_first s.register q + r.0) ≡ span_place s.register q + r.0 = omega (arith, span.fit.begins) in
      let z = ltb-false 0 (get_or s.free (span_place s.register q + r.0) 0) r.1.1 in
      (span_first s.register q + r.0, (omega arith, (omega (arith, r.1.0, span.fit.ordered), ap (λ (j : ℕ). get_or s.free j 0) e ∙ omega (arith, z))))

  -- 13: all 2,048 lines are used
  pub ledger_full : request_number s q ≡ 13 → s.register.lines ≡ line_count
  ledger_full h =
      let t = refused_by 9 refl (omega arith) h in
      let l = leb-false (s.register.lines + 1) line_count t.1.1.1.1.1.1.1.1.1 in
      omega (arith, l, (ordered s t.0).few)
