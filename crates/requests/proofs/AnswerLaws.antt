-- What an answer tells: an accepted request passed every question, and a refused one leaves what there was. `decided` and
-- `refused` are what the code's decision comes to.
-- Assumes nothing.
use mathlib.Core.Path.{◌≡◌, refl, sym, ap, ◌∙◌}
use mathlib.Core.Bool.{true}
use Prim.Native.Nat.{ℕ, ◌+◌, ◌≤◌, ◌<◌}
use native.Mathlib.Nat.{mul-le-mul}
use native.Mathlib.Omega.{arith}
use borrow.Author.Tests.{ltb-true, leb-true, eqb-true}
use Rattle.std.specs.Prelude.{Ok, Err}
use Rattle.parts.specs.declared.answers.Refusal.{Refusal}
use Rattle.parts.specs.Limits.{line_count}
use Rattle.parts.specs.Registers.{State}
use Rattle.parts.specs.Answers.{number_of_refusal, Passes}
use Rattle.amounts.proofs.RangeLaws.{least_le}
use Rattle.order.proofs.OrderFacts.{InOrder, ordered}
use Rattle.parts.proofs.AnswerLaws.{passes, passed, refusal_number, leaves_new, leaves_old}
use Rattle.conferral.specs.declared.bookings.Grant.{Grant}
use Rattle.conferral.specs.Bookings.{charge_of, booked, has_room, book_after}
use Rattle.conferral.proofs.RoomLaws.{Room, has_room_lem}
use Rattle.products.specs.declared.products.Request.{Request}
use Rattle.products.specs.Products.{is_offered, is_in_year, is_in_time}
use Rattle.request_decision.specs.RequestQuestions.{days_asked, span_place, point_of, account_of, charge_asked, free_throughout, request_questions, amount_granted, grant_of}
use Rattle.requests.specs.RequestCapacity.{request_number, request_amount, request_after}
use Rattle.request_decision.specs.Decisions.{Decides}
use Rattle.request_decision.proofs.RequestLaws.{FieldFacts, fields, grant_limits, granted_free}

module _ (s : State) (q : Request) where
  -- "A request that passes questions 1 to 13 is answered 0, and no other is."
  pub answered_passes : request_number s q ≡ 0 → Passes (request_questions s q)
  unfolding request_number
  answered_passes h = passes (request_questions s q) refl h

  pub passes_answered : Passes (request_questions s q) → request_number s q ≡ 0
  unfolding request_number
  passes_answered h = passed (request_questions s q) h

  -- what an accepted request tells
  pub record RequestFacts : Type 0 where
    pub order : InOrder s
    pub fields : FieldFacts q
    pub open_point_lem : 0 < (point_of s.register q).kind
    pub filed : (account_of s.register q).on_file ≡ 1
    pub offered : is_offered (point_of s.register q) q.product ≡ true
    pub in_year : is_in_year s.register.year q.arrival q.product ≡ true
    pub in_time : is_in_time s.register.year q.arrival q.product ≡ true
    pub covered : (account_of s.register q).commitment + charge_asked s.register q ≤ (account_of s.register q).guarantee
    pub free : free_throughout s.register s.free q ≡ true
    pub line : s.register.lines < line_count

  pub facts : request_number s q ≡ 0 → RequestFacts
  facts h =
      let a = answered_passes h in
      let b = a.1.1.1.1.1 in
      record {
        order = ordered s a.0;
        fields = fields q a.1.0;
        open_point_lem = ltb-true _ _ a.1.1.0;
        filed = eqb-true _ _ a.1.1.1.0;
        offered = a.1.1.1.1.0;
        in_year = b.0;
        in_time = b.1.0;
        covered = leb-true _ _ b.1.1.0;
        free = b.1.1.1.0;
        line = omega (arith, leb-true (s.register.lines + 1) line_count b.1.1.1.1.0);
      }

  -- a grant is at most what is asked
  pub granted_le : amount_granted s.register s.free q ≤ q.amount
  unfolding amount_granted
  granted_le = least_le s.free (span_place s.register q) q.amount (days_asked s.register q)

  -- and more than nothing where the request is accepted
  pub granted_from : request_number s q ≡ 0 → 1 ≤ amount_granted s.register s.free q
  granted_from z =
      let w = facts z in
      ltb-true 0 (amount_granted s.register s.free q) (granted_free s.register s.free q w.fields.amount.from ∙ w.free)

  -- its charge is at most that of what is asked
  charge_le : charge_of s.register (grant_of s.register q (amount_granted s.register s.free q)) ≤ charge_asked s.register q
  charge_le = mul-le-mul (mul-le-mul granted_le (omega arith)) (omega arith)

  -- the register has room for the grant of an accepted request
  pub granted_room : request_number s q ≡ 0 → Room s.register (grant_of s.register q (amount_granted s.register s.free q))
  granted_room z =
      let w = facts z in
      record {
        limits = grant_limits s.register q (amount_granted s.register s.free q) w.fields w.in_year (record { from = granted_from z; to = omega (arith, granted_le, w.fields.amount.to) });
        covered = omega (arith, charge_le, w.covered);
        line = w.line;
      }

  -- so it is booked
  pub accepted_amount : request_number s q ≡ 0 → request_amount s q ≡ amount_granted s.register s.free q
  unfolding request_amount
  accepted_amount z = leaves_new (request_number s q) (amount_granted s.register s.free q) 0 z

  pub accepted_after : request_number s q ≡ 0 → request_after s q ≡ booked s (grant_of s.register q (request_amount s q))
  unfolding request_after
  accepted_after z =
      leaves_new (request_number s q) (booked s (grant_of s.register q (amount_granted s.register s.free q))) s z
      ∙ ap (λ (n : ℕ). booked s (grant_of s.register q n)) (sym (accepted_amount z))

  pub decided : (g : Grant) (t : State) → Decides (request_questions s q) s q (Ok g) → t ≡ book_after s g
      → (0 ≡ request_number s q) × ((g.amount ≡ request_amount s q) × (t ≡ request_after s q))
  unfolding request_number book_after
  decided g t d e =
      let z : request_number s q ≡ 0 = d.0 in
      let amount : g.amount ≡ request_amount s q = ap (λ (x : Grant). x.amount) d.1 ∙ sym (accepted_amount z) in
      let same : booked s g ≡ request_after s q =
      ap (booked s) d.1 ∙ ap (λ (n : ℕ). booked s (grant_of s.register q n)) (sym (accepted_amount z)) ∙ sym (accepted_after z) in
      let fits : has_room s.register g ≡ true = ap (has_room s.register) d.1 ∙ has_room_lem s.register _ (granted_room z) in
      (sym z, (amount, e ∙ rw fits same))

  -- a refused request leaves what there was, and grants nothing
  pub refused_amount : (request_number s q ≡ 0 → ⊥) → 0 ≡ request_amount s q
  unfolding request_amount
  refused_amount h = sym (leaves_old (request_number s q) (amount_granted s.register s.free q) 0 h)

  pub refused_after : (request_number s q ≡ 0 → ⊥) → s ≡ request_after s q
  unfolding request_after
  refused_after h =
      sym (leaves_old (request_number s q) (booked s (grant_of s.register q (amount_granted s.register s.free q))) s h)

  pub refused : (why : Refusal) → Decides (request_questions s q) s q (Err why)
      → (number_of_refusal why ≡ request_number s q) × ((0 ≡ request_amount s q) × (s ≡ request_after s q))
  unfolding request_number
  refused why d =
      let no : request_number s q ≡ 0 → ⊥ = λ z. omega (arith, refusal_number why, d ∙ z) in
      (d, (refused_amount no, refused_after no))
