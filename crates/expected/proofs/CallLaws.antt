-- Laws of any call: when it is answered 0, what it then does, that a refused one leaves what there was and grants nothing, and that
-- every one leaves a sound register sound.
-- Assumes nothing.
use mathlib.Core.Path.{◌≡◌, refl, sym, ap, ◌∙◌}
use mathlib.Core.Logic.{◌↔◌}
use mathlib.Core.List.{[]}
use Prim.Native.Nat.{ℕ}
use Rattle.parts.specs.Registers.{State}
use Rattle.parts.specs.Answers.{Passes}
use Rattle.parts.proofs.AnswerLaws.{passes, passed, leaves_new, leaves_old}
use Rattle.register.specs.Sound.{Sound}
use Rattle.opening.specs.OpenPoint.{open_questions, open_number, opened, open_after}
use Rattle.placing.specs.PlaceGuarantee.{place_questions, place_number, placed, place_after}
use Rattle.turning.specs.TurnYear.{turn_questions, turn_number, turned, turn_after}
use Rattle.conferral.specs.Bookings.{booked}
use Rattle.request_decision.specs.RequestQuestions.{grant_of}
use Rattle.shares.specs.ShareLines.{shares_of, numbers_of}
use Rattle.batches.specs.ConferBatch.{batch_number}
use Rattle.opening.proofs.OpenLaws.{open_old}
use Rattle.placing.proofs.PlaceLaws.{place_old}
use Rattle.turning.proofs.TurnLaws.{turn_old}
use Rattle.turning.proofs.Kept.{turn_keeps}
use Rattle.opening.proofs.Kept.{open_keeps}
use Rattle.placing.proofs.Kept.{place_keeps}
use Rattle.requests.proofs.ConferredLaws.{request_keeps}
use Rattle.batches.proofs.BookedLaws.{batch_keeps}
use Rattle.cessions.proofs.CededLaws.{cession_keeps}
use Rattle.requests.proofs.AnswerLaws.{answered_passes as request-passes, passes_answered as request-passed, accepted_amount as request-amount, accepted_after as request-new, refused_amount as request-nothing, refused_after as request-old}
use Rattle.batches.proofs.AnswerLaws.{answered_passes as batch-passes, passes_answered as batch-passed, accepted_after as batch-new, refused_after as batch-old}
use Rattle.cessions.proofs.AnswerLaws.{answered_passes as cession-passes, passes_answered as cession-passed, accepted_after as cession-new, refused_amount as cession-nothing, refused_after as cession-old}
use Rattle.expected.specs.Calls.{Call, open_point, place_guarantee, request_capacity, confer_batch, cede_capacity, turn_year, questions, answer, done, after}

-- "answered 0 exactly when it passes all questions put to it"
pub answered : (s : State) (c : Call) → ((answer s c).number ≡ 0) ↔ Passes (questions s c)
unfolding open_number place_number turn_number
answered s (open_point p kind total rate) =
    (passes (open_questions s p kind total rate) refl, passed (open_questions s p kind total rate))
answered s (place_guarantee u g) = (passes (place_questions s u g) refl, passed (place_questions s u g))
answered s (request_capacity q) = (request-passes s q, request-passed s q)
answered s (confer_batch b m n) = (batch-passes s b m n, batch-passed s b m n)
answered s (cede_capacity c) = (cession-passes s c, cession-passed s c)
answered s (turn_year y) = (passes (turn_questions s y) refl, passed (turn_questions s y))

-- "A call answered 0 does to the register what "The changing calls" says."
pub altered : (s : State) (c : Call) → (answer s c).number ≡ 0 → after s c ≡ done s c
unfolding open_after place_after turn_after
altered s (open_point p kind total rate) z = leaves_new (open_number s p kind total rate) (opened s p kind total rate) s z
altered s (place_guarantee u g) z = leaves_new (place_number s u g) (placed s u g) s z
altered s (request_capacity q) z =
    request-new s q z ∙ ap (λ (n : ℕ). booked s (grant_of s.register q n)) (request-amount s q z)
altered s (confer_batch b m n) z = batch-new s b m n z
altered s (cede_capacity c) z = cession-new s c z
altered s (turn_year y) z = leaves_new (turn_number s y) (turned s y) s z

-- "A refused call alters nothing."
pub unaltered : (s : State) (c : Call) → ((answer s c).number ≡ 0 → ⊥) → s ≡ after s c
unaltered s (open_point p kind total rate) refused = open_old s p kind total rate refused
unaltered s (place_guarantee u g) refused = place_old s u g refused
unaltered s (request_capacity q) refused = request-old s q refused
unaltered s (confer_batch b m n) refused = batch-old s b m n refused
unaltered s (cede_capacity c) refused = cession-old s c refused
unaltered s (turn_year y) refused = turn_old s y refused

-- and grants nothing
pub nothing_granted : (s : State) (c : Call) → ((answer s c).number ≡ 0 → ⊥)
    → ((answer s c).amount ≡ 0) × (((answer s c).shares ≡ []) × ((answer s c).numbers ≡ []))
nothing_granted s (open_point p kind total rate) refused = (refl, (refl, refl))
nothing_granted s (place_guarantee u g) refused = (refl, (refl, refl))
nothing_granted s (request_capacity q) refused = (sym (request-nothing s q refused), (refl, refl))
nothing_granted s (confer_batch b m n) refused =
    (refl, (leaves_old (batch_number s b m n) (shares_of s b) [] refused, leaves_old (batch_number s b m n) (numbers_of s b) [] refused))
nothing_granted s (cede_capacity c) refused = (sym (cession-nothing s c refused), (refl, refl))
nothing_granted s (turn_year y) refused = (refl, (refl, refl))

-- every call, whatever it is answered, leaves a sound register sound: one that no list led to, too
pub call_sound : (s : State) (c : Call) → Sound s → Sound (after s c)
call_sound s (open_point p kind total rate) sound = open_keeps s p kind total rate sound
call_sound s (place_guarantee u g) sound = place_keeps s u g sound
call_sound s (request_capacity q) sound = request_keeps s q sound
call_sound s (confer_batch b m n) sound = batch_keeps s b m n sound
call_sound s (cede_capacity c) sound = cession_keeps s c sound
call_sound s (turn_year y) sound = turn_keeps s y sound
