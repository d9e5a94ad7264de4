-- The three ways in which a run ends: too short a buffer, a list of another length, or all calls made. Demand 3 holds of what it leaves.
-- Assumes nothing.
use Prim.Native.Nat.{ℕ, ◌*◌, ◌≤◌, ◌<◌}
use mathlib.Core.Path.{◌≡◌, refl, ap, sym, subst, ◌∙◌}
use mathlib.Core.Bool.{not}
use mathlib.Core.List.{List, ◌++◌}
use native.Mathlib.Omega.{arith}
use lib.Dec.{ltb}
use lib.ListN.{length, take, drop, length-append, length-drop}
use lib.Seq.{length-take-le}
use borrow.Author.Tests.{lt-ltb, le-ltb}
use Rattle.parts.specs.Registers.{State, state, blank_register}
use Rattle.parts.specs.declared.registers.Register.{Register}
use Rattle.parts.specs.declared.answers.Refusal.{Refusal}
use Rattle.parts.specs.Answers.{number_of_refusal}
use Rattle.parts.proofs.AnswerLaws.{leaves_new, leaves_old, refusal_number}
use Rattle.register.specs.Fresh.{fresh_number, fresh_state, fresh_after}
use Rattle.reckoning.specs.Calls.{register_after}
use Rattle.reckoning.specs.Reckoning.{reckoned}
use Rattle.reckoning.specs.Demand3.{Balances, Demand3}
use Rattle.reckoning.proofs.Theorem.{demand_3, fresh_starts}
use Rattle.runs.specs.Runs.{decoded_in, calls_in, answers_to, lines_from, printed, has_room, run_number, run_leaves, run_bytes, run_length, Accounted}
use Rattle.runs.specs.Steps.{count_in, left_by_all}
use Rattle.runs.proofs.RecordLaws.{record_count}
use Rattle.runs.proofs.Listed.{left_listed, answers_listed}

-- demand 3, of whatever calls an input holds
accounted : (input : List ℕ) (left : State) → left ≡ register_after 2000 (calls_in input) → Accounted input left
accounted input left e =
    let holds : Demand3 2000 (calls_in input) = demand_3 2000 refl (calls_in input) in
    record {
      listed = e;
      balances = subst (λ (s : State). Balances s (reckoned 2000 (calls_in input))) (sym e) holds.after_all;
      answered = answers_listed (fresh_state 2000) (decoded_in input);
      demand3 = holds;
    }

-- the room that the code asks for
pub room_for_all : (bytes room count : ℕ) → count ≡ count_in bytes → 33 * count ≤ room → 33 * count_in bytes ≤ room
room_for_all bytes room count e h = omega (arith, e, h)

module _ (input f ls out : List ℕ) where
  -- number, state, buffer and count, as the contract has them
  abbrev pub Ends : ℕ → State → List ℕ → ℕ → Type 0
  Ends number left bytes written =
      (number ≡ run_number input f ls out)
      × ((left ≡ run_leaves input f ls out)
      × ((bytes ≡ run_bytes input f ls out)
      × ((written ≡ run_length input f ls out)
      × ((number ≡ 0 → Accounted input left)
      × ((written ≤ length bytes) × (written ≡ length (take written bytes)))))))

  room_asked : has_room input out ≡ not (ltb (length out) (33 * count_in (length input)))
  room_asked = ap (λ (n : ℕ). not (ltb (length out) (33 * n))) (record_count 2000 input)

  number_short : length out < 33 * count_in (length input) → run_number input f ls out ≡ 2
  unfolding run_number
  number_short h = rw (room_asked, lt-ltb (length out) (33 * count_in (length input)) h)

  number_fresh : 33 * count_in (length input) ≤ length out → run_number input f ls out ≡ fresh_number 2000 f ls
  unfolding run_number fresh_number
  number_fresh h = rw (room_asked, le-ltb (length out) (33 * count_in (length input)) h)

  -- a run that is refused
  refused : (number : ℕ) (left : State) → number ≡ run_number input f ls out → (number ≡ 0 → ⊥) → left ≡ state (blank_register 0) f ls
      → Ends number left out 0
  unfolding run_leaves run_bytes run_length
  refused number left en some el =
      let n : ℕ = run_number input f ls out in
      let old : n ≡ 0 → ⊥ = λ z. some (en ∙ z) in (
        en,
        (
          el ∙ sym (leaves_old n _ _ old),
          (sym (leaves_old n _ _ old), (sym (leaves_old n _ _ old), (λ z. absurd (some z), (omega arith, refl)))),
        ),
      )

  pub too_short : (r : Register) → length out < 33 * count_in (length input) → r ≡ blank_register 0 → Ends 2 (state r f ls) out 0
  too_short r h e = refused 2 (state r f ls) (sym (number_short h)) (λ z. omega (arith, z)) (ap (λ (x : Register). state x f ls) e)

  pub other_length : (why : Refusal) (left : State) → 33 * count_in (length input) ≤ length out → number_of_refusal why ≡ fresh_number 2000 f ls
      → left ≡ fresh_after 2000 f ls → Ends (number_of_refusal why) left out 0
  unfolding fresh_after
  other_length why left h en el =
      let some : number_of_refusal why ≡ 0 → ⊥ = λ z. omega (arith, refusal_number why, z) in
      refused (number_of_refusal why) left (en ∙ sym (number_fresh h)) some (el ∙ leaves_old (fresh_number 2000 f ls) _ _ (λ z. some (en ∙ z)))

  -- a run that makes its calls
  pub all_made : (start left : State) (bytes : List ℕ) (written : ℕ) → 33 * count_in (length input) ≤ length out → fresh_number 2000 f ls ≡ 0
      → start ≡ fresh_after 2000 f ls → left ≡ left_by_all start (decoded_in input)
      → written ≡ length (lines_from 1 (answers_to start (decoded_in input)))
      → bytes ≡ lines_from 1 (answers_to start (decoded_in input)) ++ drop written out → written ≤ length out
      → Ends 0 left bytes written
  unfolding run_leaves run_bytes run_length
  all_made start left bytes written h z es el ew eb fits =
      let n : ℕ = run_number input f ls out in
      let zero_number : n ≡ 0 = number_fresh h ∙ z in
      let fresh : start ≡ fresh_state 2000 = es ∙ fresh_starts 2000 f ls z in
      let listed : left ≡ register_after 2000 (calls_in input) =
      el ∙ (ap (λ (s : State). left_by_all s (decoded_in input)) fresh ∙ left_listed (fresh_state 2000) (decoded_in input)) in
      let text : lines_from 1 (answers_to start (decoded_in input)) ≡ printed input =
      ap (λ (s : State). lines_from 1 (answers_to s (decoded_in input))) fresh in
      let count : written ≡ length (printed input) = ew ∙ ap length text in
      let whole : bytes ≡ printed input ++ drop (length (printed input)) out =
      eb ∙ (ap (λ (t : List ℕ). t ++ drop written out) text ∙ ap (λ (m : ℕ). printed input ++ drop m out) count) in
      let within : written ≤ length bytes = omega (arith, fits, ap length eb, length-append (lines_from 1 (answers_to start (decoded_in input))) (drop written out), length-drop written out, ew) in (
        sym zero_number,
        (
          listed ∙ sym (leaves_new n _ _ zero_number),
          (
            whole ∙ sym (leaves_new n _ _ zero_number),
            (
              count ∙ sym (leaves_new n _ _ zero_number),
              (λ e. accounted input left listed, (within, sym (length-take-le written bytes within))),
            ),
          ),
        ),
      )
