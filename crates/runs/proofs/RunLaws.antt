-- The loop over the records: what is written so far, and that what is still to come makes it the whole.
-- Assumes nothing.
use Prim.Native.Nat.{ℕ, ◌+◌, ◌*◌, ◌/◌, ◌≤◌, ◌<◌, min}
use mathlib.Core.Path.{◌≡◌, refl, ap, sym, ◌∙◌}
use mathlib.Core.List.{List, [], ◌∷◌, ◌++◌, append_assoc, append-nil}
use native.Mathlib.Nat.{zero-add}
use native.Mathlib.Omega.{arith}
use lib.ListN.{length, drop, length-append}
use lib.Seq.{sets, sets-eq}
use Rattle.parts.specs.Registers.{State}
use Rattle.history.specs.declared.changes.Change.{Change}
use Rattle.std.specs.Prelude.{Option}
use Rattle.printing.proofs.WritingLaws.{sets_append, place_put, bytes_put}
use Rattle.records.specs.Records.{decoded}
use Rattle.runs.specs.Runs.{records_of, decoded_all, decoded_in, answer_to, left_by, answers_to, line_of, lines_from}
use Rattle.runs.specs.Steps.{count_in, left_by_all}
use Rattle.runs.proofs.RecordLaws.{rest_next, rest_none}

-- after k records, from the register and the lists s₀ and the buffer o₀, there are s and o, and the next place is p; what is left of the
-- input are the records of some bytes, at most so many
pub record Running (input : List ℕ) (s₀ : State) (o₀ : List ℕ) (k most size : ℕ) (rest : List ℕ) (s : State) (o : List ℕ) (p : ℕ) : Type 0 where
  pub by : size ≡ 24
  pub counted : k + min most ((length rest + 23) / 24) ≡ count_in (length input)
  pub room : p ≤ 33 * k
  pub text : List ℕ
  pub place : p ≡ length text
  pub bytes : o ≡ sets o₀ 0 text
  pub whole : text ++ lines_from (k + 1) (answers_to s (decoded_all (records_of most rest))) ≡ lines_from 1 (answers_to s₀ (decoded_in input))
  pub left : left_by_all s (decoded_all (records_of most rest)) ≡ left_by_all s₀ (decoded_in input)

pub running_none : (input : List ℕ) (s₀ : State) (o₀ : List ℕ) {k most size : ℕ} {rest : List ℕ} → k ≡ 0 → most ≡ 2000 → size ≡ 24 → rest ≡ input
    → Running input s₀ o₀ k most size rest s₀ o₀ 0
running_none input s₀ o₀ ek em es er = rw (ek, em, er) record {
  by = es;
  counted = omega arith;
  room = omega arith;
  text = [];
  place = refl;
  bytes = refl;
  whole = refl;
  left = refl;
}

-- the next record is one, and its line has room
pub one_more : (input : List ℕ) {s₀ : State} {o₀ : List ℕ} {k most size : ℕ} {rest : List ℕ} {s : State} {o : List ℕ} {p : ℕ} (n : ℕ)
    → Running input s₀ o₀ k most size rest s o p → n + 1 ≡ most → 0 < length rest → (k < 2000) × (p + 33 ≤ 33 * count_in (length input))
one_more input n r m h = (omega (arith, r.counted, m, h), omega (arith, r.counted, r.room, m, h))

-- one record more
pub running_more : (input : List ℕ) (s₀ : State) (o₀ : List ℕ) (chunk : List ℕ) {k k' j most most' size size' : ℕ} {rest rest' : List ℕ} {s s' : State} {o o' : List ℕ} {p p' : ℕ}
    → Running input s₀ o₀ k most size rest s o p
    → j ≡ k → k' ≡ k + 1 → most' + 1 ≡ most → size' ≡ size → rest ≡ chunk ++ rest' → length chunk ≡ min size (length rest) → 0 < length rest
    → s' ≡ left_by s (decoded chunk) → p' ≡ p + length (line_of (j + 1) (answer_to s (decoded chunk)))
    → o' ≡ sets o p (line_of (j + 1) (answer_to s (decoded chunk))) → p' ≤ p + 33
    → Running input s₀ o₀ k' most' size' rest' s' o' p'
unfolding answers_to lines_from left_by_all decoded_all
running_more input s₀ o₀ chunk {k} {k'} {j} {most} {most'} {size} {size'} {rest} {rest'} {s} {s'} {o} {o'} {p} {p'} r ej ek em ez er el h es ep eo fits =
    let line : List ℕ = line_of (k + 1) (answer_to s (decoded chunk)) in
    let as_numbered : line_of (j + 1) (answer_to s (decoded chunk)) ≡ line = ap (λ (n : ℕ). line_of (n + 1) (answer_to s (decoded chunk))) ej in
    let short : length chunk ≡ min 24 (length rest) = el ∙ ap (λ (n : ℕ). min n (length rest)) r.by in
    let next : records_of most rest ≡ chunk ∷ records_of most' rest' = rest_next most most' rest chunk rest' (sym em) er short h in
    let all : length rest ≡ length chunk + length rest' = ap length er ∙ length-append chunk rest' in record {
      by = ez ∙ r.by;
      counted = omega (arith, r.counted, ek, em, short, all, h);
      room = omega (arith, r.room, ek, fits);
      text = r.text ++ line;
      place = ep ∙ rw (as_numbered, length-append, r.place);
      bytes = eo ∙ rw (as_numbered, r.place, r.bytes, sets_append o₀ 0 r.text line, zero-add);
      whole = rw (ek)
          (append_assoc r.text line _
          ∙ (ap (λ (t : State). r.text ++ (line ++ lines_from (k + 1 + 1) (answers_to t (decoded_all (records_of most' rest'))))) es
          ∙ (ap (λ (rs : List (List ℕ)). r.text ++ lines_from (k + 1) (answers_to s (decoded_all rs))) (sym next) ∙ r.whole)));
      left =
          ap (λ (t : State). left_by_all t (decoded_all (records_of most' rest'))) es
          ∙ (ap (λ (rs : List (List ℕ)). left_by_all s (decoded_all rs)) (sym next) ∙ r.left);
    }

-- after the last one
module _ (input : List ℕ) (s₀ : State) (o₀ : List ℕ) {k most size : ℕ} {rest : List ℕ} {s : State} {o : List ℕ} {p : ℕ} (r : Running input s₀ o₀ k most size rest s o p)
    (e : 0 < most → length rest ≡ 0) where
  none : decoded_all (records_of most rest) ≡ []
  unfolding decoded_all
  none = ap decoded_all (rest_none most rest e)

  pub ran_left : s ≡ left_by_all s₀ (decoded_in input)
  unfolding left_by_all
  ran_left = sym (ap (left_by_all s) none) ∙ r.left

  ran_text : r.text ≡ lines_from 1 (answers_to s₀ (decoded_in input))
  unfolding answers_to lines_from
  ran_text = sym (append-nil r.text) ∙ (ap (λ (ds : List (Option Change)). r.text ++ lines_from (k + 1) (answers_to s ds)) (sym none) ∙ r.whole)

  pub ran_place : p ≡ length (lines_from 1 (answers_to s₀ (decoded_in input)))
  ran_place = r.place ∙ ap length ran_text

  pub ran_within : p ≤ 33 * count_in (length input)
  ran_within = omega (arith, r.counted, r.room)

  pub ran_bytes : p ≤ length o₀ → o ≡ lines_from 1 (answers_to s₀ (decoded_in input)) ++ drop p o₀
  ran_bytes h =
      let fits : 0 + length r.text ≤ length o₀ = omega (arith, h, r.place) in
      r.bytes
      ∙ (sets-eq r.text o₀ 0 fits
      ∙ (ap (λ (n : ℕ). r.text ++ drop n o₀) (zero-add (length r.text) ∙ sym r.place)
      ∙ ap (λ (t : List ℕ). t ++ drop p o₀) ran_text))

-- by which the line of a record is proved
pub ruleset line_put = (place_put, bytes_put)
