-- A run over lists and a buffer of the lengths that it asks is accepted; what is written of the buffer is what is printed for the input,
-- and the bytes behind 2,000 records make no difference to that.
-- Assumes nothing.
use Rattle.std.proofs.Common.{◌≡◌, ◌+◌, ◌*◌, not, true, ℕ, zero, suc, List, [], ◌∷◌, take, drop, length, refl, ap, arith}
use Rattle.std.proofs.Math.Seq.{take-append_seam}
use Rattle.std.proofs.lemmas.List.{drop-take, take-take}
use borrow.Author.Tests.{le-ltb}
use Rattle.std.specs.Result.{is_ok}
use Rattle.std.specs.Prelude.{Result, Ok, Err}
use Rattle.parts.specs.declared.answers.Refusal.{Refusal}
use Rattle.parts.specs.Answers.{number_of_answer}
use Rattle.parts.proofs.AnswerLaws.{refusal_number}
use Rattle.runs.specs.Runs.{records_of, records_in, has_room, printed, run_number, run_bytes, run_length}
use Rattle.runs.proofs.RecordLaws.{record_count}

-- bytes behind so many records are not looked at
records_first : (most n : ℕ) (bytes : List ℕ) → n ≡ 24 * most → records_of most (take n bytes) ≡ records_of most bytes
unfolding records_of
records_first zero n bytes e = refl
records_first (suc most) zero bytes e = absurd (omega (arith, e))
records_first (suc most) (suc k) [] e = refl
records_first (suc most) (suc k) (b ∷ bytes) e =
    let n : k ≡ 23 + 24 * most = omega (arith, e) in
    let front : take 23 (take k bytes) ≡ take 23 bytes = take-take 23 k bytes (omega (arith, n)) in
    let rest : drop 23 (take k bytes) ≡ take (24 * most) (drop 23 bytes) = rw n (drop-take 23 (24 * most) bytes) in
    rw (front, rest, records_first most (24 * most) (drop 23 bytes) refl)

pub printed_first : (bytes : List ℕ) → printed (take 48000 bytes) ≡ printed bytes
printed_first bytes = rw (records_first 2000 48000 bytes refl)

module _ (input f ls out : List ℕ) where
  room_for_all : length out ≡ 66000 → has_room input out ≡ true
  room_for_all room =
      ap not (le-ltb (length out) (33 * length (records_in input)) (omega (arith, room, record_count 2000 input)))

  pub accepted : length out ≡ 66000 → length f ≡ 11712 → length ls ≡ 10240 → run_number input f ls out ≡ 0
  unfolding run_number
  accepted room table lines = rw (room_for_all room, table, lines)

  pub text : run_number input f ls out ≡ 0 → take (run_length input f ls out) (run_bytes input f ls out) ≡ printed input
  unfolding run_length run_bytes
  text e = rw e (take-append_seam (printed input) (drop (length (printed input)) out))

-- what is answered 0 is no refusal
pub is_accepted : {A : Type 0} (a : Result A Refusal) → number_of_answer a ≡ 0 → is_ok a ≡ true
is_accepted (Ok n) e = refl
is_accepted (Err why) e = absurd (omega (arith, refusal_number why, e))

-- the part of the buffer that is written
pub lines_told : (input f ls out : List ℕ) {out' : List ℕ} {written : ℕ} → length out ≡ 66000 → length f ≡ 11712 → length ls ≡ 10240
    → out' ≡ run_bytes input f ls out → written ≡ run_length input f ls out → take written out' ≡ printed input
lines_told input f ls out room table lines eb ew = rw (eb, ew) (text input f ls out (accepted input f ls out room table lines))
