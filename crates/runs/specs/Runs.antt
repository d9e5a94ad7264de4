-- Document 01, "Report and runner": what the runner makes of its input.
-- Assumes nothing.
use Rattle.std.specs.Prelude.{ℕ, zero, suc, ◌+◌, ◌*◌, ◌≡◌, Bool, not, List, [], ◌∷◌, ◌++◌, ltb, length, take, drop}
use Rattle.parts.specs.Registers.{State, state, blank_register}
use Rattle.parts.specs.Answers.{Question, ◌asks◌, number_of, leaves}
use Rattle.register.specs.Fresh.{fresh_questions, fresh_state}
use Rattle.history.specs.declared.changes.Change.{Change}
use Rattle.reckoning.specs.Calls.{Call, Answer, told, answer, after, answers, register_after}
use Rattle.history.specs.Changes.{call_of}
use Rattle.reckoning.specs.Reckoning.{reckoned}
use Rattle.reckoning.specs.Demand3.{Balances, Demand3}
use Rattle.records.specs.Records.{record_length, decoded}
use Rattle.std.specs.Prelude.{Option, Some, None}
use Rattle.printing.specs.Lines.{answer_line, longest_line}

-- "starts from a fresh register of 2000"
abbrev pub first_year : ℕ
first_year = 2000

-- "at most 2,000 records"
abbrev pub most_records : ℕ
most_records = 2000

-- ---- what is read
-- "records of 24 bytes, no header, and no byte after them": the first records of some bytes, at most so many. The last may be short
unfoldable pub records_of : ℕ → List ℕ → List (List ℕ)
records_of zero bytes = []
records_of (suc most) [] = []
records_of (suc most) (b ∷ bytes) = take record_length (b ∷ bytes) ∷ records_of most (drop record_length (b ∷ bytes))

abbrev pub records_in : List ℕ → List (List ℕ)
records_in input = records_of most_records input

-- what each of them is: a call, or none
unfoldable pub decoded_all : List (List ℕ) → List (Option Change)
decoded_all [] = []
decoded_all (s ∷ ss) = decoded s ∷ decoded_all ss

abbrev pub decoded_in : List ℕ → List (Option Change)
decoded_in input = decoded_all (records_in input)

-- the call itself. No record holds a batch, so the four lists are empty
abbrev pub call_held : Change → Call
call_held c = call_of c [] [] 0 0

-- the calls, in order
unfoldable pub calls_among : List (Option Change) → List Call
calls_among [] = []
calls_among (Some c ∷ ds) = call_held c ∷ calls_among ds
calls_among (None ∷ ds) = calls_among ds

abbrev pub calls_in : List ℕ → List Call
calls_in input = calls_among (decoded_in input)

-- ---- what is answered
-- a call's answer; what "is no call .. gives 2"
abbrev pub answer_to : State → Option Change → Answer
answer_to s (Some c) = answer s (call_held c)
answer_to s None = told 2 0

-- what is no call leaves everything
abbrev pub left_by : State → Option Change → State
left_by s (Some c) = after s (call_held c)
left_by s None = s

unfoldable pub answers_to : State → List (Option Change) → List Answer
answers_to s [] = []
answers_to s (d ∷ ds) = answer_to s d ∷ answers_to (left_by s d) ds

-- the answers of those records that are calls
unfoldable pub of_calls : List (Option Change) → List Answer → List Answer
of_calls [] told = []
of_calls (d ∷ ds) [] = []
of_calls (Some c ∷ ds) (a ∷ told) = a ∷ of_calls ds told
of_calls (None ∷ ds) (a ∷ told) = of_calls ds told

-- ---- what is printed
-- "For each it prints position from 1, number (0 accepted), and amount granted or ceded (else 0)"
abbrev pub line_of : ℕ → Answer → List ℕ
line_of position a = answer_line position a.number a.amount

unfoldable pub lines_from : ℕ → List Answer → List ℕ
lines_from position [] = []
lines_from position (a ∷ rest) = line_of position a ++ lines_from (position + 1) rest

abbrev pub answers_in : List ℕ → List Answer
answers_in input = answers_to (fresh_state first_year) (decoded_in input)

abbrev pub printed : List ℕ → List ℕ
printed input = lines_from 1 (answers_in input)

-- ---- the run over lent lists and a lent buffer
-- a buffer has room if it has space for the longest line, once for each record
abbrev pub has_room : List ℕ → List ℕ → Bool
has_room input out = not (ltb (length out) (longest_line * length (records_in input)))

-- asked before anything is done: "a table of another length gives 2", and so do a ledger of another length and a buffer that is too short
abbrev pub run_questions : List ℕ → List ℕ → List ℕ → List ℕ → List Question
run_questions input f ls out = 2 asks has_room input out ∷ fresh_questions first_year f ls

unfoldable pub run_number : List ℕ → List ℕ → List ℕ → List ℕ → ℕ
run_number input f ls out = number_of (run_questions input f ls out)

-- the register, the table and the ledger are those of the list of calls; where the run is refused the register is of year 0, as that of
-- a refused fresh register, and nothing is altered
unfoldable pub run_leaves : List ℕ → List ℕ → List ℕ → List ℕ → State
run_leaves input f ls out =
    leaves (run_number input f ls out) (register_after first_year (calls_in input)) (state (blank_register 0) f ls)

-- the buffer begins with what is printed, and is what it was behind it
unfoldable pub run_bytes : List ℕ → List ℕ → List ℕ → List ℕ → List ℕ
run_bytes input f ls out = leaves (run_number input f ls out) (printed input ++ drop (length (printed input)) out) out

-- how many bytes are printed
unfoldable pub run_length : List ℕ → List ℕ → List ℕ → List ℕ → ℕ
run_length input f ls out = leaves (run_number input f ls out) (length (printed input)) 0

-- demand 3, of what a run left and printed: the register and the lists are those of the list of calls, and balance with its
-- reckoning; what is printed for the calls is what the list is answered; and demand 3 holds of the list
pub record Accounted (input : List ℕ) (left : State) : Type 0 where
  pub listed : left ≡ register_after first_year (calls_in input)
  pub balances : Balances left (reckoned first_year (calls_in input))
  pub answered : of_calls (decoded_in input) (answers_in input) ≡ answers (fresh_state first_year) (calls_in input)
  pub demand3 : Demand3 first_year (calls_in input)
