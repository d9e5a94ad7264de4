-- What the private functions of `run` compute on the way.
-- Assumes nothing.
use Rattle.std.specs.Prelude.{ℕ, ◌+◌, ◌/◌, min, List, [], ◌∷◌}
use Rattle.parts.specs.Registers.{State}
use Rattle.records.specs.Records.{record_length}
use Rattle.history.specs.declared.changes.Change.{Change}
use Rattle.std.specs.Prelude.{Option}
use Rattle.runs.specs.Runs.{most_records, left_by}

-- how many records so many bytes have
abbrev pub count_in : ℕ → ℕ
count_in bytes = min most_records ((bytes + 23) / record_length)

-- what some records leave
unfoldable pub left_by_all : State → List (Option Change) → State
left_by_all s [] = s
left_by_all s (d ∷ ds) = left_by_all (left_by s d) ds
