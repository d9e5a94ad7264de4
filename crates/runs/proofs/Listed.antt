-- What the records leave and are answered is what the list of their calls leaves and is answered.
-- Assumes nothing.
use mathlib.Core.Path.{◌≡◌, refl, ap}
use mathlib.Core.List.{List, [], ◌∷◌}
use Rattle.parts.specs.Registers.{State}
use Rattle.reckoning.specs.Calls.{Answer, after, after_all, answer, answers}
use Rattle.history.specs.declared.changes.Change.{Change}
use Rattle.std.specs.Prelude.{Option, Some, None}
use Rattle.runs.specs.Runs.{call_held, calls_among, answers_to, of_calls}
use Rattle.runs.specs.Steps.{left_by_all}

pub left_listed : (s : State) (ds : List (Option Change)) → left_by_all s ds ≡ after_all s (calls_among ds)
unfolding left_by_all calls_among
left_listed s [] = refl
left_listed s (Some c ∷ ds) = left_listed (after s (call_held c)) ds
left_listed s (None ∷ ds) = left_listed s ds

pub answers_listed : (s : State) (ds : List (Option Change)) → of_calls ds (answers_to s ds) ≡ answers s (calls_among ds)
unfolding of_calls answers_to calls_among
answers_listed s [] = refl
answers_listed s (Some c ∷ ds) = ap (λ (l : List Answer). answer s (call_held c) ∷ l) (answers_listed (after s (call_held c)) ds)
answers_listed s (None ∷ ds) = answers_listed s ds
