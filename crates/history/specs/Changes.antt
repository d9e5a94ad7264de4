-- The calls as the code has them: an enum, with the four lists of a batch lent beside it.
-- Assumes nothing.
use Rattle.std.specs.Prelude.{ℕ, List}
use Rattle.parts.specs.Answers.{leaves}
use Rattle.shares.specs.Batches.{batch}
use Rattle.history.specs.declared.changes.Change.{Change}
use Rattle.history.specs.declared.changes.Change.TheVariants.{OpenPoint, PlaceGuarantee, RequestCapacity, ConferBatch, CedeCapacity, TurnYear}
use Rattle.reckoning.specs.Calls.{Call, open_point, place_guarantee, request_capacity, confer_batch, cede_capacity, turn_year, Answer}

-- the call: users and asked amounts are those of the lent lists, and the two that are written have m and n places. Only a batch looks at
-- them
abbrev pub call_of : Change → List ℕ → List ℕ → ℕ → ℕ → Call
call_of (OpenPoint o) us amounts m n = open_point o.point o.kind o.total o.rate
call_of (PlaceGuarantee g) us amounts m n = place_guarantee g.user g.guarantee
call_of (RequestCapacity q) us amounts m n = request_capacity q
call_of (ConferBatch p) us amounts m n = confer_batch (batch p us amounts) m n
call_of (CedeCapacity c) us amounts m n = cede_capacity c
call_of (TurnYear y) us amounts m n = turn_year y

-- what the two lists hold afterwards: what the answer of an accepted batch says, and else what they held
abbrev pub shares_left : Call → Answer → List ℕ → List ℕ
shares_left (open_point p kind total rate) a old = old
shares_left (place_guarantee u g) a old = old
shares_left (request_capacity q) a old = old
shares_left (confer_batch b m n) a old = leaves a.number a.shares old
shares_left (cede_capacity c) a old = old
shares_left (turn_year y) a old = old

abbrev pub numbers_left : Call → Answer → List ℕ → List ℕ
numbers_left (open_point p kind total rate) a old = old
numbers_left (place_guarantee u g) a old = old
numbers_left (request_capacity q) a old = old
numbers_left (confer_batch b m n) a old = leaves a.number a.numbers old
numbers_left (cede_capacity c) a old = old
numbers_left (turn_year y) a old = old
