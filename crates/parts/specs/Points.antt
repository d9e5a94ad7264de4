-- Document 01, "The register" and question 1: delivery points.
-- Assumes nothing.
use Rattle.std.specs.Prelude.{Bool, ◌||◌, List, [], ◌∷◌, leb, ltb, eqb}
use Rattle.days.specs.Days.{between}
use Rattle.parts.specs.declared.points.Point.{Point}
use Rattle.parts.specs.Limits.{most_amount, most_rate}
use Rattle.parts.specs.Tests.{every}

-- an open point has a kind
abbrev pub is_open : Point → Bool
is_open p = ltb 0 p.kind

-- "1 direct"
abbrev pub is_direct : Point → Bool
is_direct p = eqb p.kind 1

-- "A point is closed, or has a kind (1 direct, 2 thermoelectric), a total of 1 to 9,999,999 and a rate of 0 to 999,999": a closed
-- one has nothing set
abbrev pub closed_tests : Point → List Bool
closed_tests p = eqb p.kind 0 ∷ eqb p.total 0 ∷ eqb p.rate 0 ∷ []

abbrev pub open_tests : Point → List Bool
open_tests p = between 1 2 p.kind ∷ between 1 most_amount p.total ∷ leb p.rate most_rate ∷ []

abbrev pub point_ok : Point → Bool
point_ok p = every (closed_tests p) || every (open_tests p)
