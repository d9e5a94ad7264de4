-- Which of the two streams failed.
-- Assumes nothing.
use Rattle.runner.specs.declared.Failure.{Failure}
use Rattle.runner.specs.declared.Failure.TheVariants.{Reading, Writing}

-- P, where a read failed
abbrev pub IfReading : Failure → Type 0 → Type 0
IfReading (Reading e) P = P
IfReading (Writing e) P = Unit
