-- How each call is treated, on a register that agrees with the reckoning of the calls before it and whose commitments are backed.
-- Assumes nothing.
use Rattle.parts.specs.Registers.{State}
use Rattle.reckoning.specs.Calls.{Call, open_point, place_guarantee, request_capacity, confer_batch, cede_capacity, turn_year, answer}
use Rattle.reckoning.specs.Reckoning.{Reckoning}
use Rattle.reckoning.specs.Demand3.{Treated}
use Rattle.reckoning.proofs.Agreement.{Agree}
use Rattle.reckoning.proofs.Backing.{Backed}
use Rattle.reckoning.proofs.FilingTreatment.{open_treated, place_treated, turn_treated}
use Rattle.reckoning.proofs.RequestTreatment.{request_treated}
use Rattle.reckoning.proofs.BatchTreatment.{batch_treated}
use Rattle.reckoning.proofs.CessionTreatment.{cession_treated}

pub treated : (s : State) (k : Reckoning) (c : Call) → Agree s k → Backed s → Treated s k c (answer s c)
treated s k (open_point p kind total rate) w backed = open_treated s k w p kind total rate
treated s k (place_guarantee u g) w backed = place_treated s k w u g
treated s k (request_capacity q) w backed = request_treated s k w q
treated s k (confer_batch b m n) w backed = batch_treated s b m n k w
treated s k (cede_capacity c) w backed = cession_treated s k w backed c
treated s k (turn_year y) w backed = turn_treated s k w y
