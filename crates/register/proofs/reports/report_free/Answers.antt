use native.Mathlib.Omega.{arith}
use Rattle.parts.specs.Registers.{state_in}
use Rattle.register.proofs.ReportLaws.{place_in}
use Rattle.register.proofs.reports.report_free.Goals as goal

-- the entry lies in the table
pub offset_bounds-v-entry_in : goal.offset_bounds-v-entry_in
offset_bounds-v-entry_in c = omega (arith, place_in (state_in c.args.v) _ _ _ _ _ c.report_answer.ensures c.in_ok-report_answer.was c.entry_in.ensures)

pub bounds-v-entry_in : goal.bounds-v-entry_in
bounds-v-entry_in c = place_in (state_in c.args.v) _ _ _ _ _ c.report_answer.ensures c.in_ok-report_answer.was c.entry_in.ensures
