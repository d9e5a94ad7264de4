use Prim.Native.Nat.{◌*◌, ◌<◌}
use lib.ListN.{length}
use Rattle.runs.specs.Steps.{count_in}
use Rattle.runs.proofs.OutcomeLaws.{room_for_all, too_short, other_length, all_made}
use Rattle.parts.proofs.AnswerLaws.{zero_number, refused_number}
use native.Mathlib.Omega.{arith}
use Rattle.runs.proofs.running.run.Goals as goal

pub returns-then-out-count : goal.returns-then-out-count
returns-then-out-count c =
    let short : length c.args.out.now < 33 * count_in (length c.args.input.now) = omega (arith, c.record_count-count.ensures.0, c.if-out-count.true) in
    let w = too_short c.args.input.now c.args.free.now c.args.ledger.now c.args.out.now c.blank.result short c.blank.ensures in
    rw (c.refused.ensures.answer, c.refused.ensures.register) record { number = w.0; state = w.1.0; bytes = w.1.1.0; written = w.1.1.1.0; demand = w.1.1.1.1.0; within = w.1.1.1.1.1 }

pub returns-in-Ok : goal.returns-in-Ok
returns-in-Ok c =
    let after = c.take_records-after.ensures in
    let w = all_made c.args.input.now c.args.free.now c.args.ledger.now c.args.out.now _ _ _ _ (room_for_all _ _ _ c.record_count-count.ensures.0 c.if-out-count.false)
    (zero_number _ _ _ c.fresh_register-fresh.ensures.number c.in-Ok.is) c.fresh_register-fresh.ensures.state after.state after.place after.bytes after.bound in
    record { number = w.0; state = w.1.0; bytes = w.1.1.0; written = w.1.1.1.0; demand = w.1.1.1.1.0; within = w.1.1.1.1.1 }

pub returns-in-Err : goal.returns-in-Err
returns-in-Err c =
    let w = other_length c.args.input.now c.args.free.now c.args.ledger.now c.args.out.now c.in-Err.why _ (room_for_all _ _ _ c.record_count-count.ensures.0 c.if-out-count.false)
    (refused_number _ _ _ c.fresh_register-fresh.ensures.number c.in-Err.is) c.fresh_register-fresh.ensures.state in
    rw (c.refused-in-Err.ensures.answer, c.refused-in-Err.ensures.register) record { number = w.0; state = w.1.0; bytes = w.1.1.0; written = w.1.1.1.0; demand = w.1.1.1.1.0; within = w.1.1.1.1.1 }
