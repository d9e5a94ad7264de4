use mathlib.Core.Path.{ap, ◌∙◌}
use Rattle.parts.specs.Registers.{state}
use Rattle.parts.specs.Answers.{number_of_answer, amount_of_answer}
use Rattle.requests.proofs.AnswerLaws.{decided, refused}
use Rattle.requests.proofs.requesting.request_capacity.Goals as goal

-- what is decided, where it is a grant
pub returns-in-Ok : goal.returns-in-Ok
returns-in-Ok c =
    let w = decided (state c.args.r c.args.free.now c.args.ledger.now) c.args.q c.in-Ok.granted _ c.in-Ok.ensures c.book.ensures in
    record { number = w.0; amount = w.1.0; state = w.1.1 }

-- and where it is a refusal
pub returns-in-Err : goal.returns-in-Err
returns-in-Err c =
    let w = refused (state c.args.r c.args.free.now c.args.ledger.now) c.args.q c.in-Err.why c.in-Err.ensures in
    record {
      number = ap number_of_answer c.refused.ensures.answer ∙ w.0;
      amount = ap amount_of_answer c.refused.ensures.answer ∙ w.1.0;
      state = rw c.refused.ensures.register w.1.1;
    }
