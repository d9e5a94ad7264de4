use Rattle.parts.specs.Registers.{state}
use Rattle.parts.proofs.AnswerLaws.{zero_number}
use Rattle.placing.proofs.PlaceLaws.{facts}
use Rattle.placing.proofs.placing.place_guarantee.Goals as goal

pub with_user_on_file-requires : goal.with_user_on_file-requires
with_user_on_file-requires c =
    (facts (state c.args.r c.args.free.now c.args.ledger.now) _ _ (zero_number _ _ _ c.place_answer.ensures c.in_default.is)).user
