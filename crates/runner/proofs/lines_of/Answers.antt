use Rattle.std.proofs.Common.{rules, ap, sym, ◌∙◌}
use Rattle.parts.specs.Answers.{amount_of_answer}
use Rattle.runner.proofs.Sessions.{accepted, is_accepted, lines_told}
use Rattle.runner.proofs.lines_of.Goals as goal

pub unwrap-requires : goal.unwrap-requires
unwrap-requires c = is_accepted _ (c.run-ran.ensures.number ∙ accepted _ _ _ _ (search rules) (search rules) (search rules))

pub returns-clause-text : goal.returns-clause-text
returns-clause-text c =
    lines_told _ _ _ _ (search rules) (search rules) (search rules) c.run-ran.ensures.bytes
    (sym (ap amount_of_answer c.unwrap.ensures) ∙ c.run-ran.ensures.written)
