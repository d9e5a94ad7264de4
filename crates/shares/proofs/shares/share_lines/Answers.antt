-- `share_lines` meets its contract: where a batch can be shared out each step's answer is what the definition says, and
-- any other batch leaves both lists.
-- Assumes nothing.
use mathlib.Core.Path.{sym, ◌∙◌}
use Rattle.shares.specs.Batches.{batch_in}
use Rattle.shares.proofs.CanShareLaws.{shares_kept, numbers_kept}
use Rattle.shares.proofs.LoopLaws.{sum_ready, shares_ready, shares_are, numbers_are}
use Rattle.shares.proofs.shares.share_lines.Goals as goal

pub returns-then-not-can_share : goal.returns-then-not-can_share
returns-then-not-can_share c =
    let no = sym c.can_share.ensures ∙ c.if-not-can_share.true in
    record { shares = shares_kept c.args.r.now c.args.free.now (batch_in c.args.b) c.args.shares.now c.args.numbers.now no; numbers = numbers_kept c.args.r.now c.args.free.now (batch_in c.args.b) c.args.shares.now c.args.numbers.now no }

pub sum_asked-sum-requires : goal.sum_asked-sum-requires
sum_asked-sum-requires c =
    sum_ready c.args.r.now c.args.free.now (batch_in c.args.b) c.args.shares.now c.args.numbers.now _ (sym c.can_share.ensures ∙ c.if-not-can_share.false) c.ask_lines.ensures

pub share_out-requires : goal.share_out-requires
share_out-requires c =
    shares_ready c.args.r.now c.args.free.now (batch_in c.args.b) c.args.shares.now c.args.numbers.now _ (sym c.can_share.ensures ∙ c.if-not-can_share.false) c.ask_lines.ensures

pub returns : goal.returns
returns c =
    let able = sym c.can_share.ensures ∙ c.if-not-can_share.false in
    let F = c.free_of_year-smallest.ensures in
    let S = c.sum_asked-sum.ensures in
    record {
      shares = shares_are c.args.r.now c.args.free.now (batch_in c.args.b) c.args.shares.now c.args.numbers.now _ able c.ask_lines.ensures _ _ F S _ c.share_out.ensures.shares;
      numbers = numbers_are c.args.r.now c.args.free.now (batch_in c.args.b) c.args.shares.now c.args.numbers.now _ able c.ask_lines.ensures _ _ F S _ c.share_out.ensures.numbers;
    }
