-- `confer_lines` meets its contract: an accepted batch can be shared out, and its shares are booked as the definition says.
-- Assumes nothing.
use Rattle.shares.specs.Batches.{batch_in}
use Rattle.batches.proofs.LoopLaws.{shares_told, numbers_told, listed_ready, listed_booked}
use Rattle.batches.proofs.conferring.confer_lines.Goals as goal

pub book_shares-requires : goal.book_shares-requires
book_shares-requires c =
    listed_ready c.args.r c.args.free.now c.args.ledger.now (batch_in c.args.b) c.args.shares.now c.args.numbers.now c.requires _ c.share_lines.ensures.shares

pub returns : goal.returns
returns c = record {
  state = listed_booked _ _ _ _ _ _ c.requires _ c.share_lines.ensures.shares _ c.book_shares.ensures;
  shares = shares_told _ _ _ _ _ _ c.requires _ c.share_lines.ensures.shares;
  numbers = numbers_told _ _ _ _ _ _ c.requires _ c.share_lines.ensures.numbers;
}
