use mathlib.Core.Path.{sym}
use Rattle.conferral.specs.Postings.{posting}
use Rattle.conferral.proofs.PostingLaws.{book_as}
use Rattle.conferral.proofs.bookings.book.Goals as goal

pub returns : goal.returns
returns c =
    book_as c.args.r c.args.g c.args.free.now c.args.ledger.now (sym c.if-not-is_span.ensures) (posting _ _ _ _) _ _ c.post-amount.ensures c.entry_in-place.ensures (rw c.days.ensures at c.take_free.ensures)
